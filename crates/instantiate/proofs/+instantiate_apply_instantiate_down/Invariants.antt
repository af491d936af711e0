-- `instantiate::instantiate_apply` and `instantiate::instantiate_down` meet their contracts. Assumes nothing.
use lib.ListN.{take}
use Rattle.definition.specs.Instantiate as D
use Rattle.names.specs.Names.{mark_of, name_of}
use Rattle.shapes.proofs.Going.{Going}
use Rattle.instantiate.specs.Args.{joined}
use Rattle.instantiate.proofs.MadeLaws.{KnownTo}
use Prim.Native.Nat.{◌+◌, ◌*◌}
use Rattle.instantiate.proofs.+instantiate_apply_instantiate_down.Given as goal

abbrev pub decreases-instantiate_apply : goal.decreases-instantiate_apply
decreases-instantiate_apply l = 2 * l.left + 1

abbrev pub decreases-instantiate_down : goal.decreases-instantiate_down
decreases-instantiate_down l = 2 * l.left

abbrev pub invariant-instantiate_apply-loop-i : goal.invariant-instantiate_apply-loop-i
invariant-instantiate_apply-loop-i l =
    Going (KnownTo l.initial.st l.params) (D.instantiate_down l.left) (joined l.loc (mark_of l.ty.k) (name_of l.ty.n) (take l.tparams.many l.tparams.tys)) l.ty.first l.ty.many l.initial.st l.st l.parts l.i
