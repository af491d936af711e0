-- `tparams::subst_apply` and `tparams::subst_down` meet their contracts. Assumes nothing.
use Rattle.definition.specs.TParams as D
use Rattle.names.specs.Names.{mark_of, name_of}
use Rattle.tparams.specs.Made.{subst_of}
use Rattle.table.specs.State.{Any}
use Rattle.table.proofs.Walk.{sp_apply}
use Rattle.shapes.proofs.Going.{Going}
use Prim.Native.Nat.{◌+◌, ◌*◌}
use Rattle.tparams.proofs.+subst_apply_subst_down.Given as goal

abbrev pub decreases-subst_apply : goal.decreases-subst_apply
decreases-subst_apply l = 2 * l.left + 1

abbrev pub decreases-subst_down : goal.decreases-subst_down
decreases-subst_down l = 2 * l.left

abbrev pub invariant-subst_apply-loop-i : goal.invariant-subst_apply-loop-i
invariant-subst_apply-loop-i l = Going Any (D.subst_down l.left (subst_of l.subst)) (sp_apply l.loc (mark_of l.ty.k) (name_of l.ty.n)) l.ty.first l.ty.many l.initial.st l.st l.parts l.i
