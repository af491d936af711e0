-- `instantiate::join_args` meets its contract. Assumes nothing.
use Rattle.names.specs.Names.{mark_of, name_of}
use Rattle.instantiate.proofs.JoinLaws.{Joining}
use Rattle.instantiate.proofs.join_args.Given as goal

abbrev pub invariant-loop-i : goal.invariant-loop-i
invariant-loop-i l = Joining l.loc (mark_of l.ty.k) (name_of l.ty.n) l.tparams.tys l.tys l.c l.initial.st l.st l.parts l.i
