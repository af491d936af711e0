-- `instantiate::make_tparams` meets its contract. Assumes nothing.
use Rattle.names.specs.Names.{name_of}
use Rattle.instantiate.proofs.MadeLaws.{Making}
use Rattle.instantiate.proofs.make_tparams.Given as goal

abbrev pub invariant-loop-i : goal.invariant-loop-i
invariant-loop-i l = Making l.params l.loc (name_of l.n) l.ty.first l.ty.many l.many l.initial.st l.st l.tvars l.i
