-- `constraints::default_num_vars` meets its contract. Assumes nothing.
use Rattle.constraints.proofs.Defaults.{Defaulting}
use Rattle.constraints.proofs.default_num_vars.Given as goal

abbrev pub invariant-loop-v : goal.invariant-loop-v
invariant-loop-v l = Defaulting l.initial.st l.st l.v
