-- `failures::size_failures` meets its contract. Assumes nothing.
use Rattle.abilities.specs.Kept.{Knows}
use Rattle.failures.proofs.Series.{Sized}
use Rattle.failures.proofs.Rows.{all_failures, failures_from}
use Rattle.failures.proofs.size_failures.Given as goal

abbrev pub invariant-loop-i : goal.invariant-loop-i
invariant-loop-i l = Sized (Knows l.st l.params) l.st.used.constraints (failures_from l.st) (all_failures l.st) 4096 l.left l.i
