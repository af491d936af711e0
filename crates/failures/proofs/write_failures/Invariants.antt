-- `failures::write_failures` meets its contract. Assumes nothing.
use Rattle.abilities.specs.Kept.{Knows}
use Rattle.failures.proofs.Series.{Written}
use Rattle.failures.proofs.Rows.{all_failures, failures_from}
use Rattle.failures.proofs.write_failures.Given as goal

abbrev pub invariant-loop-i : goal.invariant-loop-i
invariant-loop-i l = Written (Knows l.st l.params) l.st.used.constraints (failures_from l.st) (all_failures l.st) l.initial.buf 0 l.buf l.next l.i
