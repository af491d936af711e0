-- `failures::write_constraint` meets its contract. Assumes nothing.
use Rattle.abilities.specs.Kept.{Knows}
use Rattle.table.specs.State.{constraint_of}
use Rattle.failures.proofs.Series.{Written}
use Rattle.failures.proofs.Rows.{all_rows, rows_from}
use Rattle.failures.proofs.write_constraint.Given as goal

abbrev pub invariant-loop-k : goal.invariant-loop-k
invariant-loop-k l = Written (Knows l.st l.params) l.n (rows_from l.st (constraint_of l.c)) (all_rows l.st (constraint_of l.c)) l.initial.buf l.at l.buf l.next l.k
