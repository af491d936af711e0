-- The loop of `compare::check_from`. Assumes nothing.
use Rattle.checklog.specs.Checked.{Going}
use Rattle.checklog.proofs.compare.check_from.Given as goal

abbrev pub invariant-loop-record : goal.invariant-loop-record
invariant-loop-record l = Going l.fn.words l.fn.rows l.stream l.words l.rows l.payload l.rest l.tally l._record
