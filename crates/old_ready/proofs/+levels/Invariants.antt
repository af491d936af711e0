-- `old_ready::levels` meets its contract. Assumes nothing.
use Rattle.ends.proofs.Itself.{Read}
use Rattle.history.specs.Past.{as_rows}
use Rattle.old_ready.proofs.+levels.Given as goal

abbrev pub decreases-levels : goal.decreases-levels
decreases-levels l = l.left

abbrev pub invariant-loop-i : goal.invariant-loop-i
invariant-loop-i l = Read (as_rows l.past) l.t l.left l.s l.i-end l.heights l.high l.i
