-- `table::mark_at` meets its contract. Assumes nothing.
use borrow.Author.Tests.{lt-ltb, le-ltb}
use Rattle.table.specs.Rows.{read_mark}
use Rattle.table.proofs.mark_at.Goals as goal

pub returns-then-x-lt16 : goal.returns-then-x-lt16
unfolding read_mark
returns-then-x-lt16 c = simp (lt-ltb _ _ c.if-x-lt16.true)

pub returns-else-x-lt16 : goal.returns-else-x-lt16
unfolding read_mark
returns-else-x-lt16 c = simp (le-ltb _ _ c.if-x-lt16.false, c.set_at.ensures)
