-- `table::ReadState::arg_at` meets its contract. Assumes nothing.
use mathlib.Core.Path.{sym}
use Rattle.table.proofs.Fields.{arg_read, arg_beyond}
use Rattle.table.proofs.read.ReadState.arg_at.Goals as goal

pub returns-then-k-wide : goal.returns-then-k-wide
returns-then-k-wide g c = λ ds many h. rw (c.words.ensures, c.wide.ensures, c.wide-2.ensures)
    (sym (arg_read _ _ ds _ many _ h (rw (c.wide-3.ensures, c.wide.ensures, c.wide-2.ensures, c.used.ensures) at c.if-k-wide.true)))

pub returns-else-k-wide : goal.returns-else-k-wide
returns-else-k-wide g c = λ ds many h. sym (arg_beyond _ _ ds _ many _ h (rw (c.wide-3.ensures, c.wide.ensures, c.wide-2.ensures, c.used.ensures) at c.if-k-wide.false))
