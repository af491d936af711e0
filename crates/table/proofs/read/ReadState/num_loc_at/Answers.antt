-- `table::ReadState::num_loc_at` meets its contract. Assumes nothing.
use mathlib.Core.Path.{sym, ◌∙◌}
use Rattle.table.proofs.Fields.{num_read, num_beyond}
use Rattle.table.proofs.read.ReadState.num_loc_at.Goals as goal

pub returns-in_err-r : goal.returns-in_err-r
returns-in_err-r g c = λ ds. c.from_residual.ensures ∙ sym (num_beyond _ _ ds _ (rw c.used.ensures at c.in_err-r.ensures))

pub returns : goal.returns
returns g c = let row = rw (c.words.ensures, c.used.ensures) at c.in_ok-r.ensures in
    λ ds. rw row.1 at c.option_at.ensures ∙ sym (num_read _ _ ds _ row.0)
