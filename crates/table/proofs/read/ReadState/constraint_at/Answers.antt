-- `table::ReadState::constraint_at` meets its contract. Assumes nothing.
use mathlib.Core.Path.{sym, ◌∙◌}
use Rattle.table.proofs.Fields.{constraint_read}
use Rattle.table.proofs.read.ReadState.constraint_at.Goals as goal

pub returns : goal.returns
returns g c = λ ds. rw (rw c.words.ensures at c.constraint_words_at-r.ensures) at c.constraint_of.ensures ∙ sym (constraint_read _ _ ds _ c.requires)
