-- `table::ReadState::need_at` meets its contract. Assumes nothing.
use mathlib.Core.Path.{sym, ap, ◌∙◌}
use Rattle.table.proofs.Fields.{need_read, need_beyond}
use Rattle.table.specs.declared.CellWords.{CellWords}
use Rattle.table.proofs.read.ReadState.need_at.Goals as goal

pub returns-in-Some : goal.returns-in-Some
returns-in-Some g c = let row = rw (c.words.ensures, c.used.ensures) at c.in-Some.ensures in
    λ ds. ap (λ (r : CellWords). r.need) row.1 ∙ sym (need_read _ _ ds _ row.0)

pub returns-in-None : goal.returns-in-None
returns-in-None g c = λ ds. sym (need_beyond _ _ ds _ (rw c.used.ensures at c.in-None.ensures))
