-- `history::rows::write_back` meets its contract. Assumes nothing.
use Rattle.history.proofs.Back.{blank_rows}
use Rattle.history.proofs.rows.write_back.Goals as goal

pub returns : goal.returns
returns c = c.write_marks.ensures _ (c.write_bindings.ensures _ (blank_rows _ _ _ _ c.requires.0 c.zero_rows.ensures))
