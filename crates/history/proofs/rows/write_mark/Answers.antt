-- `history::rows::write_mark` meets its contract. Assumes nothing.
use Rattle.history.proofs.Back.{mark_words}
use Rattle.history.proofs.rows.write_mark.Goals as goal

pub returns : goal.returns
returns c = mark_words _ _ _ _ c.args.m _ c.is_some.ensures c.unwrap_or.ensures (rw (c.wide.ensures, c.from.ensures) at c.write_words.ensures)
