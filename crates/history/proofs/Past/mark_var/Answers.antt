-- `history::Past::mark_var` meets its contract. Assumes nothing.
use Rattle.history.proofs.Marked.{mark_kept}
use Rattle.history.proofs.Past.mark_var.Goals as goal

pub returns : goal.returns
returns c = (mark_kept _ _ _ _ c.num_loc_at-known.result c.num_loc_at-known.ensures c.unwrap_or.ensures c.put_mark.ensures.0, c.put_mark.ensures.1)
