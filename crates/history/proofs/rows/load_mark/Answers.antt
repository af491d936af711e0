-- `history::rows::load_mark` meets its contract. Assumes nothing.
use mathlib.Core.List.{[]}
use mathlib.Core.Path.{refl}
use Rattle.history.proofs.Loading.{marks_on}
use Rattle.history.proofs.rows.load_mark.Goals as goal

pub returns : goal.returns
returns c = rw c.wide.ensures (marks_on _ c.requires.0 c.requires.1 refl (rw c.tvar-v.ensures at (c.num_loc_at.ensures [])) (rw c.tvar-v.ensures at (c.need_at.ensures [])))
