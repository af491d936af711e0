-- `history::rows::load_binding` meets its contract. Assumes nothing.
use mathlib.Core.List.{[]}
use mathlib.Core.Path.{sym, ◌∙◌}
use Rattle.history.proofs.Loading.{skips, adds}
use Rattle.history.proofs.rows.load_binding.Goals as goal

pub returns-in-None : goal.returns-in-None
returns-in-None c = skips c.requires.0 c.requires.1 (rw c.tvar.ensures at (sym (c.bound_at.ensures []) ∙ c.in-None.is))

pub returns-in-Some : goal.returns-in-Some
returns-in-Some c = adds c.requires.0 c.requires.1 _ (rw c.tvar.ensures at (sym (c.bound_at.ensures []) ∙ c.in-Some.is))
