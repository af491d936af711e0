-- `ends::near_over` meets its contract. Assumes nothing.
use mathlib.Core.Path.{sym, ◌∙◌}
use Rattle.ends.proofs.Itself.{reaches_soon}
use Rattle.ends.proofs.near_over.Goals as goal

pub returns : goal.returns
returns g c = λ z. reaches_soon _ _ _ (rw c.used.ensures at c.soon_over.ensures) (sym c.is_some.ensures ∙ z)
