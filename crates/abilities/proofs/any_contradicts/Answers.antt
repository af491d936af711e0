-- `abilities::any_contradicts` meets its contract. Assumes nothing.
use mathlib.Core.Bool.{not}
use mathlib.Core.Path.{ap, ◌∙◌}
use Rattle.abilities.proofs.Checked.{nothing_missing}
use Rattle.abilities.proofs.any_contradicts.Goals as goal

pub returns-else-any_missing : goal.returns-else-any_missing
returns-else-any_missing g c = λ ds k. c.if-any_missing.false ∙ nothing_missing _ _ _ _ (c.any_missing.ensures ds k) (ap not c.if-any_missing.false)
