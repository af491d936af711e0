-- `abilities::granted` meets its contract. Assumes nothing.
use mathlib.Core.Path.{ap, ◌∙◌}
use Rattle.std.specs.Prelude.{None}
use Rattle.abilities.specs.Rules.{is_contradicted}
use Rattle.abilities.proofs.Laws.{granted_is}
use Rattle.abilities.proofs.granted.Goals as goal

pub returns : goal.returns
returns g c = λ ds k. c.is_contradicted.ensures ∙ ap is_contradicted (c.apply_rule.ensures.1 ds k None) ∙ granted_is _ None _ _ _
