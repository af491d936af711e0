-- `abilities::apply_rule` meets its contract. Assumes nothing.
use mathlib.Core.Bool.{not}
use mathlib.Core.Path.{ap, ◌∙◌}
use Rattle.abilities.proofs.Laws.{requires_some, rule_not, rule_by}
use Rattle.abilities.proofs.apply_rule.Goals as goal

pub returns-then-not-has : goal.returns-then-not-has
returns-then-not-has g c = (tt, λ ds k m. rule_not _ _ _ _ (c.declared_abilities.ensures ds k.rows) _ c.has.ensures m _ (ap not c.if-not-has.true))

pub lacking-requires : goal.lacking-requires
lacking-requires g c = (c.requires.0, rw c.requires_of-needed.ensures (requires_some _ c.requires.1))

pub by_argument-requires : goal.by_argument-requires
by_argument-requires g c = c.lacking.ensures.0

pub returns : goal.returns
returns g c = (
  c.by_argument.ensures.0,
  λ ds k m. c.by_argument.ensures.1 ∙ rule_by _ _ _ _ (c.declared_abilities.ensures ds k.rows) _
      c.has.ensures m _ (ap not c.if-not-has.false) _ _
      c.requires_of-needed.ensures (c.lacking.ensures.1 ds k),
)
