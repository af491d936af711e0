-- `abilities::shape_rule` meets its contract. Assumes nothing.
use borrow.Enum.Refused.{opened}
use Rattle.definition.specs.Store.{with_args}
use Rattle.abilities.proofs.Sets.{ready_args, rule_plain}
use Rattle.abilities.proofs.shape_rule.Goals as goal

pub apply_rule-requires : goal.apply_rule-requires
apply_rule-requires g c = (ready_args _ _ _ _ _ c.requires.0 c.in-Apply.is, c.requires.1)

pub returns-in-Apply : goal.returns-in-Apply
unfolding with_args
returns-in-Apply g c = (c.apply_rule.ensures.0, rw c.in-Apply.is (λ ds k. c.apply_rule.ensures.1 ds k _))

pub returns-in_default : goal.returns-in_default
returns-in_default g c = (tt, λ ds k. rule_plain c.args.s (opened c.in_default.in_default-own.keys2) _ _)
