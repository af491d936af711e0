-- `history::Past::push_apply` meets its contract. Assumes nothing.
use borrow.Author.Rules.{rules}
use Rattle.history.proofs.Under.{past_on, did_on}
use Rattle.history.proofs.Past.push_apply.Goals as goal

pub invariant_of-self : goal.invariant_of-self
invariant_of-self c = record { holds = past_on c.args.self.now c.push_apply.new.self c.push_apply.ensures.changed.step.grown }

pub returns : goal.returns
returns c = did_on c.args.self.now c.push_apply.new.self c.push_apply.ensures.changed.step.grown (search rules) _ _ _ c.push_apply.ensures
