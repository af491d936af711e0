-- `history::Past::take_var` meets its contract. Assumes nothing.
use borrow.Author.Rules.{rules}
use Rattle.history.proofs.Under.{past_on, took_on}
use Rattle.history.proofs.Past.take_var.Goals as goal

pub invariant_of-self : goal.invariant_of-self
invariant_of-self c = record { holds = past_on c.args.self.now c.take_var.new.self c.take_var.ensures.changed.step.grown }

pub returns : goal.returns
returns c = took_on c.args.self.now c.take_var.new.self c.take_var.ensures.changed.step.grown (search rules) c.take_var.result c.take_var.ensures
