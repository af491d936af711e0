-- `history::Past::bind_var` meets its contract. Assumes nothing.
use Rattle.history.proofs.Bound.{past_fits, past_holds, past_bound, past_same}
use Rattle.history.proofs.Past.bind_var.Goals as goal

pub bounds-self-self : goal.bounds-self-self
bounds-self-self c = past_fits c.args.self.now _ _ _ c.from-i.ensures.0 c.requires c.if-i-self.true

pub invariant_of-self : goal.invariant_of-self
invariant_of-self c = record { holds = past_holds c.args.self.now _ _ _ c.from-i.ensures.0 c.requires c.if-i-self.true }

pub returns-then-i-self : goal.returns-then-i-self
returns-then-i-self c = past_bound c.args.self.now _ _ _ c.from-i.ensures.0 c.requires c.if-i-self.true _

pub returns-else-i-self : goal.returns-else-i-self
returns-else-i-self c = past_same c.args.self.now _ _ _ c.from-i.ensures.0 c.requires c.if-i-self.false
