-- `history::Past::put_mark` meets its contract. Assumes nothing.
use Rattle.history.proofs.Marked.{past_marks, marks_hold, past_marked, none_marked}
use Rattle.history.proofs.Past.put_mark.Goals as goal

pub bounds-self-self : goal.bounds-self-self
bounds-self-self c = past_marks c.args.self.now _ _ c.args.numeric c.args.need c.from-i.ensures.0 c.requires c.if-i-self.true

pub invariant_of-self : goal.invariant_of-self
invariant_of-self c = record { holds = marks_hold c.args.self.now _ _ _ _ c.from-i.ensures.0 c.requires c.if-i-self.true }

pub returns-then-i-self : goal.returns-then-i-self
returns-then-i-self c = past_marked c.args.self.now _ _ _ _ c.from-i.ensures.0 c.requires c.if-i-self.true _

pub returns-else-i-self : goal.returns-else-i-self
returns-else-i-self c = none_marked c.args.self.now _ _ _ _ c.from-i.ensures.0 c.requires c.if-i-self.false
