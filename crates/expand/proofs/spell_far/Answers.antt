-- `expand::spell_far` meets its contract. Assumes nothing.
use Rattle.ends.proofs.Ends.{noted_none}
use Rattle.expand.proofs.Walks.{over_itself, over_ends}
use Rattle.expand.proofs.spell_far.Goals as goal

pub note_ends-requires : goal.note_ends-requires
note_ends-requires c = noted_none

pub returns-then-never_over : goal.returns-then-never_over
returns-then-never_over c = over_itself c.args.st.now _ c.args.t _ c.never_over.ensures c.if-never_over.true _

pub spell_over-requires-clause-ends : goal.spell_over-requires-clause-ends
spell_over-requires-clause-ends c = over_ends c.args.st.now _ _ c.never_over.ensures c.if-never_over.false
