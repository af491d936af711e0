-- `expand::spell_type` meets its contract. Assumes nothing.
use mathlib.Core.Path.{refl}
use Rattle.expand.proofs.Walks.{over_ends}
use Rattle.expand.proofs.spell_type.Goals as goal

pub spell_over-requires-clause-ends : goal.spell_over-requires-clause-ends
spell_over-requires-clause-ends c = over_ends c.args.st.now _ _ (c.near_over.ensures c.if-near_over.true) refl
