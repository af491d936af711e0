-- `expand::spell_over` meets its contract. Assumes nothing.
use native.Mathlib.Omega.{arith}
use Rattle.expand.proofs.Walks.{over_marked, over_long, over_bytes}
use Rattle.expand.proofs.spell_over.Goals as goal

pub returns-then-has_marked : goal.returns-then-has_marked
returns-then-has_marked c = over_marked _ c.requires.in_use.0 c.requires.ends _ c.has_marked.ensures c.if-has_marked.true _

pub spell_sized-requires-clause-fits : goal.spell_sized-requires-clause-fits
spell_sized-requires-clause-fits c = λ ds f. omega (arith, c.in-Some.ensures ds f)

pub returns-in-Some : goal.returns-in-Some
returns-in-Some c = over_bytes _ c.requires.in_use.0 c.requires.ends _ c.has_marked.ensures c.if-has_marked.false _ c.in-Some.ensures c.spell_sized.ensures

pub returns-in-None : goal.returns-in-None
returns-in-None c = over_long _ c.requires.in_use.0 c.requires.ends _ c.has_marked.ensures c.if-has_marked.false c.in-None.ensures _
