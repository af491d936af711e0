-- `names::requires_of` meets its contract. Assumes nothing.
use borrow.Author.Tests.{eq-eqb, ne_eqb}
use Rattle.definition.specs.Abilities.{requires}
use Rattle.names.proofs.requires_of.Goals as goal

pub returns-then-ability-eq-KEY : goal.returns-then-ability-eq-KEY
unfolding requires
returns-then-ability-eq-KEY c = simp (eq-eqb _ _ c.if-ability-eq-KEY.true)

pub returns-else-ability-eq-KEY : goal.returns-else-ability-eq-KEY
unfolding requires
returns-else-ability-eq-KEY c = simp (ne_eqb _ _ c.if-ability-eq-KEY.false)
