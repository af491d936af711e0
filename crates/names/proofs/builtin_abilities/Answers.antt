-- `names::builtin_abilities` meets its contract. Assumes nothing.
use mathlib.Core.Path.{refl}
use borrow.Author.Tests.{ne_eqb}
use native.Mathlib.Omega.{arith}
use Rattle.definition.specs.Abilities.{primitives, signer, collection, builtin_abilities}
use Rattle.names.proofs.builtin_abilities.Goals as goal

pub returns-in-1 : goal.returns-in-1
unfolding builtin_abilities signer
returns-in-1 c = rw c.in-1.is refl

pub returns-in-5 : goal.returns-in-5
unfolding builtin_abilities collection
returns-in-5 c = rw c.in-5.is refl

pub returns-in_default : goal.returns-in_default
unfolding builtin_abilities primitives
returns-in_default c = simp (ne_eqb c.args.b 1 (λ e. omega arith), ne_eqb c.args.b 5 (λ e. omega arith))
