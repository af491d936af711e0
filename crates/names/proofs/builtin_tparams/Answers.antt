-- `names::builtin_tparams` meets its contract. Assumes nothing.
use native.Mathlib.Omega.{arith}
use borrow.Author.Tests.{eq-eqb, ne_eqb}
use Rattle.definition.specs.Instantiate.{builtin_tparams}
use Rattle.names.proofs.builtin_tparams.Goals as goal

pub returns-then-b-eq-VECTOR : goal.returns-then-b-eq-VECTOR
unfolding builtin_tparams
returns-then-b-eq-VECTOR c = (simp (eq-eqb _ _ c.if-b-eq-VECTOR.true), omega arith)

pub returns-else-b-eq-VECTOR : goal.returns-else-b-eq-VECTOR
unfolding builtin_tparams
returns-else-b-eq-VECTOR c = (simp (ne_eqb _ _ c.if-b-eq-VECTOR.false), omega arith)
