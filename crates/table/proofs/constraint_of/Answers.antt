-- `table::constraint_of` meets its contract. Assumes nothing.
use mathlib.Core.Path.{refl}
use borrow.Author.Tests.{ne_eqb}
use native.Mathlib.Omega.{arith}
use Rattle.table.specs.Rows.{read_constraint}
use Rattle.table.proofs.constraint_of.Goals as goal

pub returns-in-0 : goal.returns-in-0
unfolding read_constraint
returns-in-0 c = rw (c.in-0.is, c.set_at.ensures) refl

pub returns-in-1 : goal.returns-in-1
unfolding read_constraint
returns-in-1 c = rw c.in-1.is refl

pub returns-in-2 : goal.returns-in-2
unfolding read_constraint
returns-in-2 c = rw c.in-2.is refl

pub returns-in-3 : goal.returns-in-3
unfolding read_constraint
returns-in-3 c = rw c.in-3.is refl

pub returns-in-4 : goal.returns-in-4
unfolding read_constraint
returns-in-4 c = rw c.in-4.is refl

pub returns-in_default : goal.returns-in_default
unfolding read_constraint
returns-in_default c = simp (ne_eqb c.args.r.kind 0 (λ e. omega arith), ne_eqb c.args.r.kind 1 (λ e. omega arith), ne_eqb c.args.r.kind 2 (λ e. omega arith), ne_eqb c.args.r.kind 3 (λ e. omega arith), ne_eqb c.args.r.kind 4 (λ e. omega arith))
