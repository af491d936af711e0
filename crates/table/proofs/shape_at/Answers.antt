-- `table::shape_at` meets its contract. Assumes nothing.
use mathlib.Core.Path.{refl}
use borrow.Author.Tests.{ne_eqb, lt-ltb, le-ltb}
use native.Mathlib.Omega.{arith}
use Rattle.table.specs.Rows.{read_shape}
use Rattle.table.proofs.shape_at.Goals as goal

pub returns-in-0 : goal.returns-in-0
unfolding read_shape
returns-in-0 c = rw c.in-0.is refl

pub returns-in-1 : goal.returns-in-1
unfolding read_shape
returns-in-1 c = rw c.in-1.is refl

pub returns-in-2 : goal.returns-in-2
unfolding read_shape
returns-in-2 c = rw (c.in-2.is, c.set_at.ensures) refl

pub returns-in-6 : goal.returns-in-6
unfolding read_shape
returns-in-6 c = rw (c.in-6.is, c.tvar_at.ensures) refl

pub returns-in-7 : goal.returns-in-7
unfolding read_shape
returns-in-7 c = rw c.in-7.is refl

pub returns-in-3-to-5 : goal.returns-in-3-to-5
unfolding read_shape
returns-in-3-to-5 c = simp (ne_eqb c.args.r.tag 0 (λ e. omega arith), ne_eqb c.args.r.tag 1 (λ e. omega arith), ne_eqb c.args.r.tag 2 (λ e. omega arith), lt-ltb c.args.r.tag 6 (omega arith), c.mark_at.ensures, c.name_at.ensures)

pub returns-in_default : goal.returns-in_default
unfolding read_shape
returns-in_default c = simp (ne_eqb c.args.r.tag 0 (λ e. omega arith), ne_eqb c.args.r.tag 1 (λ e. omega arith), ne_eqb c.args.r.tag 2 (λ e. omega arith), le-ltb c.args.r.tag 6 (omega arith), ne_eqb c.args.r.tag 6 (λ e. omega arith), ne_eqb c.args.r.tag 7 (λ e. omega arith))
