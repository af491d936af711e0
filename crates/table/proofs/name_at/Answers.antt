-- `table::name_at` meets its contract. Assumes nothing.
use mathlib.Core.Path.{refl}
use borrow.Author.Tests.{ne_eqb}
use native.Mathlib.Omega.{arith}
use Rattle.table.specs.Rows.{read_name}
use Rattle.table.proofs.name_at.Goals as goal

pub returns-in-3 : goal.returns-in-3
unfolding read_name
returns-in-3 c = rw c.in-3.is refl

pub returns-in-4 : goal.returns-in-4
unfolding read_name
returns-in-4 c = rw c.in-4.is refl

pub returns-in_default : goal.returns-in_default
unfolding read_name
returns-in_default c = simp (ne_eqb c.args.tag 3 (λ e. omega arith), ne_eqb c.args.tag 4 (λ e. omega arith))
