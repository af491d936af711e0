-- `table::option_at` meets its contract. Assumes nothing.
use borrow.Author.Tests.{eq-eqb, ne_eqb}
use Rattle.table.specs.Rows.{read_option}
use Rattle.table.proofs.option_at.Goals as goal

pub returns-then-is-eq1 : goal.returns-then-is-eq1
unfolding read_option
returns-then-is-eq1 c = simp (eq-eqb _ _ c.if-is-eq1.true)

pub returns-else-is-eq1 : goal.returns-else-is-eq1
unfolding read_option
returns-else-is-eq1 c = simp (ne_eqb _ _ c.if-is-eq1.false)
