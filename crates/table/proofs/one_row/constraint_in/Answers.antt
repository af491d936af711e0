-- `table::one_row::constraint_in` meets its contract. Assumes nothing.
use mathlib.Core.Path.{sym, ap, ◌∙◌}
use Rattle.table.specs.Rows.{read_constraint}
use Rattle.table.proofs.Fields.{constraint_row}
use Rattle.table.proofs.one_row.constraint_in.Goals as goal

pub returns : goal.returns
returns c = rw c.constraint_words_at.ensures at c.constraint_of.ensures ∙ sym (ap read_constraint (constraint_row c.args.w.now c.args.i))
