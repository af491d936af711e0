-- `table::one_row::cell_in` meets its contract. Assumes nothing.
use mathlib.Core.Path.{sym, ap, ◌∙◌}
use Rattle.table.specs.declared.CellWords.{CellWords}
use Rattle.table.specs.Rows.{read_cell, read_option}
use Rattle.table.proofs.Fields.{var_row}
use Rattle.table.proofs.one_row.cell_in.Goals as goal

pub returns : goal.returns
unfolding read_cell
returns c =
    (λ i. record { binding = c.option_at.ensures i; numeric = c.option_at-2.ensures i; need = c.cell_words_at-r.result.need })
    ∙ ap (λ (x : CellWords). record { binding = read_option x.bound x.binding; numeric = read_option x.numeric x.loc; need = x.need }) c.cell_words_at-r.ensures
    ∙ sym (ap read_cell (var_row c.args.w.now c.args.v))
