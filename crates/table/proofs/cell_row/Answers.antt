-- `table::cell_row` meets its contract. Assumes nothing.
use Rattle.table.proofs.Written.{cell_row}
use Rattle.table.proofs.cell_row.Goals as goal

pub returns : goal.returns
returns c = rw (c.from.ensures, c.from-2.ensures) (cell_row _ _ _ _ _ _ _ c.is_some.ensures c.unwrap_or.ensures c.is_some-2.ensures c.unwrap_or-2.ensures)
