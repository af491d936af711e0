-- `table::State::bind_var` meets its contract. Assumes nothing.
use Rattle.table.proofs.Primitives.{insert_cell}
use Rattle.table.proofs.Did.{to_stored, of_stored}
use Rattle.table.proofs.state.State.bind_var.Goals as goal

pub returns : goal.returns
returns c = let put = c.put_cell.ensures in
    of_stored put.changed.same put.used (insert_cell _ _ _ _ c.num_loc_at-m.result c.need_at-need.result _ c.num_loc_at-m.ensures c.need_at-need.ensures (to_stored put))
