-- `table::State::mark_one` meets its contract. Assumes nothing.
use Rattle.table.proofs.Primitives.{bound_in, mark_cell}
use Rattle.table.proofs.Did.{to_stored, of_stored}
use Rattle.table.proofs.state.State.mark_one.Goals as goal

pub put_cell-requires : goal.put_cell-requires
put_cell-requires c = bound_in _ _ _ c.bound_at-b.result c.args.self.now.lay c.bound_at-b.ensures

pub returns : goal.returns
returns c = let put = c.put_cell.ensures in
    of_stored put.changed.same put.used
    (mark_cell _ _ _ _ _ c.bound_at-b.result c.num_loc_at-m.result c.need_at-need.result _ c.bound_at-b.ensures c.num_loc_at-m.ensures c.need_at-need.ensures c.unwrap_or.ensures (to_stored put))
