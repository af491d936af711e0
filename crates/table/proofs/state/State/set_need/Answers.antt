-- `table::State::set_need` meets its contract. Assumes nothing.
use Rattle.table.proofs.Primitives.{bound_in, need_cell}
use Rattle.table.proofs.Did.{to_stored, of_stored}
use Rattle.table.proofs.state.State.set_need.Goals as goal

pub put_cell-requires : goal.put_cell-requires
put_cell-requires c = bound_in _ _ _ c.bound_at-b.result c.args.self.now.lay c.bound_at-b.ensures

pub returns : goal.returns
returns c = let put = c.put_cell.ensures in
    of_stored put.changed.same put.used
    (need_cell _ _ _ _ c.bound_at-b.result c.num_loc_at-m.result _ c.bound_at-b.ensures c.num_loc_at-m.ensures (to_stored put))
