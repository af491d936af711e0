-- `constraints::take_constraints` meets its contract. Assumes nothing.
use Rattle.std.proofs.Common.{refl}
use Rattle.constraints.proofs.Emptied.{c_vars, emptied_lay, emptied_view, emptied}
use Rattle.table.proofs.Linked.{linked_same}
use Rattle.constraints.proofs.take_constraints.Goals as goal

pub invariant_of-st : goal.invariant_of-st
invariant_of-st c = record { lay = emptied_lay _ _ c.args.st.now.lay _ c.zero_rows.ensures }

pub returns : goal.returns
returns c = emptied (linked_same refl refl refl (c_vars _ _ c.args.st.now.lay _ c.zero_rows.ensures)) (emptied_view _ _ c.args.st.now.lay _ c.zero_rows.ensures)
