-- `table::write_parts` meets its contract. Assumes nothing.
use Rattle.table.proofs.Rows.{WroteMost}
use Rattle.table.proofs.write_parts.Given as goal

abbrev pub invariant-loop-i : goal.invariant-loop-i
invariant-loop-i l = WroteMost l.initial.w l.at l.n l.parts l.w l.i
