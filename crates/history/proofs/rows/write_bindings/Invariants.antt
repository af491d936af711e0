-- `history::rows::write_bindings` meets its contract. Assumes nothing.
use Rattle.history.proofs.Back.{WritingBindings}
use Rattle.history.proofs.rows.write_bindings.Given as goal

abbrev pub invariant-loop-i : goal.invariant-loop-i
invariant-loop-i l = WritingBindings l.initial.w l.e l.i l.w
