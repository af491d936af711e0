-- `history::rows::write_marks` meets its contract. Assumes nothing.
use Rattle.history.proofs.Back.{WritingMarks}
use Rattle.history.proofs.rows.write_marks.Given as goal

abbrev pub invariant-loop-i : goal.invariant-loop-i
invariant-loop-i l = WritingMarks l.initial.w l.e l.i l.w
