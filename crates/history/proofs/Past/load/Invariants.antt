-- `history::Past::load` meets its contract. Assumes nothing.
use Rattle.history.specs.Rows.{LoadedBindings, LoadedMarks}
use Rattle.history.proofs.Past.load.Given as goal

abbrev pub invariant-loop-i : goal.invariant-loop-i
invariant-loop-i l = LoadedBindings l.st l.i l.bindings l.bound × LoadedMarks l.st l.i l.marks
