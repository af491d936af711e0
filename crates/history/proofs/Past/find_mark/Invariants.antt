-- `history::Past::find_mark` meets its contract. Assumes nothing.
use Rattle.history.proofs.Find.{MarkSearching}
use Rattle.history.proofs.Past.find_mark.Given as goal

abbrev pub invariant-loop-newer : goal.invariant-loop-newer
invariant-loop-newer l = MarkSearching l.self.marks l.v l.self.marked l.newer
