-- `history::Past::find` meets its contract. Assumes nothing.
use Rattle.history.proofs.Find.{Searching}
use Rattle.history.proofs.Past.find.Given as goal

abbrev pub invariant-loop-newer : goal.invariant-loop-newer
invariant-loop-newer l = Searching l.self.bindings l.v l.self.bound l.newer
