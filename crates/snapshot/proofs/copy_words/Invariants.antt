-- `snapshot::copy_words` meets its contract: what is written so far is a shorter row. Assumes nothing.
use Rattle.table.specs.State.{Wrote}
use Rattle.snapshot.proofs.copy_words.Given as goal

abbrev pub invariant-loop-k : goal.invariant-loop-k
invariant-loop-k l = Wrote l.initial.w l.at l.k l.words l.w
