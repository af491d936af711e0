-- `ready::measure` meets its contract. Assumes nothing.
use Rattle.ready.proofs.Told.{Summing}
use Rattle.ready.proofs.+measure.Given as goal

abbrev pub decreases-measure : goal.decreases-measure
decreases-measure l = l.left

abbrev pub invariant-loop-i : goal.invariant-loop-i
invariant-loop-i l = Summing l.chains.st.now l.t l.x l.below l.budget l.i-end l.m l.i
