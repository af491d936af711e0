-- `expand::comes_to_marked` meets its contract. Assumes nothing.
-- By the levels that are left, which fall at a part. Invariant `Passed`: the parts before i come to none.
use Rattle.expand.proofs.Walks.{Passed}
use Rattle.expand.proofs.+comes_to_marked.Given as goal

abbrev pub decreases-comes_to_marked : goal.decreases-comes_to_marked
decreases-comes_to_marked l = l.left

abbrev pub invariant-loop-i : goal.invariant-loop-i
invariant-loop-i l = Passed l.chains.st.now l.t l.left l.shape l.i-end l.clear l.i
