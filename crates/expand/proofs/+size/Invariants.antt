-- `expand::size` meets its contract. Assumes nothing.
-- By the levels that are left. Invariant `Sizing`: own bytes and those of the parts before i leave so much.
use Rattle.expand.proofs.Walks.{Sizing}
use Rattle.expand.proofs.+size.Given as goal

abbrev pub decreases-size : goal.decreases-size
decreases-size l = l.left

abbrev pub invariant-loop-i : goal.invariant-loop-i
invariant-loop-i l = Sizing l.chains.st.now l.t l.below l.room l.shape l.rest l.i
