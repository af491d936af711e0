-- `abilities::infer` meets its contract. Assumes nothing.
-- By the levels that are left, which fall at a part. Invariant `Walked`: the sets of the parts before i are known, and none is lost; then the node's own set is kept.
use Rattle.abilities.proofs.Sets.{Walked}
use Rattle.abilities.proofs.+infer.Given as goal

abbrev pub decreases-infer : goal.decreases-infer
decreases-infer g l = l.left

abbrev pub invariant-loop-i : goal.invariant-loop-i
invariant-loop-i g l = Walked (g.S.ReadState.state l.chains.st.now) l.params l.t l.left l.initial.sets l.s l.many l.sets l.i
