-- `ready::write_spelled` meets its contract. Assumes nothing.
-- By the levels that are left. Invariant `Going`: the head and the parts before i stand in the buffer, and the heads know the variables that were met.
use Rattle.ready.proofs.Told.{Going}
use Rattle.ready.proofs.+write_spelled.Given as goal

abbrev pub decreases-write_spelled : goal.decreases-write_spelled
decreases-write_spelled g l = l.left

abbrev pub invariant-loop-i : goal.invariant-loop-i
invariant-loop-i g l = Going g.H.Heads.spelling g.H.Heads.met l.chains.st.now l.x l.below l.many l.fn.heads l.fn.buf l.at l.heads l.buf l.next l.i
