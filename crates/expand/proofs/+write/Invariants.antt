-- `expand::write` meets its contract. Assumes nothing.
-- By the levels that are left. Invariant `Writing`: the parts before i stand after the type's own bytes.
use Rattle.expand.specs.Told.{set_in}
use Rattle.expand.proofs.Walks.{Writing}
use Rattle.expand.proofs.+write.Given as goal

abbrev pub decreases-write : goal.decreases-write
decreases-write l = l.left

abbrev pub invariant-loop-i : goal.invariant-loop-i
invariant-loop-i l = Writing l.half (set_in l.sets) l.chains.st.now l.t l.below l.initial.buf l.initial.next l.buf l.next l.i
