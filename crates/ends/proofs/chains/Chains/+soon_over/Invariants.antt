-- `ends::chains::Chains::soon_over` meets its contract. Assumes nothing.
use Rattle.ends.proofs.Itself.{Few}
use Rattle.ends.proofs.chains.Chains.+soon_over.Given as goal

abbrev pub decreases-soon_over : goal.decreases-soon_over
decreases-soon_over g l = l.left

abbrev pub invariant-loop-i : goal.invariant-loop-i
invariant-loop-i g l = Few (g.S.ReadState.state l.self.st.now) l.t l.left l.shape l.i-end l.i
