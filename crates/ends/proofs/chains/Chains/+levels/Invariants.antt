-- `ends::chains::Chains::levels` meets its contract. Assumes nothing.
use Rattle.ends.proofs.Itself.{Read}
use Rattle.ends.proofs.chains.Chains.+levels.Given as goal

abbrev pub decreases-levels : goal.decreases-levels
decreases-levels g l = l.left

abbrev pub invariant-loop-i : goal.invariant-loop-i
invariant-loop-i g l = Read (g.S.ReadState.state l.self.st.now) l.t l.left l.s l.i-end l.heights l.high l.i
