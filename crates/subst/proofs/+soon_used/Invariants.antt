-- `subst::soon_used` meets its contract. Assumes nothing.
use Rattle.subst.proofs.Walk.{Spent}
use Rattle.subst.proofs.+soon_used.Given as goal

abbrev pub decreases-soon_used : goal.decreases-soon_used
decreases-soon_used g l = l.t

abbrev pub invariant-loop-i : goal.invariant-loop-i
invariant-loop-i g l = Spent (g.S.ReadState.state l.st) l.tvar.0 l.t l.s l.i-end l.budget l.i l.rest
