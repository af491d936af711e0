-- `subst::used_in` meets its contract. Assumes nothing.
use Rattle.subst.proofs.Walk.{Walked}
use Rattle.subst.proofs.+used_in.Given as goal

abbrev pub decreases-used_in : goal.decreases-used_in
decreases-used_in g l = l.t

abbrev pub invariant-loop-i : goal.invariant-loop-i
invariant-loop-i g l = Walked (g.S.ReadState.state l.st) l.tvar.0 l.t l.i-end l.counts l.i l.looked
