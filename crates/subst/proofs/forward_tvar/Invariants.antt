-- `subst::forward_tvar` meets its contract. Assumes nothing.
use Rattle.subst.proofs.Laws.{Chain}
use Rattle.subst.proofs.forward_tvar.Given as goal

abbrev pub invariant-loop-link : goal.invariant-loop-link
invariant-loop-link g l = Chain (g.S.ReadState.state l.st) l.initial.cur.0 l.cur.0 l.links l._link
