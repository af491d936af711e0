-- `old_subst::forward_tvar` meets its contract. Assumes nothing.
use Rattle.history.specs.Past.{as_rows}
use Rattle.subst.proofs.Laws.{Chain}
use Rattle.old_subst.proofs.forward_tvar.Given as goal

abbrev pub invariant-loop-link : goal.invariant-loop-link
invariant-loop-link l = Chain (as_rows l.past) l.initial.cur.0 l.cur.0 l._link l._link
