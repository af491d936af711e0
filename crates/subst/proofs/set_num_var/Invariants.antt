-- `subst::set_num_var` meets its contract. Assumes nothing.
use Rattle.subst.proofs.Unfold.{Marking}
use Rattle.subst.proofs.set_num_var.Given as goal

abbrev pub invariant-loop-mark : goal.invariant-loop-mark
invariant-loop-mark l = Marking l.initial.st l.initial.cur.0 l.loc l.st l.cur.0 l._mark
