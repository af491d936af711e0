use Rattle.subst.proofs.Unfold.{marking_start, marking_last, marking_on, marking_out}
use Rattle.subst.proofs.set_num_var.Goals as goal

pub loop-mark-init : goal.loop-mark-init
loop-mark-init c = marking_start _ _ _

pub returns-in_default : goal.returns-in_default
returns-in_default c = let next_of = c.next_of-n in
    marking_last _ _ _ _ c.loop-mark.invariant c.loop-mark-test.true c.mark_one.ensures _ next_of.ensures c.in_default.is

pub loop-mark-preserved : goal.loop-mark-preserved
loop-mark-preserved c = let next_of = c.next_of-n in
    marking_on _ _ _ _ c.loop-mark.invariant c.loop-mark-test.true c.mark_one.ensures _ next_of.ensures _ c.in-Some.is

pub returns : goal.returns
returns c = marking_out _ _ _ _ c.loop-mark.invariant c.loop-mark-test.false
