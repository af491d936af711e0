use Rattle.history.proofs.Find.{mark_start, mark_here, mark_on, mark_out}
use Rattle.history.proofs.Past.find_mark.Goals as goal

pub loop-newer-init : goal.loop-newer-init
loop-newer-init c = mark_start _ _ _

pub returns-then-m-v : goal.returns-then-m-v
returns-then-m-v c = mark_here c.loop-newer.invariant c.loop-newer-test.true c.if-m-v.true

pub loop-newer-preserved : goal.loop-newer-preserved
loop-newer-preserved c = mark_on c.loop-newer.invariant c.loop-newer-test.true c.if-m-v.false

pub returns : goal.returns
returns c = mark_out c.loop-newer.invariant c.loop-newer-test.false
