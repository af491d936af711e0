use Rattle.history.proofs.Find.{search_start, search_here, search_on, search_out}
use Rattle.history.proofs.Past.find.Goals as goal

pub loop-newer-init : goal.loop-newer-init
loop-newer-init c = search_start _ _ _

pub returns-then-b-v : goal.returns-then-b-v
returns-then-b-v c = search_here c.loop-newer.invariant c.loop-newer-test.true c.if-b-v.true

pub loop-newer-preserved : goal.loop-newer-preserved
loop-newer-preserved c = search_on c.loop-newer.invariant c.loop-newer-test.true c.if-b-v.false

pub returns : goal.returns
returns c = search_out c.loop-newer.invariant c.loop-newer-test.false
