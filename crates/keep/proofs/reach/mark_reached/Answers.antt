-- `keep::reach::mark_reached` meets its contract. Assumes nothing.
use Rattle.keep.proofs.Reaching.{drained_more, drained_steps}
use Rattle.keep.proofs.reach.mark_reached.Goals as goal

pub loop-step-preserved : goal.loop-step-preserved
loop-step-preserved g c = (drained_more _ c.requires.0 g.listed c.in-Some.x c.loop-step.invariant.0 c.in-Some.ensures c.mark_next.ensures, drained_steps _ c.requires.0 g.listed c.loop-step._step c.in-Some.x c.loop-step.invariant.1 c.in-Some.ensures c.mark_next.ensures)
