use Rattle.old_ready.proofs.Coming.{coming_none, coming_parts, coming_open, coming_on}
use Rattle.old_ready.proofs.land.Goals as goal

pub returns-in_default : goal.returns-in_default
returns-in_default c = let node_at = c.node_at-n in
    coming_parts c.loop-calls.invariant c.loop-calls-test.true node_at.result node_at.ensures _ c.as_var.ensures c.in_default.is _ c.part_count-many.ensures

pub returns-in-None : goal.returns-in-None
returns-in-None c = let node_at = c.node_at-n in
    coming_open c.loop-calls.invariant c.loop-calls-test.true node_at.result node_at.ensures _ c.as_var.ensures _ c.in-Some.is _ c.forward_tvar-end.ensures _ c.bound_at.ensures c.in-None.is

pub loop-calls-preserved : goal.loop-calls-preserved
loop-calls-preserved c = let node_at = c.node_at-n in
    coming_on c.loop-calls.invariant c.loop-calls-test.true node_at.result node_at.ensures _ c.as_var.ensures _ c.in-Some.is _ c.forward_tvar-end.ensures _ c.bound_at.ensures _ c.in-Some-bound_at.is

pub returns : goal.returns
returns c = coming_none c.loop-calls.invariant c.loop-calls-test.false
