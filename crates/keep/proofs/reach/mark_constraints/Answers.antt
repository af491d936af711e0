-- `keep::reach::mark_constraints` meets its contract. Assumes nothing.
use native.Mathlib.Omega.{arith}
use Rattle.keep.proofs.Reaching.{before_none, before_more, before_all, constraint_here, constraint_low, marks_as}
use Rattle.keep.proofs.reach.mark_constraints.Goals as goal

pub loop-i-init : goal.loop-i-init
loop-i-init c = before_none _ c.requires.0

pub mark_node-requires : goal.mark_node-requires
mark_node-requires c = (c.loop-i.invariant.grown.fits, constraint_low c.args.st.now c.requires.1 _ _ c.loop-i-test.true (constraint_here c.args.st.now _ _ _ c.constraint_at.ensures c.type_on.ensures))

pub loop-i-preserved : goal.loop-i-preserved
loop-i-preserved c = before_more _ c.loop-i.invariant (marks_as (constraint_here c.args.st.now _ _ _ c.constraint_at.ensures c.type_on.ensures) c.mark_node.ensures)

pub returns : goal.returns
returns c = before_all _ c.loop-i.invariant (omega (arith, c.loop-i.auto.i-end, c.loop-i-test.false))
