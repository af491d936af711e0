-- `keep::places::mark_places` meets its contract. Assumes nothing.
use Rattle.table.specs.Did.{tables}
use Rattle.keep.proofs.Placing.{marked_none, marked_more, marked_not}
use Rattle.keep.proofs.places.mark_places.Goals as goal

pub loop-t-init : goal.loop-t-init
loop-t-init c = marked_none (tables c.args.st.now) c.args.nodes.now c.requires.1.0 c.requires.1.1

pub loop-t-preserved-then-not-nodes-wide : goal.loop-t-preserved-then-not-nodes-wide
loop-t-preserved-then-not-nodes-wide c = marked_not (tables c.args.st.now) c.args.nodes.now c.loop-t.invariant (rw c.wide.ensures at c.if-not-nodes-wide.true)

pub loop-t-preserved : goal.loop-t-preserved
loop-t-preserved c = marked_more (tables c.args.st.now) c.args.nodes.now c.loop-t.invariant (rw c.wide.ensures at c.if-not-nodes-wide.false) c.mark_its.ensures
