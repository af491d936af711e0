use native.Mathlib.Omega.{arith}
use Rattle.shapes.proofs.Nodes.{at_node, part_low}
use Rattle.ready.proofs.Told.{leads_in, measures_zero, measures_short, measures_open, summing_none, summing_out, summing_more, summing_all}
use Rattle.ready.proofs.+measure.Goals as goal

pub returns-in_err-below : goal.returns-in_err-below
returns-in_err-below t c = rw c.from_residual.ensures (measures_zero (omega (arith, c.in_err-below.ensures)))

pub returns-then-budget-eq0 : goal.returns-then-budget-eq0
returns-then-budget-eq0 t c = measures_short c.in_ok-below.below (omega (arith, c.in_ok-below.ensures)) c.if-budget-eq0.true

pub returns-in_default : goal.returns-in_default
returns-in_default t c = measures_open c.in_ok-below.below (omega (arith, c.in_ok-below.ensures)) (omega (arith, c.if-budget-eq0.false)) _ _ _ c.in_default.is c.lead.ensures

pub loop-i-init : goal.loop-i-init
loop-i-init t c = let a = at_node _ _ _ _ c.node_at-shape.result c.args.chains.now.st.now.lay (leads_in c.lead.ensures c.in-Node.is) c.node_at-shape.ensures c.part_count-i-end.ensures in
    summing_none a _ _ (omega (arith, c.if-budget-eq0.false)) _ c.in-Node.is c.lead.ensures _ c.own-m.ensures

pub measure-requires : goal.measure-requires
measure-requires t c = let i = leads_in c.lead.ensures c.in-Node.is in
    let a = at_node _ _ _ _ c.node_at-shape.result c.args.chains.now.st.now.lay i c.node_at-shape.ensures c.part_count-i-end.ensures in
    let f = part_low a _ _ c.loop-i-test.true c.part_at-p.ensures in
    (omega (arith, c.in_ok-below.ensures, c.decreases), (omega (arith, f, i), omega (arith, c.requires.1)))

pub returns-in_err-more : goal.returns-in_err-more
returns-in_err-more t c = let a = at_node _ _ _ _ c.node_at-shape.result c.args.chains.now.st.now.lay (leads_in c.lead.ensures c.in-Node.is) c.node_at-shape.ensures c.part_count-i-end.ensures in
    rw c.from_residual-in_err-more.ensures (summing_out a c.loop-i.invariant _ c.loop-i-test.true c.part_at-p.ensures (omega (arith, c.in_ok-below.ensures)) c.measure.ensures c.in_err-more.was)

pub loop-i-preserved : goal.loop-i-preserved
loop-i-preserved t c = let a = at_node _ _ _ _ c.node_at-shape.result c.args.chains.now.st.now.lay (leads_in c.lead.ensures c.in-Node.is) c.node_at-shape.ensures c.part_count-i-end.ensures in
    rw c.plus-m.ensures (summing_more a c.loop-i.invariant _ c.loop-i-test.true c.part_at-p.ensures c.measure.ensures _ c.in_ok-more.was)

pub returns : goal.returns
returns t c = let a = at_node _ _ _ _ c.node_at-shape.result c.args.chains.now.st.now.lay (leads_in c.lead.ensures c.in-Node.is) c.node_at-shape.ensures c.part_count-i-end.ensures in
    summing_all a c.loop-i.invariant c.loop-i-test.false (omega (arith, c.in_ok-below.ensures))
