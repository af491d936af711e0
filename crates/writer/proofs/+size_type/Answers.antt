use mathlib.Core.Path.{refl}
use mathlib.Core.List.{[]}
use native.Mathlib.Omega.{arith}
use Rattle.shapes.proofs.Nodes.{at_node, part_low}
use Rattle.writer.proofs.Turns.{size_none, size_long, size_more, size_over, size_all}
use Rattle.writer.proofs.+size_type.Goals as goal

pub returns-in_err-left : goal.returns-in_err-left
returns-in_err-left t c = let a = at_node _ _ _ _ c.node_at-shape.result c.args.st.now.lay c.requires.0 c.node_at-shape.ensures refl in
    rw c.from_residual.ensures (size_long a _ _ c.head_size.ensures.0 (omega (arith, c.in_err-left.ensures)))

pub loop-i-init : goal.loop-i-init
loop-i-init t c = let a = at_node _ _ _ _ c.node_at-shape.result c.args.st.now.lay c.requires.0 c.node_at-shape.ensures c.part_count-i-end.ensures in
    size_none a _ _ _ c.head_size.ensures.0 (omega (arith, c.in_ok-left.ensures))

pub size_type-requires : goal.size_type-requires
size_type-requires t c = let a = at_node _ _ _ _ c.node_at-shape.result c.args.st.now.lay c.requires.0 c.node_at-shape.ensures c.part_count-i-end.ensures in
    let f = part_low a _ _ c.loop-i-test.true c.part_at-p.ensures in
    (omega (arith, f, c.decreases), (omega (arith, f, c.requires.0), omega (arith, c.loop-i.invariant.is [], c.requires.1)))

pub returns-in_err-left-2 : goal.returns-in_err-left-2
returns-in_err-left-2 t c = let a = at_node _ _ _ _ c.node_at-shape.result c.args.st.now.lay c.requires.0 c.node_at-shape.ensures c.part_count-i-end.ensures in
    rw c.from_residual-in_err-left-2.ensures (size_over a c.loop-i.invariant _ c.loop-i-test.true c.part_at-p.ensures c.in_err-left-2.ensures)

pub overflow_sub-left : goal.overflow_sub-left
overflow_sub-left t c = let e = c.in_ok-left-2.ensures [] in omega (arith, e.0, e.1)

pub loop-i-preserved : goal.loop-i-preserved
loop-i-preserved t c = let a = at_node _ _ _ _ c.node_at-shape.result c.args.st.now.lay c.requires.0 c.node_at-shape.ensures c.part_count-i-end.ensures in
    size_more a c.loop-i.invariant _ c.loop-i-test.true c.part_at-p.ensures _ c.in_ok-left-2.ensures

pub overflow_sub-result : goal.overflow_sub-result
overflow_sub-result t c = omega (arith, c.loop-i.invariant.is [])

pub returns : goal.returns
returns t c = let a = at_node _ _ _ _ c.node_at-shape.result c.args.st.now.lay c.requires.0 c.node_at-shape.ensures c.part_count-i-end.ensures in
    size_all a c.loop-i.invariant c.loop-i-test.false
