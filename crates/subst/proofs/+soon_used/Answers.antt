use native.Mathlib.Omega.{arith}
use mathlib.Core.Path.{refl}
use Rattle.shapes.proofs.Nodes.{at_node, part_low}
use Rattle.subst.proofs.Walk.{self_leaves, spent_none, spent_over, spent_more, spent_all}
use Rattle.subst.proofs.+soon_used.Goals as goal

pub returns-then-is_var : goal.returns-then-is_var
returns-then-is_var g t c =
    let node_at = c.node_at-s in
    let one = c.in-Some.ensures in
    self_leaves _ _ (at_node _ _ _ _ node_at.result (g.S.ReadState.state c.args.st.now).lay c.requires node_at.ensures refl) _ c.is_var.ensures c.if-is_var.true _ _ (omega (arith, one.0, one.1))

pub loop-i-init : goal.loop-i-init
loop-i-init g t c =
    let node_at = c.node_at-s in
    let one = c.in-Some.ensures in
    spent_none _ _ _ _ _ _ _ (at_node _ _ _ _ node_at.result (g.S.ReadState.state c.args.st.now).lay c.requires node_at.ensures c.part_count-i-end.ensures)
    (omega (arith, one.0, one.1)) _ c.is_var.ensures c.if-is_var.false

pub soon_used-requires : goal.soon_used-requires
soon_used-requires g t c =
    let f = part_low c.loop-i.invariant.before.at _ _ c.loop-i-test.true c.part_at-p.ensures in
    let k = c.requires in
    let m = c.decreases in
    λ κs o. (omega (arith, f, m, k), (o, omega (arith, f, k)))

pub returns-in_default-soon_used : goal.returns-in_default-soon_used
returns-in_default-soon_used g t c = spent_over c.loop-i.invariant _ c.loop-i-test.true c.part_at-p.ensures _ c.in_default-soon_used.not-Clear c.soon_used.ensures

pub loop-i-preserved : goal.loop-i-preserved
loop-i-preserved g t c = spent_more c.loop-i.invariant _ c.loop-i-test.true c.part_at-p.ensures _ _ c.in-Clear.ensures refl

pub returns : goal.returns
returns g t c = spent_all c.loop-i.invariant c.loop-i-test.false
