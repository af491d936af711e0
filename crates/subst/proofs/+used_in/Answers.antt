-- `subst::used_in` meets its contract. Assumes nothing.
use native.Mathlib.Omega.{arith}
use mathlib.Core.Path.{refl}
use Rattle.shapes.proofs.Nodes.{at_node}
use Rattle.subst.proofs.Lists.{cut_most}
use Rattle.subst.proofs.Walk.{self_looks, walked_none, walked_known, part_below, sum_most, walked_met, walked_more, walked_all, counted_more}
use Rattle.subst.proofs.+used_in.Goals as goal

pub returns-then-is_var : goal.returns-then-is_var
returns-then-is_var g t c =
    let n = c.node_at-n in
    (self_looks _ _ (at_node _ _ _ _ n.result (g.S.ReadState.state c.args.st.now).lay c.requires.0 n.ensures refl) _ c.is_var.ensures c.if-is_var.true, c.requires.1)

pub loop-i-init : goal.loop-i-init
loop-i-init g t c = walked_none _ _ _ c.node_at-n.result _ _ c.requires.0 c.node_at-n.ensures c.parts_of-parts.ensures c.requires.1 _ c.is_var.ensures c.if-is_var.false

pub bounds-counts-p : goal.bounds-counts-p
bounds-counts-p g t c =
    let low = part_below c.loop-i.invariant _ c.parts_of-parts.ensures c.loop-i-test.true in
    omega (arith, low, c.requires.0, (g.S.ReadState.state c.args.st.now).lay.nodes, c.loop-i.invariant.table.size)

pub overflow_add-looked : goal.overflow_add-looked
overflow_add-looked g t c =
    let h = c.loop-i.invariant in
    let most = sum_most h _ c.parts_of-parts.ensures c.loop-i-test.true _ _ (walked_known h _ _ c.if-known-gt0.true c.from-looked.ensures) in
    omega (arith, most)

pub loop-i-preserved-then-known-gt0 : goal.loop-i-preserved-then-known-gt0
loop-i-preserved-then-known-gt0 g t c =
    let h = c.loop-i.invariant in
    walked_more h _ c.parts_of-parts.ensures c.loop-i-test.true _ _ (walked_known h _ _ c.if-known-gt0.true c.from-looked.ensures) refl _ h.table

pub used_in-requires : goal.used_in-requires
used_in-requires g t c =
    let low = part_below c.loop-i.invariant _ c.parts_of-parts.ensures c.loop-i-test.true in
    let k = c.requires.0 in
    let m = c.decreases in
    λ κs o. (omega (arith, low, m, k), (o, (omega (arith, low, k), c.loop-i.invariant.table)))

pub overflow_add-looked-in-Met : goal.overflow_add-looked-in-Met
overflow_add-looked-in-Met g t c =
    let most = sum_most c.loop-i.invariant _ c.parts_of-parts.ensures c.loop-i-test.true _ _ c.in-Met.ensures.0 in
    omega (arith, most)

pub returns-in-Met : goal.returns-in-Met
returns-in-Met g t c = (walked_met c.loop-i.invariant _ c.parts_of-parts.ensures c.loop-i-test.true _ _ c.in-Met.ensures.0 refl _ c.cut.ensures, c.in-Met.ensures.1)

pub overflow_add-looked-in-Clear : goal.overflow_add-looked-in-Clear
overflow_add-looked-in-Clear g t c =
    let most = sum_most c.loop-i.invariant _ c.parts_of-parts.ensures c.loop-i-test.true _ _ c.in-Clear.ensures.0 in
    omega (arith, most)

pub loop-i-preserved : goal.loop-i-preserved
loop-i-preserved g t c = walked_more c.loop-i.invariant _ c.parts_of-parts.ensures c.loop-i-test.true _ _ c.in-Clear.ensures.0 refl _ c.in-Clear.ensures.1

pub overflow_cast-counts : goal.overflow_cast-counts
overflow_cast-counts g t c = let most = cut_most c.loop-i.looked in omega (arith, most, c.cut-number.ensures)

pub returns : goal.returns
returns g t c =
    let all = walked_all c.loop-i.invariant c.loop-i-test.false _ c.cut-number.ensures in
    (all, counted_more _ _ _ _ _ c.loop-i.invariant.table (omega (arith, c.requires.0, (g.S.ReadState.state c.args.st.now).lay.nodes)) all)
