-- `keep::slide::slide_nodes` meets its contract. Assumes nothing.
use native.Mathlib.Omega.{arith}
use mathlib.Core.Path.{ap, ◌∙◌}
use Rattle.table.specs.Rows.{node_table}
use Rattle.definition.specs.Types as d
use Rattle.keep.specs.Numbered.{new_node}
use Rattle.keep.proofs.Sliding.{slid_none, slid_low, slid_gone, slid_row, slid_end, slid_down, laid_nodes}
use Rattle.keep.proofs.slide.slide_nodes.Goals as goal

pub loop-t-init : goal.loop-t-init
loop-t-init c = slid_none node_table _ _ _

pub loop-t-preserved-then-not-stays-wide : goal.loop-t-preserved-then-not-stays-wide
loop-t-preserved-then-not-stays-wide c = slid_gone node_table _ _ _ c.loop-t.invariant (rw c.wide.ensures at c.if-not-stays-wide.true)

pub put_node-requires : goal.put_node-requires
put_node-requires c = (c.loop-t.invariant.within.size ∙ c.requires.0.size, let low = slid_low node_table _ _ _ c.loop-t.invariant in omega (arith, low, c.loop-t-test.true, c.requires.0.few))

pub overflow_add-k : goal.overflow_add-k
overflow_add-k c = let low = slid_low node_table _ _ _ c.loop-t.invariant in omega (arith, low, c.loop-t-test.true, c.requires.0.few)

pub loop-t-preserved : goal.loop-t-preserved
loop-t-preserved c = slid_row node_table _ (new_node c.args.new.now) _ c.loop-t.invariant laid_nodes _ _ _ (rw c.wide.ensures at c.if-not-stays-wide.false) (omega (arith, c.loop-t-test.true, c.requires.0.few)) (ap (λ (x : d.Shape d.Places). record { loc = c.node_in-x.result.loc; value = x }) c.new_shape-shape.ensures) c.node_in-x.ensures c.put_node.ensures

pub zero_rows-requires : goal.zero_rows-requires
zero_rows-requires c = (let low = slid_low node_table _ _ _ c.loop-t.invariant in omega (arith, low, c.loop-t.auto.t-end), omega (arith, c.loop-t.invariant.within.size, c.requires.0.size, c.requires.0.few))

pub returns : goal.returns
returns c = slid_down node_table _ _ _ (slid_end node_table _ (new_node c.args.new.now) _ c.loop-t.invariant (omega (arith, c.loop-t.auto.t-end, c.loop-t-test.false))) laid_nodes _ c.zero_rows.ensures c.requires.0.clean c.requires.0.few
