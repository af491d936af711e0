-- `keep::slide::slide_vars` meets its contract. Assumes nothing.
use native.Mathlib.Omega.{arith}
use mathlib.Core.Path.{◌∙◌}
use Rattle.table.specs.Rows.{var_table}
use Rattle.keep.specs.Numbered.{new_cell}
use Rattle.keep.proofs.Sliding.{slid_none, slid_low, slid_gone, slid_row, slid_end, slid_down, laid_vars}
use Rattle.keep.proofs.slide.slide_vars.Goals as goal

pub loop-v-init : goal.loop-v-init
loop-v-init c = slid_none var_table _ _ _

pub loop-v-preserved-then-not-stays-wide : goal.loop-v-preserved-then-not-stays-wide
loop-v-preserved-then-not-stays-wide c = slid_gone var_table _ _ _ c.loop-v.invariant (rw c.wide.ensures at c.if-not-stays-wide.true)

pub put_cell-requires : goal.put_cell-requires
put_cell-requires c = (c.loop-v.invariant.within.size ∙ c.requires.0.size, let low = slid_low var_table _ _ _ c.loop-v.invariant in omega (arith, low, c.loop-v-test.true, c.requires.0.few))

pub overflow_add-k : goal.overflow_add-k
overflow_add-k c = let low = slid_low var_table _ _ _ c.loop-v.invariant in omega (arith, low, c.loop-v-test.true, c.requires.0.few)

pub loop-v-preserved : goal.loop-v-preserved
loop-v-preserved c = slid_row var_table _ (new_cell c.args.new.now) _ c.loop-v.invariant laid_vars _ _ _ (rw c.wide.ensures at c.if-not-stays-wide.false) (omega (arith, c.loop-v-test.true, c.requires.0.few)) c.new_cell-c.ensures c.cell_in.ensures c.put_cell.ensures

pub zero_rows-requires : goal.zero_rows-requires
zero_rows-requires c = (let low = slid_low var_table _ _ _ c.loop-v.invariant in omega (arith, low, c.loop-v.auto.v-end), omega (arith, c.loop-v.invariant.within.size, c.requires.0.size, c.requires.0.few))

pub returns : goal.returns
returns c = slid_down var_table _ _ _ (slid_end var_table _ (new_cell c.args.new.now) _ c.loop-v.invariant (omega (arith, c.loop-v.auto.v-end, c.loop-v-test.false))) laid_vars _ c.zero_rows.ensures c.requires.0.clean c.requires.0.few
