-- `keep::slide::slide_places` meets its contract. Assumes nothing.
use native.Mathlib.Omega.{arith}
use mathlib.Core.Path.{◌∙◌}
use Rattle.table.specs.Rows.{arg_table}
use Prim.Native.Nat.{ℕ}
use lib.ListN.{get_or}
use Rattle.keep.proofs.Sliding.{slid_none, slid_low, slid_gone, slid_row, slid_end, slid_down, laid_places}
use Rattle.keep.proofs.slide.slide_places.Goals as goal

pub loop-i-init : goal.loop-i-init
loop-i-init c = slid_none arg_table _ _ _

pub loop-i-preserved-then-not-stays-wide : goal.loop-i-preserved-then-not-stays-wide
loop-i-preserved-then-not-stays-wide c = slid_gone arg_table _ _ _ c.loop-i.invariant (rw c.wide.ensures at c.if-not-stays-wide.true)

pub put_place-requires : goal.put_place-requires
put_place-requires c = (c.loop-i.invariant.within.size ∙ c.requires.0.size, let low = slid_low arg_table _ _ _ c.loop-i.invariant in omega (arith, low, c.loop-i-test.true, c.requires.0.few))

pub overflow_add-k : goal.overflow_add-k
overflow_add-k c = let low = slid_low arg_table _ _ _ c.loop-i.invariant in omega (arith, low, c.loop-i-test.true, c.requires.0.few)

pub loop-i-preserved : goal.loop-i-preserved
loop-i-preserved c = slid_row arg_table _ (λ (t : ℕ). get_or c.args.new.now.nodes t 0) _ c.loop-i.invariant laid_places _ _ _ (rw c.wide.ensures at c.if-not-stays-wide.false) (omega (arith, c.loop-i-test.true, c.requires.0.few)) c.new_number-t.ensures c.place_in.ensures c.put_place.ensures

pub zero_rows-requires : goal.zero_rows-requires
zero_rows-requires c = (let low = slid_low arg_table _ _ _ c.loop-i.invariant in omega (arith, low, c.loop-i.auto.i-end), omega (arith, c.loop-i.invariant.within.size, c.requires.0.size, c.requires.0.few))

pub returns : goal.returns
returns c = slid_down arg_table _ _ _ (slid_end arg_table _ (λ (t : ℕ). get_or c.args.new.now.nodes t 0) _ c.loop-i.invariant (omega (arith, c.loop-i.auto.i-end, c.loop-i-test.false))) laid_places _ c.zero_rows.ensures c.requires.0.clean c.requires.0.few
