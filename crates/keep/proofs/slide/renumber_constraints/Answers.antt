-- `keep::slide::renumber_constraints` meets its contract. Assumes nothing.
use native.Mathlib.Omega.{arith}
use mathlib.Core.Path.{refl}
use Rattle.table.specs.Rows.{constraint_table}
use Rattle.keep.specs.Numbered.{new_constraint}
use Rattle.keep.proofs.Sliding.{slid_none, slid_row, all_down, laid_constraints}
use Rattle.keep.proofs.slide.renumber_constraints.Goals as goal

pub loop-i-init : goal.loop-i-init
loop-i-init c = slid_none constraint_table _ _ _

pub loop-i-preserved : goal.loop-i-preserved
loop-i-preserved c = slid_row constraint_table _ (new_constraint c.args.new.now) _ c.loop-i.invariant laid_constraints _ _ _ refl (omega (arith, c.loop-i-test.true, c.requires.few)) c.new_constraint-c.ensures c.constraint_in.ensures c.put_constraint.ensures

pub returns : goal.returns
returns c = all_down c.loop-i.invariant (omega (arith, c.loop-i.auto.i-end, c.loop-i-test.false)) c.requires.clean c.requires.few
