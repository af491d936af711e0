-- `keep::numbers::number` meets its contract. Assumes nothing.
use native.Mathlib.Omega.{arith}
use mathlib.Core.Bool.{false}
use lib.ListN.{get_or}
use Rattle.keep.proofs.Numbering.{numbering_none, numbering_low, numbering_more}
use Rattle.keep.proofs.numbers.number.Goals as goal

pub loop-i-init : goal.loop-i-init
loop-i-init c = numbering_none _ c.requires.0

pub overflow_add-below : goal.overflow_add-below
overflow_add-below c = rw c.from-below.ensures (let l = numbering_low c.loop-i.invariant (get_or c.args.stays.now c.loop-i.i false) in omega (arith, l, c.loop-i-test.true, c.requires.1))

pub loop-i-preserved : goal.loop-i-preserved
loop-i-preserved c = rw c.from-below.ensures (numbering_more c.loop-i.invariant c.loop-i-test.true)
