-- `keep::reach::mark_vars` meets its contract. Assumes nothing.
use native.Mathlib.Omega.{arith}
use Rattle.keep.proofs.Reaching.{before_none, before_more, before_all}
use Rattle.keep.proofs.reach.mark_vars.Goals as goal

pub loop-i-init : goal.loop-i-init
loop-i-init c = before_none _ c.requires.0

pub mark_var-requires : goal.mark_var-requires
mark_var-requires c = (c.loop-i.invariant.grown.fits, c.requires.1.1 _ c.loop-i-test.true)

pub loop-i-preserved : goal.loop-i-preserved
loop-i-preserved c = before_more _ c.loop-i.invariant c.mark_var.ensures

pub returns : goal.returns
returns c = before_all _ c.loop-i.invariant (omega (arith, c.loop-i.auto.i-end, c.loop-i-test.false))
