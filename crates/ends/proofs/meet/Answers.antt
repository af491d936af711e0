use Rattle.ends.proofs.Ends.{following_noted, following_last, following_on}
use native.Mathlib.Omega.{arith}
use Rattle.ends.proofs.meet.Goals as goal

pub returns-then-known-gt0 : goal.returns-then-known-gt0
returns-then-known-gt0 g c = following_noted c.loop-long.invariant (let k = rw c.used-long-end.ensures at c.loop-long-test.true in omega (arith, k)) _ c.requires _ c.noted-known.ensures c.if-known-gt0.true

pub returns-in_default : goal.returns-in_default
returns-in_default g c = following_last c.loop-long.invariant (let k = rw c.used-long-end.ensures at c.loop-long-test.true in omega (arith, k)) _ c.next_of.ensures c.in_default.is _ c.one_more.ensures.0 c.one_more.ensures.1

pub loop-long-preserved : goal.loop-long-preserved
loop-long-preserved g c = following_on c.loop-long.invariant (let k = rw c.used-long-end.ensures at c.loop-long-test.true in omega (arith, k)) _ c.next_of.ensures _ c.in-Some.is
