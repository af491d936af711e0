use native.Mathlib.Omega.{arith}
use Rattle.abilities.proofs.Sets.{some_left}
use Rattle.expand.proofs.Walks.{comes_here, passed_none, passed_part, passed_ends, passed_one, passed_more, passed_all, passed_clears}
use Rattle.expand.proofs.+comes_to_marked.Goals as goal

pub returns-then-is_marked : goal.returns-then-is_marked
returns-then-is_marked t c = (comes_here c.goes_on-shape.ensures _ c.is_marked.ensures _ c.requires.1.0 c.if-is_marked.true, c.requires.1.1)

pub loop-i-init : goal.loop-i-init
loop-i-init t c = passed_none c.goes_on-shape.ensures _ c.is_marked.ensures c.requires.0 c.requires.1.0 c.if-is_marked.false c.part_count-i-end.ensures c.requires.1.1

pub overflow_sub-left : goal.overflow_sub-left
overflow_sub-left t c = some_left _ _ _ c.loop-i.invariant.ends

pub comes_to_marked-requires : goal.comes_to_marked-requires
comes_to_marked-requires t c = let h = c.loop-i.invariant in
    let l = some_left _ _ _ h.ends in
    (omega (arith, l, c.decreases), (passed_part h _ c.loop-i-test.true c.part_at-p.ensures, (passed_ends h _ c.loop-i-test.true c.part_at-p.ensures, h.clears)))

pub returns-then-comes_to_marked : goal.returns-then-comes_to_marked
returns-then-comes_to_marked t c = (passed_one c.loop-i.invariant _ c.loop-i-test.true c.part_at-p.ensures (rw c.if-comes_to_marked.true at c.comes_to_marked.ensures.0), c.comes_to_marked.ensures.1)

pub loop-i-preserved : goal.loop-i-preserved
loop-i-preserved t c = passed_more c.loop-i.invariant _ c.loop-i-test.true c.part_at-p.ensures (rw c.if-comes_to_marked.false at c.comes_to_marked.ensures.0) c.comes_to_marked.ensures.1

pub returns : goal.returns
returns t c = (passed_all c.loop-i.invariant c.loop-i-test.false, rw c.wide-at.ensures (passed_clears c.loop-i.invariant c.loop-i-test.false))
