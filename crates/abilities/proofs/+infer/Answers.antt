use native.Mathlib.Omega.{arith}
use Rattle.abilities.proofs.Sets.{some_left, walk_none, inferred_known, walk_part, walk_ends, walk_more, walk_parts, walk_done}
use Rattle.abilities.proofs.+infer.Goals as goal

pub bounds-sets-at : goal.bounds-sets-at
bounds-sets-at g t c = omega (arith, c.wide-at.ensures, c.requires.0, (g.S.ReadState.state c.args.chains.now.st.now).lay.nodes, c.requires.1.1.size)

pub returns-then-sets-at-ge256 : goal.returns-then-sets-at-ge256
returns-then-sets-at-ge256 g t c = inferred_known _ _ _ _ c.requires.1.1 (rw c.wide-at.ensures at c.if-sets-at-ge256.true)

pub goes_on-s-requires : goal.goes_on-s-requires
goes_on-s-requires g t c = c.requires.0

pub loop-i-init : goal.loop-i-init
loop-i-init g t c = let pre = c.requires in
    walk_none _ _ _ _ _ _ _ pre.0 pre.1.0 c.goes_on-s.ensures c.part_count-many.ensures pre.1.1

pub part_at-p-requires : goal.part_at-p-requires
part_at-p-requires g t c = λ κs o. o

pub overflow_sub-left : goal.overflow_sub-left
overflow_sub-left g t c = some_left _ _ _ c.loop-i.invariant.ends

pub infer-requires : goal.infer-requires
infer-requires g t c = let h = c.loop-i.invariant in
    let more = c.loop-i-test.true in
    let part = c.part_at-p.ensures in
    let l = some_left _ _ _ h.ends in
    λ κs o. (omega (arith, l, c.decreases), (o, (walk_part h more _ part, (walk_ends h more _ part, h.kept))))

pub loop-i-preserved : goal.loop-i-preserved
loop-i-preserved g t c = walk_more c.loop-i.invariant c.loop-i-test.true _ c.part_at-p.ensures _ c.infer.ensures

pub keep_set-requires : goal.keep_set-requires
keep_set-requires g t c = let h = c.loop-i.invariant in (h.in_nodes, (h.kept, walk_parts h c.loop-i-test.false))

pub returns : goal.returns
returns g t c = walk_done c.loop-i.invariant _ c.keep_set.ensures
