use native.Mathlib.Omega.{arith}
use Rattle.expand.specs.Told.{set_in}
use Rattle.expand.proofs.Walks.{leads_part, wrote_zero, own_room, writing_none, part_room, writing_more, writing_all, fit_part, fit_bytes}
use Rattle.expand.proofs.+write.Goals as goal

pub returns-in_default : goal.returns-in_default
returns-in_default t c = wrote_zero _ _ c.args.chains.now.st.now _ _ _ _ (omega (arith, c.in_default.ensures)) c.requires.fits

pub write_own-next-requires : goal.write_own-next-requires
write_own-next-requires t c = let pre = c.requires in
    (fit_bytes pre.kept.0 pre.kept.1 c.leads_to-n.ensures pre.in_use.1 _ c.kept.ensures, rw c.kept.ensures (own_room {below = c.in-Some.below} c.leads_to-n.ensures (omega (arith, c.in-Some.ensures)) c.part_count-many.ensures c.args.half (set_in c.args.sets.now) _ _ pre.fits))

pub loop-i-init : goal.loop-i-init
loop-i-init t c = writing_none c.leads_to-n.ensures (omega (arith, c.in-Some.ensures)) c.part_count-many.ensures c.args.half (set_in c.args.sets.now) _ _ c.requires.fits (rw c.kept.ensures at c.write_own-next.ensures)

pub write-next-requires : goal.write-next-requires
write-next-requires t c = let pre = c.requires in
    let n = c.leads_to-n.ensures in
    let m = c.part_count-many.ensures in
    let l = c.loop-i-test.true in (
      omega (arith, c.in-Some.ensures, c.decreases),
      (
        (leads_part n m _ l c.part_at-p.ensures, pre.in_use.1),
        (
          (pre.kept.0, fit_part pre.kept.0 pre.kept.1 n m _ l c.part_at-p.ensures),
          part_room n (omega (arith, c.in-Some.ensures)) m c.args.half (set_in c.args.sets.now) _ _ pre.fits (rw c.kept.ensures at c.write_own-next.ensures) c.loop-i.invariant _ l c.part_at-p.ensures,
        ),
      ),
    )

pub loop-i-preserved : goal.loop-i-preserved
loop-i-preserved t c = writing_more c.leads_to-n.ensures (omega (arith, c.in-Some.ensures)) c.part_count-many.ensures c.args.half (set_in c.args.sets.now) _ _ c.requires.fits (rw c.kept.ensures at c.write_own-next.ensures) c.loop-i.invariant _ c.loop-i-test.true c.part_at-p.ensures c.write-next.ensures

pub returns : goal.returns
returns t c = writing_all c.leads_to-n.ensures (omega (arith, c.in-Some.ensures)) c.part_count-many.ensures c.args.half (set_in c.args.sets.now) _ _ c.requires.fits (rw c.kept.ensures at c.write_own-next.ensures) c.loop-i.invariant c.loop-i-test.false
