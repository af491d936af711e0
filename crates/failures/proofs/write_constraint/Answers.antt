use mathlib.Core.List.{[]}
use native.Mathlib.Omega.{arith}
use Rattle.failures.proofs.Series.{wrote_none, written_none, written_all, one_fits, written_more}
use Rattle.failures.proofs.Rows.{row_pieces, row_is}
use Rattle.failing.proofs.Report.{fits_same}
use Rattle.failures.proofs.write_constraint.Goals as goal

pub loop-k-init : goal.loop-k-init
loop-k-init c = let pre = c.requires in
    let there = pre.ready.1.1.1 in
    written_none _ _ _ _ _ (row_pieces _ _ _ c.requires.given _ c.row_count-n.ensures) _ _ pre.fits there.structs there.known

pub ability_at-requires : goal.ability_at-requires
ability_at-requires c = omega (arith, c.row_count-n.ensures.1)

pub row_of-requires : goal.row_of-requires
row_of-requires c = let pre = c.requires in
    (pre.ready.0, (c.ability_at.ensures.0, pre.ready.1.0))

pub write_failing-next-requires : goal.write_failing-next-requires
write_failing-next-requires c = let pre = c.requires in
    let there = pre.ready.1.1.1 in
    let row = row_is _ _ _ _ _ _ c.in-Some.ensures c.ability_at.ensures.1 in
    let inv = c.loop-k.invariant in
    let pieces = row_pieces _ _ _ c.requires.given _ c.row_count-n.ensures in
    let fits = one_fits _ _ _ _ _ pieces _ _ pre.fits there.structs there.known _ _ _ inv c.loop-k-test.true _ row there.structs there.known in record { inside = (c.in-Some.ensures.inside, pre.ready.1.1.0); fits = λ ds. fits_same _ _ _ ds c.in-Some.f _ _ fits }

pub loop-k-preserved : goal.loop-k-preserved
loop-k-preserved c = let pre = c.requires in
    let there = pre.ready.1.1.1 in
    let row = row_is _ _ _ _ _ _ c.in-Some.ensures c.ability_at.ensures.1 in
    let inv = c.loop-k.invariant in
    let pieces = row_pieces _ _ _ c.requires.given _ c.row_count-n.ensures in
    written_more _ _ _ _ _ pieces _ _ pre.fits there.structs there.known _ _ _ inv c.loop-k-test.true _ row _ _ (λ ds k. c.write_failing-next.ensures ds)

pub loop-k-preserved-in_default : goal.loop-k-preserved-in_default
loop-k-preserved-in_default c = let pre = c.requires in
    let there = pre.ready.1.1.1 in
    let row = row_is _ _ _ _ _ _ c.in_default.ensures c.ability_at.ensures.1 in
    let inv = c.loop-k.invariant in
    let pieces = row_pieces _ _ _ c.requires.given _ c.row_count-n.ensures in
    let fits = one_fits _ _ _ _ _ pieces _ _ pre.fits there.structs there.known _ _ _ inv c.loop-k-test.true (λ ds. []) row there.structs there.known in
    written_more _ _ _ _ _ pieces _ _ pre.fits there.structs there.known _ _ _ inv c.loop-k-test.true (λ ds. []) row _ _ (λ ds k. wrote_none _ _ (omega (arith, fits)))

pub returns : goal.returns
returns c = written_all _ _ _ _ _ (row_pieces _ _ _ c.requires.given _ c.row_count-n.ensures) _ _ _ _ _ c.loop-k.invariant (omega arith)
