-- `failures::size_constraint` meets its contract. Assumes nothing.
use mathlib.Core.List.{[]}
use native.Mathlib.Omega.{arith}
use Rattle.failures.proofs.Series.{sized_none, sized_all, sized_past, sized_more, sized_over}
use Rattle.failures.proofs.Rows.{row_pieces, row_is}
use Rattle.failures.proofs.size_constraint.Goals as goal

pub loop-k-init : goal.loop-k-init
loop-k-init c = sized_none _ _ _ _ _ (row_pieces _ _ _ c.requires.given _ c.row_count-n.ensures) _

pub ability_at-requires : goal.ability_at-requires
ability_at-requires c = omega (arith, c.row_count-n.ensures.1)

pub row_of-requires : goal.row_of-requires
row_of-requires c = (c.requires.ready.0, (c.ability_at.ensures.0, c.requires.ready.1.0))

pub size_failing-requires : goal.size_failing-requires
size_failing-requires c = (c.in-Some.ensures.inside, omega (arith, c.loop-k.invariant.small, c.requires.ready.1.1))

pub returns-in_err-left : goal.returns-in_err-left
returns-in_err-left c = let row = row_is _ _ _ _ _ _ c.in-Some.ensures c.ability_at.ensures.1 in
    let pieces = row_pieces _ _ _ c.requires.given _ c.row_count-n.ensures in
    rw c.from_residual.ensures (tt, sized_over _ _ _ _ _ pieces _ _ _ c.loop-k.invariant c.loop-k-test.true _ row (λ ds k. c.in_err-left.ensures ds))

pub overflow_sub-left : goal.overflow_sub-left
overflow_sub-left c = let e = c.in_ok-left.ensures [] in omega (arith, e.0, e.1)

pub loop-k-preserved : goal.loop-k-preserved
loop-k-preserved c = let row = row_is _ _ _ _ _ _ c.in-Some.ensures c.ability_at.ensures.1 in
    let pieces = row_pieces _ _ _ c.requires.given _ c.row_count-n.ensures in
    sized_more _ _ _ _ _ pieces _ _ _ c.loop-k.invariant c.loop-k-test.true _ row _ (λ ds k. c.in_ok-left.ensures ds)

pub loop-k-preserved-in_default : goal.loop-k-preserved-in_default
loop-k-preserved-in_default c = let row = row_is _ _ _ _ _ _ c.in_default.ensures c.ability_at.ensures.1 in
    let pieces = row_pieces _ _ _ c.requires.given _ c.row_count-n.ensures in
    sized_past _ _ _ _ _ pieces _ _ _ c.loop-k.invariant c.loop-k-test.true row

pub overflow_sub-result : goal.overflow_sub-result
overflow_sub-result c = c.loop-k.invariant.small

pub returns : goal.returns
returns c = (omega arith, sized_all _ _ _ _ _ (row_pieces _ _ _ c.requires.given _ c.row_count-n.ensures) _ _ _ c.loop-k.invariant c.loop-k-test.false)
