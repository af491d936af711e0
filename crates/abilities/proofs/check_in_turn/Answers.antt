use mathlib.Core.Path.{◌≡◌}
use borrow.Author.Rules.{rules}
use Rattle.std.specs.Prelude.{Err}
use Rattle.abilities.proofs.Checked.{passed_none, passed_all, passed_asked, passed_stop, passed_more}
use Rattle.abilities.proofs.check_in_turn.Goals as goal

pub loop-i-init : goal.loop-i-init
loop-i-init g c = passed_none _ _ _ _ c.requires.0 c.requires.1.0 c.requires.1.1

pub check_constraint-requires : goal.check_constraint-requires
check_constraint-requires g c = let pre = c.requires in
    let loop = c.loop-i in (passed_asked loop.invariant (rw c.used-i-end.ensures at c.loop-i-test.true) _ c.constraint_at-c.ensures, (loop.invariant.measured, loop.invariant.kept))

pub returns-in_err-check_constraint : goal.returns-in_err-check_constraint
returns-in_err-check_constraint g c =
    let e : c.from_residual.result ≡ Err c.in_err-check_constraint.field-0.0 = search rules in
    rw e (passed_stop c.loop-i.invariant (rw c.used-i-end.ensures at c.loop-i-test.true) _ c.constraint_at-c.ensures _ _ c.in_err-check_constraint.ensures.1)

pub loop-i-preserved : goal.loop-i-preserved
loop-i-preserved g c = passed_more c.loop-i.invariant (rw c.used-i-end.ensures at c.loop-i-test.true) _ c.constraint_at-c.ensures _ (rw c.in_ok-check_constraint.was at c.check_constraint.ensures.1) _ c.check_constraint.ensures.0

pub returns : goal.returns
returns g c = passed_all c.loop-i.invariant (rw c.used-i-end.ensures at c.loop-i-test.false)
