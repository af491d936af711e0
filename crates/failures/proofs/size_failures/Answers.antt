-- `failures::size_failures` meets its contract. Assumes nothing.
use native.Mathlib.Omega.{arith}
use Rattle.failures.proofs.Series.{sized_none, sized_all, sized_more, sized_over}
use Rattle.failures.proofs.Rows.{ty_in, ready_in, given_in, list_pieces, constraint_is}
use Rattle.failures.proofs.size_failures.Goals as goal

pub loop-i-init : goal.loop-i-init
loop-i-init c = sized_none _ _ _ _ _ (list_pieces _ _ c.requires.given) _

pub constraint_at-c-requires : goal.constraint_at-c-requires
constraint_at-c-requires c = c.loop-i-test.true

pub size_constraint-requires : goal.size_constraint-requires
size_constraint-requires c = let lt = c.loop-i-test.true in
    let is = c.constraint_at-c.ensures in
    record {
      ready = (ty_in c.args.st.now _ _ lt is c.requires.ready.0, (ready_in _ _ _ lt is _ _ c.requires.ready.1, c.loop-i.invariant.small));
      given = given_in c.args.st.now _ _ lt is _ c.requires.given;
    }

pub returns-in_err-left : goal.returns-in_err-left
returns-in_err-left c = let is = constraint_is _ _ _ _ c.constraint_at-c.ensures in
    rw c.from_residual.ensures (sized_over _ _ _ _ _ (list_pieces _ _ c.requires.given) _ _ _ c.loop-i.invariant c.loop-i-test.true _ is c.in_err-left.ensures.1)

pub overflow_sub-left : goal.overflow_sub-left
overflow_sub-left c = omega (arith, c.in_ok-left.ensures.0)

pub loop-i-preserved : goal.loop-i-preserved
loop-i-preserved c = let is = constraint_is _ _ _ _ c.constraint_at-c.ensures in
    sized_more _ _ _ _ _ (list_pieces _ _ c.requires.given) _ _ _ c.loop-i.invariant c.loop-i-test.true _ is _ c.in_ok-left.ensures.1

pub overflow_sub-result : goal.overflow_sub-result
overflow_sub-result c = c.loop-i.invariant.small

pub returns : goal.returns
returns c = sized_all _ _ _ _ _ (list_pieces _ _ c.requires.given) _ _ _ c.loop-i.invariant c.loop-i-test.false
