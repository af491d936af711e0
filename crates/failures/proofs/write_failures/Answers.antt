use native.Mathlib.Omega.{arith}
use Rattle.failures.proofs.Series.{written_none, written_all, one_fits, written_more}
use Rattle.failures.proofs.Rows.{ty_in, ready_in, given_in, list_pieces, constraint_is}
use Rattle.failures.proofs.write_failures.Goals as goal

pub loop-i-init : goal.loop-i-init
loop-i-init c = let pre = c.requires in
    let there = pre.ready.1.1.1 in
    written_none _ _ _ _ _ (list_pieces _ _ c.requires.given) _ _ (λ ds k. omega (arith, pre.fits ds k)) there.structs there.known

pub constraint_at-c-requires : goal.constraint_at-c-requires
constraint_at-c-requires c = c.loop-i-test.true

pub write_constraint-next-requires : goal.write_constraint-next-requires
write_constraint-next-requires c = let pre = c.requires in
    let there = pre.ready.1.1.1 in
    let lt = c.loop-i-test.true in
    let at = c.constraint_at-c.ensures in
    let is = constraint_is _ _ _ _ at in record {
      ready = (ty_in c.args.st.now _ _ lt at pre.ready.0, (ready_in _ _ _ lt at _ _ pre.ready.1.0, pre.ready.1.1));
      given = given_in c.args.st.now _ _ lt at _ pre.given;
      fits = one_fits _ _ _ _ _ (list_pieces _ _ c.requires.given) _ _ (λ ds k. omega (arith, pre.fits ds k)) there.structs there.known _ _ _ c.loop-i.invariant lt _ is;
    }

pub loop-i-preserved : goal.loop-i-preserved
loop-i-preserved c = let pre = c.requires in
    let there = pre.ready.1.1.1 in
    let is = constraint_is _ _ _ _ c.constraint_at-c.ensures in
    let inv = c.loop-i.invariant in
    written_more _ _ _ _ _ (list_pieces _ _ c.requires.given) _ _ (λ ds k. omega (arith, pre.fits ds k)) there.structs there.known _ _ _ inv c.loop-i-test.true _ is _ _ c.write_constraint-next.ensures

pub returns : goal.returns
returns c = written_all _ _ _ _ _ (list_pieces _ _ c.requires.given) _ _ _ _ _ c.loop-i.invariant (omega arith)
