use native.Mathlib.Omega.{arith}
use Rattle.expand.proofs.Walks.{leads_part, leaves_zero, leaves_none, sizing_none, sizing_more, sizing_out, sizing_all}
use Rattle.expand.proofs.+size.Goals as goal

pub returns-in_default : goal.returns-in_default
returns-in_default t c = leaves_zero c.args.chains.now.st.now _ _ _ (omega (arith, c.in_default.ensures))

pub returns-in_err-rest : goal.returns-in_err-rest
returns-in_err-rest t c = rw c.from_residual.ensures (leaves_none {below = c.in-Some.below} c.leads_to-shape.ensures (omega (arith, c.in-Some.ensures)) _ c.own_size.ensures.0 _ (omega (arith, c.in_err-rest.ensures)))

pub loop-i-init : goal.loop-i-init
loop-i-init t c = sizing_none {left = c.args.left} c.leads_to-shape.ensures (omega (arith, c.in-Some.ensures)) _ c.own_size.ensures.0 _ _ (omega (arith, c.in_ok-rest.ensures))

pub size-requires : goal.size-requires
size-requires t c = (omega (arith, c.in-Some.ensures, c.decreases), leads_part c.leads_to-shape.ensures c.part_count-i-end.ensures _ c.loop-i-test.true c.part_at-p.ensures)

pub returns-in_err-rest-2 : goal.returns-in_err-rest-2
returns-in_err-rest-2 t c = rw c.from_residual-in_err-rest-2.ensures (sizing_out c.leads_to-shape.ensures (omega (arith, c.in-Some.ensures)) c.part_count-i-end.ensures c.loop-i.invariant _ c.loop-i-test.true c.part_at-p.ensures _ c.size.ensures c.in_err-rest-2.was)

pub loop-i-preserved : goal.loop-i-preserved
loop-i-preserved t c = sizing_more {left = c.args.left} c.leads_to-shape.ensures (omega (arith, c.in-Some.ensures)) c.part_count-i-end.ensures c.loop-i.invariant _ c.loop-i-test.true c.part_at-p.ensures _ c.size.ensures _ c.in_ok-rest-2.was

pub returns : goal.returns
returns t c = sizing_all c.leads_to-shape.ensures (omega (arith, c.in-Some.ensures)) c.part_count-i-end.ensures c.loop-i.invariant c.loop-i-test.false
