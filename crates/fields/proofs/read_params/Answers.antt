-- `fields::read_params` meets its contract. Assumes nothing.
use Rattle.std.proofs.Common.{rules, ◌≡◌, Err, refl}
use Rattle.cursor.proofs.Within.{within_all, within_then}
use Rattle.fields.proofs.Bytes.{params_none, params_more, params_stop, params_all}
use Rattle.fields.proofs.read_params.Goals as goal

pub loop-i-init : goal.loop-i-init
loop-i-init c = (params_none _ _ refl, within_all)

pub returns-in_err-bytes-clause-is : goal.returns-in_err-bytes-clause-is
returns-in_err-bytes-clause-is c = let e : c.from_residual.result ≡ Err c.in_err-bytes.field-0.0 = search rules in
    rw e (params_stop c.loop-i.invariant.0 (rw c.from-i-end.ensures at c.loop-i-test.true) (rw c.in_err-bytes.was at c.byte_to.ensures.is))

pub loop-i-preserved : goal.loop-i-preserved
loop-i-preserved c = (
  params_more c.loop-i.invariant.0 c.requires (rw c.from-i-end.ensures at c.loop-i-test.true) (rw c.in_ok-bytes.was at c.byte_to.ensures.is),
  within_then c.loop-i.invariant.1 c.byte_to.ensures.within,
)

pub returns-clause-is : goal.returns-clause-is
returns-clause-is c = params_all c.loop-i.invariant.0 (rw c.from-i-end.ensures at c.loop-i-test.false)
