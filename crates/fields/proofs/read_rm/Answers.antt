-- `fields::read_rm` meets its contract. Assumes nothing.
use Rattle.std.proofs.Common.{rules, ◌≡◌, Err}
use Rattle.fields.proofs.Forms.{rm_is, rm_unread}
use Rattle.fields.proofs.read_rm.Goals as goal

pub returns-in_err-sums-clause-is : goal.returns-in_err-sums-clause-is
returns-in_err-sums-clause-is g c = λ names. let e : c.from_residual.result ≡ Err c.in_err-sums.field-0.0 = search rules in
    rw e (rm_unread _ c.in_err-sums.ensures.is)

pub returns-clause-is : goal.returns-clause-is
returns-clause-is g c = λ names. rm_is _ c.in_ok-sums.ensures.is
