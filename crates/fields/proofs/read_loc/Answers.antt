-- `fields::read_loc` meets its contract. Assumes nothing.
use Rattle.std.proofs.Common.{rules, ◌≡◌, Err, refl}
use Rattle.definition.specs.Reader.{◌>>=◌, go_on, read_one}
use Rattle.fields.proofs.Forms.{loc_is, unread_is}
use Rattle.fields.proofs.read_loc.Goals as goal

pub returns-in_err-loc-clause-is : goal.returns-in_err-loc-clause-is
unfolding read_one ◌>>=◌ go_on
returns-in_err-loc-clause-is c = λ st known names. let e : c.from_residual.result ≡ Err c.in_err-loc.field-0.0 = search rules in
    rw e (unread_is (λ s ds k. rw (← c.u32.ensures.is, c.in_err-loc.was) refl))

pub returns-clause-is : goal.returns-clause-is
returns-clause-is c = λ st known names. loc_is _ c.args.m (rw c.in_ok-loc.was at c.u32.ensures.is)
