-- `fields::read_sd` meets its contract. Assumes nothing.
use Rattle.std.proofs.Common.{rules, ◌≡◌, Err, refl}
use Rattle.definition.specs.Reader.{◌>>=◌, go_on, give}
use Rattle.definition.specs.Record.{read_SD}
use Rattle.reader.specs.Taken.{place_read}
use Rattle.fields.specs.Noded.{place_record}
use Rattle.fields.proofs.Forms.{fields_none, unread_is}
use Rattle.fields.proofs.read_sd.Goals as goal

pub returns-in_err-byte_to-clause-is : goal.returns-in_err-byte_to-clause-is
unfolding read_SD ◌>>=◌ go_on
returns-in_err-byte_to-clause-is c = λ st known names. let e : c.from_residual.result ≡ Err c.in_err-byte_to.field-0.0 = search rules in
    rw e (unread_is (λ s ds k. rw (← c.byte_to.ensures.is, c.in_err-byte_to.was) refl))

pub returns-in_err-many-clause-is : goal.returns-in_err-many-clause-is
unfolding read_SD ◌>>=◌ go_on
returns-in_err-many-clause-is c = λ st known names. let e : c.from_residual-in_err-many.result ≡ Err c.in_err-many.field-0.0 = search rules in
    rw e (unread_is (λ s ds k. rw (← c.byte_to.ensures.is, c.in_ok-byte_to.was, ← c.byte_to-2.ensures.is, c.in_err-many.was) refl))

pub returns-in_err-params-clause-is : goal.returns-in_err-params-clause-is
unfolding read_SD ◌>>=◌ go_on
returns-in_err-params-clause-is c = λ st known names. let e : c.from_residual-in_err-params.result ≡ Err c.in_err-params.field-0.0 = search rules in
    rw e (unread_is (λ s ds k. rw (← c.byte_to.ensures.is, c.in_ok-byte_to.was, ← c.byte_to-2.ensures.is, c.in_ok-many.was, ← c.read_params.ensures.is, c.in_err-params.was) refl))

pub returns-clause-is : goal.returns-clause-is
unfolding place_read place_record read_SD ◌>>=◌ go_on give
returns-clause-is c = λ st known names. fields_none (c.in_ok-byte_to.ensures.most, c.in_ok-params.ensures.few)
    (λ s s' ds k. rw (← c.byte_to.ensures.is, c.in_ok-byte_to.was, ← c.byte_to-2.ensures.is, c.in_ok-many.was, ← c.read_params.ensures.is, c.in_ok-params.was) refl)
