-- `fields::read_nl` meets its contract. Assumes nothing.
use Rattle.std.proofs.Common.{rules, ◌≡◌, Err, refl}
use Rattle.definition.specs.Reader.{◌>>=◌, go_on, give, read_two}
use Rattle.reader.specs.Taken.{place_read}
use Rattle.fields.specs.Noded.{place_record}
use Rattle.fields.proofs.Forms.{fields_none, unread_is}
use Rattle.fields.proofs.read_nl.Goals as goal

pub returns-in_err-loc-clause-is : goal.returns-in_err-loc-clause-is
unfolding read_two ◌>>=◌ go_on
returns-in_err-loc-clause-is c = λ st known names. let e : c.from_residual.result ≡ Err c.in_err-loc.field-0.0 = search rules in
    rw e (unread_is (λ s ds k. rw (← c.u32.ensures.is, c.in_err-loc.was) refl))

pub returns-in_err-bits-clause-is : goal.returns-in_err-bits-clause-is
unfolding read_two ◌>>=◌ go_on
returns-in_err-bits-clause-is c = λ st known names. let e : c.from_residual-in_err-bits.result ≡ Err c.in_err-bits.field-0.0 = search rules in
    rw e (unread_is (λ s ds k. rw (← c.u32.ensures.is, c.in_ok-loc.was, ← c.read_bits.ensures.is, c.in_err-bits.was) refl))

pub returns-clause-is : goal.returns-clause-is
unfolding place_read place_record read_two ◌>>=◌ go_on give
returns-clause-is c = λ st known names. fields_none tt (λ s s' ds k. rw (← c.u32.ensures.is, c.in_ok-loc.was, ← c.read_bits.ensures.is, c.in_ok-bits.was) refl)
