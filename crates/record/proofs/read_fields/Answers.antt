-- `record::read_fields` meets its contract. Assumes nothing.
use Rattle.std.proofs.Common.{rules, ◌≡◌, Err, refl}
use Rattle.definition.specs.Reader.{◌>>=◌, go_on, refuse}
use Rattle.definition.specs.Record.{read_fields}
use Rattle.fields.proofs.Forms.{fields_is, unread_is}
use Rattle.record.proofs.read_fields.Goals as goal

pub returns-in_err-first-clause-is : goal.returns-in_err-first-clause-is
unfolding read_fields ◌>>=◌ go_on
returns-in_err-first-clause-is c = let e : c.from_residual.result ≡ Err c.in_err-first.field-0.0 = search rules in
    rw e (unread_is (λ s ds k. rw (← c.u8.ensures.is, c.in_err-first.was) refl))

pub returns-in_err-second-clause-is : goal.returns-in_err-second-clause-is
unfolding read_fields ◌>>=◌ go_on
returns-in_err-second-clause-is c = let e : c.from_residual-in_err-second.result ≡ Err c.in_err-second.field-0.0 = search rules in
    rw e (unread_is (λ s ds k. rw (← c.u8.ensures.is, c.in_ok-first.was, ← c.u8-2.ensures.is, c.in_err-second.was) refl))

pub returns-in_default-clause-is : goal.returns-in_default-clause-is
unfolding read_fields ◌>>=◌ go_on refuse
returns-in_default-clause-is c = unread_is (λ s ds k.
    let m = rw (c.from.ensures, c.from-2.ensures) at (c.mark_of.ensures s) in
    rw (← c.u8.ensures.is, c.in_ok-first.was, ← c.u8-2.ensures.is, c.in_ok-second.was, ← m, c.in_default.is) refl)

pub returns-clause-is : goal.returns-clause-is
unfolding read_fields ◌>>=◌ go_on
returns-clause-is c = fields_is (λ ds s d k.
    let m = rw (c.from.ensures, c.from-2.ensures) at (c.mark_of.ensures s) in
    rw (← c.u8.ensures.is, c.in_ok-first.was, ← c.u8-2.ensures.is, c.in_ok-second.was, ← m, c.in-Some.is) refl) c.fields_of.ensures.is
