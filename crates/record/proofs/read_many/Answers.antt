-- `record::read_many` meets its contract. Assumes nothing.
use Rattle.std.proofs.Common.{rules, ◌≡◌, Err, arith, refl}
use borrow.Author.Tests.{le-leb, lt-leb}
use Rattle.definition.specs.Reader.{◌>>=◌, go_on, give, refuse, byte_if}
use Rattle.definition.specs.Record.{is_many, read_MJ}
use Rattle.fields.proofs.Forms.{fields_is, unread_is}
use Rattle.record.proofs.read_many.Goals as goal

pub returns-in_err-many-clause-is : goal.returns-in_err-many-clause-is
unfolding read_MJ byte_if ◌>>=◌ go_on
returns-in_err-many-clause-is c = let e : c.from_residual.result ≡ Err c.in_err-many.field-0.0 = search rules in
    rw e (unread_is (λ s ds k. rw (← c.u8.ensures.is, c.in_err-many.was) refl))

pub returns-in-1-to-15-clause-is : goal.returns-in-1-to-15-clause-is
unfolding read_MJ byte_if is_many ◌>>=◌ go_on give
returns-in-1-to-15-clause-is c = fields_is (λ ds s d k. rw (← c.u8.ensures.is, c.in_ok-many.was, le-leb 1 c.in_ok-many.many (omega arith), le-leb c.in_ok-many.many 15 (omega arith)) refl) c.read_cases.ensures.is

pub returns-in_default-clause-is : goal.returns-in_default-clause-is
unfolding read_MJ byte_if is_many ◌>>=◌ go_on refuse
returns-in_default-clause-is c = unread_is (λ s ds k. rw (← c.u8.ensures.is, c.in_ok-many.was, lt-leb 1 c.in_ok-many.many (omega arith)) refl)

pub returns-in_default-2-clause-is : goal.returns-in_default-2-clause-is
unfolding read_MJ byte_if is_many ◌>>=◌ go_on refuse
returns-in_default-2-clause-is c = unread_is (λ s ds k. rw (← c.u8.ensures.is, c.in_ok-many.was, le-leb 1 c.in_ok-many.many (omega arith), lt-leb c.in_ok-many.many 15 (omega arith)) refl)
