-- `record::read_ts` meets its contract. Assumes nothing.
use Rattle.std.proofs.Common.{rules, ◌≡◌, Err, refl}
use Rattle.definition.specs.Reader.{◌>>=◌, go_on}
use Rattle.definition.specs.Record.{read_TS}
use Rattle.fields.proofs.Forms.{fields_is, unread_is}
use Rattle.record.proofs.read_ts.Goals as goal

pub returns-in_err-many-clause-is : goal.returns-in_err-many-clause-is
unfolding read_TS ◌>>=◌ go_on
returns-in_err-many-clause-is c = λ names. let e : c.from_residual.result ≡ Err c.in_err-many.field-0.0 = search rules in
    rw e (unread_is (λ s ds k. rw (← c.byte_to.ensures.is, c.in_err-many.was) refl))

pub returns-clause-is : goal.returns-clause-is
unfolding read_TS ◌>>=◌ go_on
returns-clause-is c = λ names. fields_is (λ ds s d k. rw (← c.byte_to.ensures.is, c.in_ok-many.was) refl) (c.read_pairs.ensures.is names)
