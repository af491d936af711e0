-- `record::read_keep` meets its contract. Assumes nothing.
use Rattle.std.proofs.Common.{rules, ◌≡◌, Err, refl}
use Rattle.definition.specs.Reader.{◌>>=◌, go_on}
use Rattle.definition.specs.Record.{read_KP}
use Rattle.fields.proofs.Forms.{fields_is, unread_is}
use Rattle.record.proofs.read_keep.Goals as goal

pub returns-in_err-many-clause-is : goal.returns-in_err-many-clause-is
unfolding read_KP ◌>>=◌ go_on
returns-in_err-many-clause-is c = λ st. let e : c.from_residual.result ≡ Err c.in_err-many.field-0.0 = search rules in
    rw e (unread_is (λ s ds k. rw (← c.u8.ensures.is, c.in_err-many.was) refl))

pub returns-clause-is : goal.returns-clause-is
unfolding read_KP ◌>>=◌ go_on
returns-clause-is c = λ st. fields_is (λ ds s d k. rw (← c.u8.ensures.is, c.in_ok-many.was) refl) (c.read_names.ensures.is st)
