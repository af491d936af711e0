-- `fields::read_nc` meets its contract. Assumes nothing.
use Rattle.std.specs.Option.{option_map}
use Rattle.std.proofs.Common.{rules, ◌≡◌, Err, refl}
use Rattle.definition.specs.Reader.{◌>>=◌, go_on, read_one, read_three}
use Rattle.definition.specs.Trees.{read_type}
use Rattle.fields.proofs.Forms.{one_is, one_NC, fields_is, type_unread, unread_is}
use Rattle.fields.specs.declared.What.TheVariants as q
use Rattle.fields.specs.declared.Add.TheVariants as a
use Rattle.fields.proofs.read_nc.Goals as goal

pub returns-in_err-loc-clause-is : goal.returns-in_err-loc-clause-is
unfolding read_three ◌>>=◌ go_on
returns-in_err-loc-clause-is c = λ names. let e : c.from_residual.result ≡ Err c.in_err-loc.field-0.0 = search rules in
    rw e (unread_is (λ s ds k. rw (← c.u32.ensures.is, c.in_err-loc.was) refl))

pub returns-in_err-kind-clause-is : goal.returns-in_err-kind-clause-is
unfolding read_three ◌>>=◌ go_on
returns-in_err-kind-clause-is c = λ names. let e : c.from_residual-in_err-kind.result ≡ Err c.in_err-kind.field-0.0 = search rules in
    rw e (unread_is (λ s ds k. rw (← c.u32.ensures.is, c.in_ok-loc.was, ← c.read_kind.ensures.is, c.in_err-kind.was) refl))

pub returns-in_err-ty-clause-is : goal.returns-in_err-ty-clause-is
unfolding read_three read_type ◌>>=◌ go_on
returns-in_err-ty-clause-is c = λ names. let e : c.from_residual-in_err-ty.result ≡ Err c.in_err-ty.field-0.0 = search rules in
    rw e (type_unread c.in_err-ty.ensures.is (λ s ds k x. rw (← c.u32.ensures.is, c.in_ok-loc.was, ← c.read_kind.ensures.is, c.in_ok-kind.was, x) refl))

pub returns-clause-is : goal.returns-clause-is
unfolding read_one read_three ◌>>=◌ go_on
returns-clause-is c = λ names.
    let e : c.map.result ≡ option_map (λ t. q.Add (a.NC c.in_ok-loc.loc c.in_ok-kind.kind t)) c.in_ok-ty.ty = search rules in
    rw e (fields_is (λ ds s d k. rw (← c.u32.ensures.is, c.in_ok-loc.was, ← c.read_kind.ensures.is, c.in_ok-kind.was) refl) (one_is _ (one_NC c.in_ok-loc.loc c.in_ok-kind.kind) c.in_ok-ty.ensures.is))
