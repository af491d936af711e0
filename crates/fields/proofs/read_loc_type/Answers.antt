-- `fields::read_loc_type` meets its contract. Assumes nothing.
use Rattle.std.specs.Option.{option_map}
use Rattle.std.proofs.Common.{rules, ◌≡◌, Err, refl}
use Rattle.definition.specs.Reader.{◌>>=◌, go_on, read_one, read_two}
use Rattle.definition.specs.Trees.{read_type}
use Rattle.fields.proofs.Forms.{one_is, one_loc_type, fields_is, type_unread, unread_is}
use Rattle.fields.specs.declared.What.TheVariants as q
use Rattle.fields.specs.declared.Add.TheVariants as a
use Rattle.fields.proofs.read_loc_type.Goals as goal

pub returns-in_err-loc-clause-is : goal.returns-in_err-loc-clause-is
unfolding read_two ◌>>=◌ go_on
returns-in_err-loc-clause-is c = λ names. let e : c.from_residual.result ≡ Err c.in_err-loc.field-0.0 = search rules in
    rw e (unread_is (λ s ds k. rw (← c.u32.ensures.is, c.in_err-loc.was) refl))

pub returns-in_err-ty-clause-is : goal.returns-in_err-ty-clause-is
unfolding read_two read_type ◌>>=◌ go_on
returns-in_err-ty-clause-is c = λ names. let e : c.from_residual-in_err-ty.result ≡ Err c.in_err-ty.field-0.0 = search rules in
    rw e (type_unread c.in_err-ty.ensures.is (λ s ds k x. rw (← c.u32.ensures.is, c.in_ok-loc.was, x) refl))

pub returns-clause-is : goal.returns-clause-is
unfolding read_one read_two ◌>>=◌ go_on
returns-clause-is c = λ names.
    let e : c.map.result ≡ option_map (λ t. q.Add (a.LocType c.args.m c.in_ok-loc.loc t)) c.in_ok-ty.ty = search rules in
    rw e (fields_is (λ ds s d k. rw (← c.u32.ensures.is, c.in_ok-loc.was) refl) (one_is _ (one_loc_type c.args.m c.in_ok-loc.loc) c.in_ok-ty.ensures.is))
