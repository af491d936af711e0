-- `fields::read_in` meets its contract. Assumes nothing.
use Rattle.std.specs.Option.{option_map}
use Rattle.std.proofs.Common.{rules, ◌≡◌, Err, refl}
use Rattle.definition.specs.Reader.{◌>>=◌, go_on, read_one}
use Rattle.definition.specs.Trees.{read_type}
use Rattle.fields.proofs.Forms.{one_is, one_IN, type_unread}
use Rattle.fields.specs.declared.What.TheVariants as q
use Rattle.fields.specs.declared.Bind.TheVariants as b
use Rattle.fields.proofs.read_in.Goals as goal

pub returns-in_err-ty-clause-is : goal.returns-in_err-ty-clause-is
unfolding read_one read_type ◌>>=◌ go_on
returns-in_err-ty-clause-is c = λ names. let e : c.from_residual.result ≡ Err c.in_err-ty.field-0.0 = search rules in
    rw e (type_unread c.in_err-ty.ensures.is (λ s ds k x. rw x refl))

pub returns-clause-is : goal.returns-clause-is
returns-clause-is c = λ names.
    let e : c.map.result ≡ option_map (λ t. q.Bind (b.IN t)) c.in_ok-ty.ty = search rules in
    rw e (one_is _ one_IN c.in_ok-ty.ensures.is)
