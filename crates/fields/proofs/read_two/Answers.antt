-- `fields::read_two` meets its contract. Assumes nothing.
use Rattle.std.specs.Option.{option_map}
use Rattle.std.proofs.Common.{rules, ◌≡◌, Err, is_none, unwrap_or, refl}
use Rattle.definition.specs.Reader.{◌>>=◌, go_on, read_two}
use Rattle.definition.specs.Trees.{read_type}
use Rattle.fields.proofs.Forms.{two_is, two_unread, type_unread}
use Rattle.fields.specs.declared.What.TheVariants as q
use Rattle.fields.specs.declared.Bind.TheVariants as d
use Rattle.fields.proofs.read_two.Goals as goal

pub returns-in_err-lhs-clause-is : goal.returns-in_err-lhs-clause-is
unfolding read_two read_type ◌>>=◌ go_on
returns-in_err-lhs-clause-is c = λ names. let e : c.from_residual.result ≡ Err c.in_err-lhs.field-0.0 = search rules in
    rw e (type_unread c.in_err-lhs.ensures.is (λ s ds k x. rw x refl))

pub returns-in_err-rhs-clause-is : goal.returns-in_err-rhs-clause-is
returns-in_err-rhs-clause-is c = λ names. let e : c.from_residual-in_err-rhs.result ≡ Err c.in_err-rhs.field-0.0 = search rules in
    let a : c.is_none.result ≡ is_none c.in_ok-lhs.lhs = search rules in
    rw e (two_unread _ c.args.m c.in_ok-lhs.ensures.is (rw a at c.in_err-rhs.ensures.is))

pub returns-clause-is : goal.returns-clause-is
returns-clause-is c = λ names. let a : c.is_none.result ≡ is_none c.in_ok-lhs.lhs = search rules in
    let b : c.unwrap_or-first.result ≡ unwrap_or c.in_ok-lhs.lhs 0 = search rules in
    let e : c.map.result ≡ option_map (λ t. q.Bind (d.Two c.args.m c.unwrap_or-first.result t)) c.in_ok-rhs.rhs = search rules in
    rw (e, b) (two_is _ c.args.m c.in_ok-lhs.ensures.is (rw a at c.in_ok-rhs.ensures.is))
