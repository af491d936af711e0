-- `record::read_pairs` meets its contract. Assumes nothing.
use Rattle.std.specs.Option.{option_map}
use Rattle.std.proofs.Common.{rules, ◌≡◌, Err, is_none, unwrap_or, refl, sym, subst}
use Rattle.cursor.proofs.Within.{within_all, within_then}
use Rattle.heads.specs.Fields.{Arities}
use Rattle.record.proofs.Pairs.{pairs_none, pairs_cut, pairs_stop, pairs_turn, last_unread, pairs_all}
use Rattle.fields.specs.declared.What.TheVariants as q
use Rattle.fields.specs.declared.Look.TheVariants as k
use Rattle.record.proofs.read_pairs.Goals as goal

pub loop-i-init : goal.loop-i-init
loop-i-init c = (pairs_none _ _ _ refl refl, within_all)

pub returns-in_err-id-clause-is : goal.returns-in_err-id-clause-is
returns-in_err-id-clause-is c = λ names. let e : c.from_residual.result ≡ Err c.in_err-id.field-0.0 = search rules in
    rw e (pairs_cut c.loop-i.invariant.0 (rw c.from-i-end.ensures at c.loop-i-test.true) (rw c.in_err-id.was at c.u32.ensures.is))

pub read_type-requires : goal.read_type-requires
read_type-requires c = let g = c.loop-i.invariant.0 in subst Arities (sym g.structs) c.requires.few_params

pub returns-in_err-ty-clause-is : goal.returns-in_err-ty-clause-is
returns-in_err-ty-clause-is c = λ names. let e : c.from_residual-in_err-ty.result ≡ Err c.in_err-ty.field-0.0 = search rules in
    rw e (pairs_stop c.loop-i.invariant.0 (rw c.in_ok-id.was at c.u32.ensures.is) (rw c.from-i-end.ensures at c.loop-i-test.true) c.in_err-ty.ensures.is)

pub loop-i-preserved : goal.loop-i-preserved
loop-i-preserved c = let a : c.is_none-over.result ≡ is_none c.in_ok-ty.ty = search rules in
    let b : c.unwrap_or.result ≡ unwrap_or c.in_ok-ty.ty 0 = search rules in (
      rw (a, b) (pairs_turn c.loop-i.invariant.0 (rw c.in_ok-id.was at c.u32.ensures.is) (rw c.from-i-end.ensures at c.loop-i-test.true) c.in_ok-ty.ensures.is c.requires.few),
      within_then c.loop-i.invariant.1 (within_then c.u32.ensures.within c.in_ok-ty.ensures.within),
    )

pub read_type-requires-2 : goal.read_type-requires-2
read_type-requires-2 c = let g = c.loop-i.invariant.0 in subst Arities (sym g.structs) c.requires.few_params

pub returns-in_err-last-clause-is : goal.returns-in_err-last-clause-is
returns-in_err-last-clause-is c = λ names. let e : c.from_residual-in_err-last.result ≡ Err c.in_err-last.field-0.0 = search rules in
    rw e (last_unread c.loop-i.invariant.0 (rw c.from-i-end.ensures at c.loop-i-test.false) c.in_err-last.ensures.is)

pub returns-clause-is : goal.returns-clause-is
returns-clause-is c = λ names.
    let e : c.map.result ≡ option_map (λ t. q.Look (k.TS (record { ids = c.loop-i.ids; nodes = c.loop-i.nodes; many = c.args.many }) t)) c.in_ok-last.last = search rules in
    rw e (pairs_all c.loop-i.invariant.0 (rw c.from-i-end.ensures at c.loop-i-test.false) c.requires.few c.in_ok-last.ensures.is)
