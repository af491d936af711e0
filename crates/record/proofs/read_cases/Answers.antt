-- `record::read_cases` meets its contract. Assumes nothing.
use Rattle.std.proofs.Common.{rules, ◌≡◌, Err, is_none, unwrap_or, refl, sym, subst, arith}
use Rattle.cursor.proofs.Within.{within_all, within_then}
use Rattle.heads.specs.Fields.{Arities}
use Rattle.record.proofs.Many.{many_none, many_cut, many_stop, many_stop_second, many_turn, many_full, many_all}
use Rattle.record.proofs.read_cases.Goals as goal

pub loop-i-init : goal.loop-i-init
loop-i-init c = (many_none _ _ _ c.requires.few.1, within_all)

pub returns-in_err-case-clause-is : goal.returns-in_err-case-clause-is
returns-in_err-case-clause-is c = let e : c.from_residual.result ≡ Err c.in_err-case.field-0.0 = search rules in
    rw e (many_cut c.loop-i.invariant.0 (rw c.from-i-end.ensures at c.loop-i-test.true) (rw c.in_err-case.was at c.byte_to.ensures.is))

pub read_type-requires : goal.read_type-requires
read_type-requires c = let g = c.loop-i.invariant.0 in subst Arities (sym g.structs) c.requires.few_params

pub returns-in_err-lhs-clause-is : goal.returns-in_err-lhs-clause-is
returns-in_err-lhs-clause-is c = let e : c.from_residual-in_err-lhs.result ≡ Err c.in_err-lhs.field-0.0 = search rules in
    rw e (many_stop c.loop-i.invariant.0 (rw c.in_ok-case.was at c.byte_to.ensures.is) (rw c.from-i-end.ensures at c.loop-i-test.true) c.in_err-lhs.ensures.is)

pub returns-in_err-rhs-clause-is : goal.returns-in_err-rhs-clause-is
returns-in_err-rhs-clause-is c = let e : c.from_residual-in_err-rhs.result ≡ Err c.in_err-rhs.field-0.0 = search rules in
    let a : c.is_none.result ≡ is_none c.in_ok-lhs.lhs = search rules in
    rw e (many_stop_second c.loop-i.invariant.0 (rw c.in_ok-case.was at c.byte_to.ensures.is) (rw c.from-i-end.ensures at c.loop-i-test.true) c.in_ok-lhs.ensures.is (rw a at c.in_err-rhs.ensures.is))

pub loop-i-preserved : goal.loop-i-preserved
loop-i-preserved c =
    let a : c.is_none.result ≡ is_none c.in_ok-lhs.lhs = search rules in
    let b : c.is_none-over.result ≡ is_none c.in_ok-rhs.rhs = search rules in (
      rw (b, c.from.ensures, c.unwrap_or.ensures, c.unwrap_or-in-loop-i.ensures)
          (many_turn c.loop-i.invariant.0 (rw c.in_ok-case.was at c.byte_to.ensures.is) (rw c.from-i-end.ensures at c.loop-i-test.true) c.in_ok-lhs.ensures.is (rw a at c.in_ok-rhs.ensures.is) c.requires.few.0),
      within_then c.loop-i.invariant.1 (within_then c.byte_to.ensures.within (within_then c.in_ok-lhs.ensures.within c.in_ok-rhs.ensures.within)),
    )

pub returns-then-over-clause-is : goal.returns-then-over-clause-is
returns-then-over-clause-is c = many_full c.loop-i.invariant.0 (rw c.from-i-end.ensures at c.loop-i-test.false) c.if-over.true

pub returns-clause-is : goal.returns-clause-is
returns-clause-is c = rw c.from-2.ensures (many_all c.loop-i.invariant.0 (rw c.from-i-end.ensures at c.loop-i-test.false) c.requires.few.0 c.if-over.false)
