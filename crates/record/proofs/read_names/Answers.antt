-- `record::read_names` meets its contract. Assumes nothing.
use Rattle.std.proofs.Common.{rules, ◌≡◌, Err, arith}
use Rattle.cursor.proofs.Within.{within_all, within_then}
use Rattle.record.proofs.Names.{names_none, names_turn, names_cut, names_all}
use Rattle.record.proofs.read_names.Goals as goal

pub loop-i-init : goal.loop-i-init
loop-i-init c = (names_none _ _ _ c.requires.0, within_all)

pub returns-in_err-v-clause-is : goal.returns-in_err-v-clause-is
returns-in_err-v-clause-is c = λ st. let e : c.from_residual.result ≡ Err c.in_err-v.field-0.0 = search rules in
    rw e (names_cut _ c.loop-i.invariant.0 (rw c.from-i-end.ensures at c.loop-i-test.true) (rw c.in_err-v.was at c.name_below.ensures.is))

pub loop-i-preserved : goal.loop-i-preserved
loop-i-preserved c = (
  names_turn _ c.loop-i.invariant.0 (rw c.from-i-end.ensures at c.loop-i-test.true) c.requires.1 (rw c.in_ok-v.was at c.name_below.ensures.is),
  within_then c.loop-i.invariant.1 c.name_below.ensures.within,
)

pub returns-clause-is : goal.returns-clause-is
returns-clause-is c = λ st. rw c.from.ensures (names_all _ c.loop-i.invariant.0 (rw c.from-i-end.ensures at c.loop-i-test.false) c.requires.1)
