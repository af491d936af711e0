-- `recheck::check_record` meets its contract. Assumes nothing.
use native.Mathlib.Omega.{arith}
use mathlib.Core.Path.{sym, ◌∙◌}
use Rattle.std.proofs.lemmas.Result.{err_from_is_err_and}
use Rattle.definition.specs.Step.{number_of_refusal}
use Rattle.recheck.proofs.Public.{slow_is_main, short_recheck, unsound_recheck, other_recheck}
use Rattle.recheck.proofs.check_record.Goals as goal

pub returns-in_err-tested : goal.returns-in_err-tested
returns-in_err-tested c =
    let (e, is, why) = err_from_is_err_and c.from_residual.result c.from_residual.ensures.1 in
    rw is (unsound_recheck _ _ _ _ c.in_err-tested.ensures)

pub returns-then-answer-lt-MAX_BUFFER : goal.returns-then-answer-lt-MAX_BUFFER
returns-then-answer-lt-MAX_BUFFER c = short_recheck _ _ _ _ (omega (arith, c.if-answer-lt-MAX_BUFFER.true))

pub returns-then-not-is_checked : goal.returns-then-not-is_checked
unfolding number_of_refusal
returns-then-not-is_checked c = rw c.number.ensures (other_recheck _ _ _ _ (sym c.is_checked.ensures ∙ c.if-not-is_checked.true) (omega (arith, c.if-answer-lt-MAX_BUFFER.false)) c.in_ok-tested.ensures)

pub returns : goal.returns
returns c = rw (slow_is_main _ _ _ _ (sym c.is_checked.ensures ∙ c.if-not-is_checked.false)) c.record_checked.ensures
