-- `engine::lent_record` meets its contract. Assumes nothing.
use mathlib.Core.Path.{sym, ◌∙◌}
use lib.Dec.{leb→le}
use Rattle.theorems.proofs.SoundFacts.{test}
use Rattle.std.proofs.lemmas.Result.{err_from_is_err_and}
use Rattle.engine.proofs.Laws.{short_gives, unsound_gives}
use Rattle.engine.proofs.lent_record.Goals as goal

pub returns-then-not-fits : goal.returns-then-not-fits
returns-then-not-fits c = short_gives _ _ _ _ (sym c.fits.ensures ∙ c.if-not-fits.true)

pub returns-in_err-tested : goal.returns-in_err-tested
returns-in_err-tested c =
    let (e, is, why) = err_from_is_err_and c.from_residual.result c.from_residual.ensures.1 in
    rw is (unsound_gives _ _ _ _ c.in_err-tested.ensures)

pub record_trusted-requires : goal.record_trusted-requires
record_trusted-requires c = (c.in_ok-tested.ensures, leb→le _ _ (test (sym c.fits.ensures ∙ c.if-not-fits.false)))
