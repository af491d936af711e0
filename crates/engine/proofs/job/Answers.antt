-- `engine::job` meets its contract. Assumes nothing.
use Rattle.std.proofs.lemmas.Result.{err_from_is_err_and}
use Rattle.engine.proofs.Laws.{unsound_lines}
use Rattle.engine.proofs.job.Goals as goal

pub returns-in_err-tested : goal.returns-in_err-tested
returns-in_err-tested c =
    let (e, is, why) = err_from_is_err_and c.from_residual.result c.from_residual.ensures.1 in
    rw is (unsound_lines _ _ _ _ _ _ c.in_err-tested.ensures)
