-- `split::split` meets its contract. Assumes nothing.
use Rattle.split.proofs.Laws.{unsound_rest}
use Rattle.split.proofs.split.Goals as goal

pub returns-in-Err-clause-rest : goal.returns-in-Err-clause-rest
returns-in-Err-clause-rest c = unsound_rest _ _ _ c.in-Err.ensures
