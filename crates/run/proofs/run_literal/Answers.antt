-- `run::run_literal` meets its contract. Assumes nothing.
use Rattle.run.proofs.Laws.{ran_marked}
use Rattle.run.proofs.run_literal.Goals as goal

pub returns : goal.returns
returns c = ran_marked _ _ c.take_literal.ensures c.shown.ensures
