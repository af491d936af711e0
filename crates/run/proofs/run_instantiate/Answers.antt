-- `run::run_instantiate` meets its contract. Assumes nothing.
use Rattle.run.proofs.Laws.{ran_instantiate}
use Rattle.run.proofs.run_instantiate.Goals as goal

pub returns : goal.returns
returns c = ran_instantiate _ _ c.instantiate.ensures c.shown.ensures
