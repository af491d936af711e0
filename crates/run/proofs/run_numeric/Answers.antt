-- `run::run_numeric` meets its contract. Assumes nothing.
use Rattle.run.proofs.Laws.{ran_constraint}
use Rattle.run.proofs.run_numeric.Goals as goal

pub returns : goal.returns
returns c = ran_constraint _ c.numeric_constraint.ensures c.listed.ensures
