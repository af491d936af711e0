-- `run::run_tvar` meets its contract. Assumes nothing.
use Rattle.run.proofs.Laws.{ran_tvar}
use Rattle.run.proofs.run_tvar.Goals as goal

pub returns : goal.returns
returns c = ran_tvar _ c.take_tvar.ensures c.shown.ensures
