-- `run::run_num_tvar` meets its contract. Assumes nothing.
use Rattle.run.proofs.Laws.{ran_marked}
use Rattle.run.proofs.run_num_tvar.Goals as goal

pub returns : goal.returns
returns c = ran_marked _ _ c.take_num_tvar.ensures c.shown.ensures
