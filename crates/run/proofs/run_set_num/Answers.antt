-- `run::run_set_num` meets its contract. Assumes nothing.
use Rattle.run.proofs.Laws.{ran_set_num}
use Rattle.run.proofs.run_set_num.Goals as goal

pub returns : goal.returns
returns c = ran_set_num _ _ c.set_num_var.ensures c.shown.ensures
