-- `run::run_declare` meets its contract. Assumes nothing.
use Rattle.run.proofs.Laws.{ran_declare}
use Rattle.run.proofs.run_declare.Goals as goal

pub returns : goal.returns
returns c = ran_declare c.push_struct.ensures c.shown.ensures
