-- `recheck::run_ready` meets its contract. Assumes nothing.
use Rattle.recheck.proofs.Running.{ran_ready}
use Rattle.recheck.proofs.run_ready.Goals as goal

pub returns : goal.returns
returns c = ran_ready _ c.ready_tvars.ensures c.shown.ensures
