-- `run::run_links` meets its contract. Assumes nothing.
use Rattle.run.proofs.Laws.{ran_links}
use Rattle.run.proofs.run_links.Goals as goal

pub returns : goal.returns
returns c = ran_links _ _ _ c.join_links-joined.ensures.0 c.join_links-joined.ensures.1 c.counted.ensures
