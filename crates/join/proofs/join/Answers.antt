-- `join::join` meets its contract. Assumes nothing.
use Rattle.join.proofs.join.Goals as goal

pub returns : goal.returns
returns c = c.join_links.ensures.0
