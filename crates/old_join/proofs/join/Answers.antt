-- `old_join::join` meets its contract. Assumes nothing.
use Rattle.definition.specs.Types.{max_depth}
use Rattle.definition.specs.Join.{join}
use Rattle.old_join.proofs.join.Goals as goal

pub returns : goal.returns
unfolding join max_depth
returns c = c.join_case.ensures
