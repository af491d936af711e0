-- `old_join::subtype` meets its contract. Assumes nothing.
use Rattle.definition.specs.Types.{max_depth}
use Rattle.definition.specs.Join.{subtype}
use Rattle.old_join.proofs.subtype.Goals as goal

pub returns : goal.returns
unfolding subtype max_depth
returns c = c.join_case.ensures
