-- `names::has_drop` meets its contract. Assumes nothing.
use Rattle.definition.specs.Abilities.{has}
use Rattle.definition.specs.Trees.{has_drop}
use Rattle.names.proofs.has_drop.Goals as goal

pub returns : goal.returns
unfolding has has_drop
returns c = c.has.ensures
