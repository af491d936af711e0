-- `names::has` meets its contract. Assumes nothing.
use mathlib.Core.Path.{refl}
use Rattle.definition.specs.Abilities.{has}
use Rattle.names.proofs.has.Goals as goal

pub returns : goal.returns
unfolding has
returns c = refl
