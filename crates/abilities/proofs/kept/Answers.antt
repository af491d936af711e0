-- `abilities::kept` meets its contract. Assumes nothing.
use mathlib.Core.Path.{refl}
use Rattle.abilities.proofs.kept.Goals as goal

pub returns : goal.returns
returns c = rw c.wide-at.ensures refl
