-- `instantiate::instantiate` meets its contract. Assumes nothing.
use native.Mathlib.Numerals.{add-one}
use Rattle.definition.specs.Instantiate as D
use Rattle.instantiate.proofs.instantiate.Goals as goal

pub returns : goal.returns
unfolding D.instantiate
returns c = rw add-one at c.instantiate_down.ensures
