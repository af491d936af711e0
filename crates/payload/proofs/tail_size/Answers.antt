-- `payload::tail_size` meets its contract. Assumes nothing.
use mathlib.Core.Path.{refl}
use Rattle.definition.specs.Write.{u32}
use Rattle.payload.proofs.tail_size.Goals as goal

pub returns-in-None : goal.returns-in-None
returns-in-None c = rw c.in-None.is refl

pub returns-in-Some : goal.returns-in-Some
unfolding u32
returns-in-Some c = rw c.in-Some.is refl
