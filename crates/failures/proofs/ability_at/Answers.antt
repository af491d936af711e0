-- `failures::ability_at` meets its contract. Assumes nothing.
use mathlib.Core.Path.{refl}
use Rattle.failures.proofs.Rows.{is_ability}
use Rattle.failures.proofs.ability_at.Goals as goal

pub returns : goal.returns
returns c = (is_ability _ c.requires, refl)
