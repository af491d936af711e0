-- `instantiate::ability_at` meets its contract. Assumes nothing.
use Rattle.instantiate.specs.Known.{ability_at}
use mathlib.Core.Path.{refl}
use mathlib.Core.Logic.{inl, inr}
use Rattle.instantiate.proofs.ability_at.Goals as goal

pub returns-in-Multiple : goal.returns-in-Multiple
unfolding ability_at
returns-in-Multiple c = elim c.in-Multiple.is [ inl e ↦ rw e.1 (λ h. refl) | inr e ↦ rw e.1 (λ h. refl) ]

pub returns-in-ModuleType : goal.returns-in-ModuleType
unfolding ability_at
returns-in-ModuleType c = rw c.in-ModuleType.is (λ h. c.struct_ability.ensures h)
