-- `shapes::undecided` meets its contract. Assumes nothing.
use mathlib.Core.Path.{◌≡◌, refl}
use mathlib.Core.Bool.{false}
use mathlib.Core.Logic.{inl, inr}
use Rattle.definition.specs.Types.{State}
use Rattle.definition.specs.Store.{with_args}
use Rattle.definition.specs.Constraints.{undecided}
use Rattle.table.specs.State.{shape_of}
use Rattle.table.specs.declared.Shape.{Shape}
use Rattle.table.specs.declared.Shape.TheVariants.{Unit as UnitS, Ref, Param, Apply, Var, Anything, UnresolvedError}
use Rattle.shapes.proofs.undecided.Goals as goal

pub returns-in-Anything : goal.returns-in-Anything
unfolding undecided with_args
returns-in-Anything c = λ st. elim c.in-Anything.is [ inl e ↦ rw e refl | inr e ↦ rw e refl ]

decided : (s : Shape) → (s ≡ Anything → ⊥) → (s ≡ UnresolvedError → ⊥) → (st : State) → false ≡ undecided (with_args st (shape_of s))
unfolding undecided with_args
decided UnitS a e st = refl
decided (Ref m t) a e st = refl
decided (Param id k) a e st = refl
decided (Apply t) a e st = refl
decided (Var v) a e st = refl
decided Anything a e st = absurd (a refl)
decided UnresolvedError a e st = absurd (e refl)

pub returns-in_default : goal.returns-in_default
returns-in_default c = decided _ c.in_default.not-Anything c.in_default.not-UnresolvedError
