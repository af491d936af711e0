-- `shapes::is_anything` meets its contract. Assumes nothing.
use borrow.Enum.Refused.{opened}
use mathlib.Core.Path.{◌≡◌, refl}
use mathlib.Core.Bool.{false}
use mathlib.Core.List.{[], ◌∷◌}
use Rattle.definition.specs.Types.{State}
use Rattle.definition.specs.Store.{with_args}
use Rattle.definition.specs.Subst.{is_anything}
use Rattle.table.specs.State.{shape_of}
use Rattle.shapes.proofs.Tags.{other_shapes}
use Rattle.shapes.proofs.is_anything.Goals as goal

pub returns-in-Anything : goal.returns-in-Anything
unfolding is_anything with_args
returns-in-Anything c = λ st. rw c.in-Anything.is refl

pub returns-in_default : goal.returns-in_default
unfolding is_anything with_args
returns-in_default c = other_shapes (0 ∷ 1 ∷ 2 ∷ 3 ∷ 4 ∷ 6 ∷ []) (λ s. (st : State) → false ≡ is_anything (with_args st (shape_of s)))
    (λ st. refl) (λ m t st. refl) (λ id a st. refl) (λ a st. refl) (λ v st. refl) tt (λ st. refl) c.args.s (opened c.in_default.in_default-own.keys2)
