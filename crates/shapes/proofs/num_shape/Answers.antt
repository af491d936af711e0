-- `shapes::num_shape` meets its contract. Assumes nothing.
use borrow.Enum.Refused.{opened}
use mathlib.Core.Path.{◌≡◌, refl, ◌∙◌}
use mathlib.Core.List.{[], ◌∷◌}
use Rattle.definition.specs.Types.{State}
use Rattle.definition.specs.Store.{with_args}
use Rattle.definition.specs.Join.{num_shape}
use Rattle.definition.specs.Constraints.{undecided}
use Rattle.table.specs.State.{shape_of}
use Rattle.shapes.proofs.Tags.{other_shapes}
use Rattle.shapes.proofs.num_shape.Goals as goal

pub returns-in-Apply : goal.returns-in-Apply
unfolding num_shape with_args
returns-in-Apply c = λ st. c.fits.ensures ∙ rw c.in-Apply.is refl

pub returns-in_default : goal.returns-in_default
unfolding num_shape undecided with_args
returns-in_default c = λ st. c.undecided.ensures st ∙
    other_shapes (0 ∷ 1 ∷ 2 ∷ 4 ∷ 5 ∷ 6 ∷ []) (λ s. (st : State) → undecided (with_args st (shape_of s)) ≡ num_shape c.args.need (with_args st (shape_of s))) (λ st. refl) (λ m t st. refl)
    (λ id a st. refl) tt (λ v st. refl) (λ st. refl) (λ st. refl) c.args.s (opened c.in_default.in_default-own.keys2) st
