-- `shapes::is_integer` meets its contract. Assumes nothing.
use borrow.Enum.Refused.{opened}
use mathlib.Core.Path.{◌≡◌, refl, sym, ◌∙◌}
use mathlib.Core.Bool.{false}
use mathlib.Core.List.{[], ◌∷◌}
use Rattle.definition.specs.Types.{State}
use Rattle.definition.specs.Store.{with_args}
use Rattle.definition.specs.Constraints.{is_integer}
use Rattle.table.specs.State.{shape_of}
use Rattle.shapes.proofs.Tags.{other_shapes}
use Rattle.shapes.proofs.is_integer.Goals as goal

pub returns-in-Apply : goal.returns-in-Apply
unfolding is_integer with_args
returns-in-Apply c = λ st. sym c.if-matches.true ∙ c.is_numeric.ensures ∙ rw c.in-Apply.is refl

pub returns-in_default : goal.returns-in_default
unfolding is_integer with_args
returns-in_default c = λ st. sym c.if-matches.false ∙ c.is_numeric.ensures ∙ rw c.in-Apply.is refl

pub returns-in_default-2 : goal.returns-in_default-2
unfolding is_integer with_args
returns-in_default-2 c = other_shapes (0 ∷ 1 ∷ 2 ∷ 4 ∷ 5 ∷ 6 ∷ []) (λ s. (st : State) → false ≡ is_integer (with_args st (shape_of s))) (λ st. refl) (λ m t st. refl) (λ id a st. refl) tt (λ v st. refl) (λ st. refl) (λ st. refl) c.args.s (opened c.in_default.in_default-own.keys2)
