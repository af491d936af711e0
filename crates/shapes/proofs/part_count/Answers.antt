-- `shapes::part_count` meets its contract. Assumes nothing.
use borrow.Enum.Refused.{opened}
use mathlib.Core.Path.{◌≡◌, refl}
use mathlib.Core.List.{[], ◌∷◌}
use Rattle.table.specs.Rows.{places}
use Rattle.table.specs.State.{shape_of}
use Rattle.shapes.specs.Parts.{part_count}
use Rattle.shapes.proofs.Tags.{other_shapes}
use Rattle.shapes.proofs.part_count.Goals as goal

pub returns-in-Apply : goal.returns-in-Apply
unfolding places
returns-in-Apply c = rw c.in-Apply.is refl

pub returns-in_default : goal.returns-in_default
returns-in_default c = other_shapes (0 ∷ 2 ∷ 4 ∷ 5 ∷ 6 ∷ []) (λ s. 0 ≡ part_count (shape_of s)) refl tt (λ id a. refl) tt (λ v. refl) refl refl c.args.s (opened c.in_default.in_default-own.keys3)
