-- `reader::part_count` meets its contract. Assumes nothing.
use mathlib.Core.Path.{◌≡◌, refl, ◌∙◌}
use Rattle.table.specs.Rows.{places}
use Rattle.table.specs.State.{shape_of}
use Rattle.table.specs.declared.Shape.{Shape}
use Rattle.table.specs.declared.Shape.TheVariants.{Unit as UnitS, Ref, Param, Apply, Var, Anything, UnresolvedError}
use Rattle.shapes.specs.Parts.{part_count}
use Rattle.heads.specs.Fields.{many_parts}
use Rattle.reader.proofs.part_count.Goals as goal

as-stored : (h : Shape) → part_count (shape_of h) ≡ many_parts h
unfolding places
as-stored UnitS = refl
as-stored (Ref m t) = refl
as-stored (Param id a) = refl
as-stored (Apply a) = refl
as-stored (Var v) = refl
as-stored Anything = refl
as-stored UnresolvedError = refl

pub returns : goal.returns
returns c = c.wide.ensures ∙ c.part_count.ensures ∙ as-stored c.args.shape
