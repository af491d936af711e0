-- `compare::same_rows` meets its contract. Assumes nothing.
use mathlib.Core.Path.{refl}
use Rattle.std.proofs.lemmas.Slice.Eq.{slice_eq-Decides}
use Rattle.std.proofs.lemmas.Bool.Decides.{Decides-eqb}
use Rattle.checklog.proofs.compare.same_rows.Goals as goal

pub returns : goal.returns
returns c = slice_eq-Decides (λ x y. slice_eq-Decides Decides-eqb x y _ refl) _ _ _ c.eq.ensures
