-- `shapes::fits` meets its contract. Assumes nothing.
use borrow.Enum.Refused.{opened}
use mathlib.Core.Path.{◌≡◌, refl, ap, ◌∙◌}
use mathlib.Core.Bool.{Bool, false, ◌&&◌}
use mathlib.Core.List.{[], ◌∷◌}
use Prim.Native.Nat.{ℕ}
use lib.Dec.{leb}
use Rattle.definition.specs.Types.{Builtin}
use Rattle.definition.specs.Join.{is_numeric, width, fits}
use Rattle.names.specs.Names.{name_of}
use Rattle.shapes.proofs.Tags.{other_names}
use Rattle.shapes.proofs.fits.Goals as goal

builtin_fits : (need b : ℕ) (x : Bool) → x ≡ is_numeric (Builtin b) → x && leb need (width b) ≡ fits need (Builtin b)
unfolding fits
builtin_fits need b x e = ap (λ (y : Bool). y && leb need (width b)) e

pub returns-then-is_numeric : goal.returns-then-is_numeric
returns-then-is_numeric c =
    rw c.in-Builtin.is (ap (leb c.args.need) c.width.ensures ∙ rw c.if-is_numeric.true at (builtin_fits c.args.need c.in-Builtin.b c.is_numeric.result c.is_numeric.ensures))

pub returns-else-is_numeric : goal.returns-else-is_numeric
returns-else-is_numeric c = rw c.in-Builtin.is (c.if-is_numeric.false ∙ rw c.if-is_numeric.false at (builtin_fits c.args.need c.in-Builtin.b c.is_numeric.result c.is_numeric.ensures))

pub returns-in_default : goal.returns-in_default
unfolding fits is_numeric
returns-in_default c = other_names (0 ∷ 2 ∷ []) (λ n. false ≡ fits c.args.need (name_of n)) (λ n. refl) tt (λ m. refl) c.args.n (opened c.in_default.in_default-own.keys2)
