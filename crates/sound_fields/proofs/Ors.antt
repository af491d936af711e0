-- `|` is zero just where both sides are, and over a list where all are. Assumes nothing.
use mathlib.Core.Path.{◌≡◌, refl, sym, ap, ◌∙◌}
use mathlib.Core.Bool.{Bool, ◌&&◌}
use mathlib.Core.List.{List, [], ◌∷◌}
use Prim.Native.Nat.{ℕ, zero, suc}
use native.Mathlib.Omega.{arith}
use lib.Dec.{eqb}
use lib.Bits.{bit_or, or_add_and, and_le_r}
use borrow.Author.Tests.{ne_eqb}
use Rattle.std.specs.List.{fold, list_all}
use Rattle.std.proofs.Math.Bool.{and-true, and_assoc}

or_zero : (a b : ℕ) → eqb (bit_or a b) 0 ≡ eqb a 0 && eqb b 0
or_zero zero b = refl
or_zero (suc a) b =
    ne_eqb (bit_or (suc a) b) 0 (λ e. omega (arith, e, or_add_and (suc a) b, and_le_r (suc a) b))
    ∙ sym (ap (λ (x : Bool). x && eqb b 0) (ne_eqb (suc a) 0 (λ e. omega (arith, e))))

pub or_folded : {A : Type 0} (word : A → ℕ) (xs : List A) (any : ℕ) → eqb (fold (λ a x. bit_or a (word x)) any xs) 0 ≡ eqb any 0 && list_all (λ x. eqb (word x) 0) xs
or_folded word [] any = sym (and-true (eqb any 0))
or_folded word (x ∷ xs) any =
    or_folded word xs (bit_or any (word x))
    ∙ ap (λ (b : Bool). b && list_all (λ y. eqb (word y) 0) xs) (or_zero any (word x))
    ∙ and_assoc (eqb any 0) (eqb (word x) 0) (list_all (λ y. eqb (word y) 0) xs)
