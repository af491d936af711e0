-- Lists of node numbers by their entries: what `all_of` gives. Assumes nothing.
use mathlib.Core.Path.{◌≡◌, refl, ap, ◌∙◌}
use mathlib.Core.Bool.{Bool, true, false, ◌&&◌}
use mathlib.Core.List.{List, [], ◌∷◌}
use Prim.Native.Nat.{ℕ, zero, suc, ◌<◌}
use native.Mathlib.Nat.{not-suc-le-zero}
use native.Mathlib.Omega.{arith}
use lib.ListN.{length, get_or}
use Rattle.definition.specs.Store.{all_of}

all_cons : (f : ℕ → Bool) (t : ℕ) (ts : List ℕ) (b : Bool) → f t ≡ b → all_of f (t ∷ ts) ≡ (b && all_of f ts)
unfolding all_of
all_cons f t ts true e = rw (e, all_of) refl
all_cons f t ts false e = rw (e, all_of) refl

and_false : (b : Bool) → (b && false) ≡ false
and_false true = refl
and_false false = refl

pub all_all : (f : ℕ → Bool) (l : List ℕ) → ((i : ℕ) → i < length l → f (get_or l i 0) ≡ true) → all_of f l ≡ true
unfolding all_of
all_all f [] h = refl
all_all f (t ∷ ts) h = all_cons f t ts true (h zero (omega arith)) ∙ all_all f ts (λ i p. h (suc i) (omega arith))

pub all_one : (f : ℕ → Bool) (l : List ℕ) (i : ℕ) → i < length l → f (get_or l i 0) ≡ false → all_of f l ≡ false
unfolding all_of
all_one f [] i h e = absurd (not-suc-le-zero h)
all_one f (t ∷ ts) zero h e = all_cons f t ts false e
all_one f (t ∷ ts) (suc i) h e =
    all_cons f t ts (f t) refl ∙ ap (λ (b : Bool). f t && b) (all_one f ts i (omega arith) e) ∙ and_false (f t)
