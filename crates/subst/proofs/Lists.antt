-- The first place in two lists, one after the other; what cutting sums comes to; the entries of a table of zeros. Assumes nothing.
use mathlib.Core.Path.{◌≡◌, refl, sym, ap, ◌∙◌}
use mathlib.Core.Bool.{Bool, true, false}
use mathlib.Core.List.{List, [], ◌∷◌, ◌++◌}
use Prim.Native.Nat.{ℕ, suc, ◌+◌, ◌<◌, ◌≤◌, min}
use native.Mathlib.Decide.{dec_le}
use native.Mathlib.Omega.{arith}
use lib.ListN.{get_or, replicate, length-replicate, get_or-replicate, get_or-eq_default}
use borrow.Author.Tests.{le-leb}
use Rattle.std.specs.Prelude.{if◌then◌else◌, leb}
use Rattle.std.proofs.lemmas.Bool.{false≢true, cases_Bool, leb-true}
use mathlib.Core.Logic.{inl, inr}
use Rattle.definition.specs.Store.{any_of}
use Rattle.definition.specs.Spelled.{first_place, max_looked, cut}

-- ---- places

module _ (f : ℕ → Bool) where
  pub any_here : (x : ℕ) (a : List ℕ) → f x ≡ true → any_of f (x ∷ a) ≡ true
  unfolding any_of
  any_here x a e = rw (e, any_of) refl

  pub any_later : (x : ℕ) (a : List ℕ) → f x ≡ false → any_of f (x ∷ a) ≡ any_of f a
  unfolding any_of
  any_later x a e = rw (e, any_of) refl

  pub place_here : (x : ℕ) (a : List ℕ) → f x ≡ true → first_place f (x ∷ a) ≡ 1
  unfolding first_place
  place_here x a e = rw e refl

  pub place_later : (x : ℕ) (a : List ℕ) → f x ≡ false → first_place f (x ∷ a) ≡ suc (first_place f a)
  unfolding first_place
  place_later x a e = rw e refl

  pub place_found : (a b : List ℕ) → any_of f a ≡ true → first_place f (a ++ b) ≡ first_place f a
  unfolding any_of
  place_found [] b e = absurd (false≢true e)
  place_found (x ∷ a) b e = elim (cases_Bool (f x)) [
    | inl h ↦ place_here x (a ++ b) h ∙ sym (place_here x a h)
    | inr h ↦ place_later x (a ++ b) h ∙ ap suc (place_found a b (sym (any_later x a h) ∙ e)) ∙ sym (place_later x a h)
  ]

  pub place_passed : (a b : List ℕ) → any_of f a ≡ false → first_place f (a ++ b) ≡ first_place f a + first_place f b
  unfolding any_of first_place
  place_passed [] b e = omega arith
  place_passed (x ∷ a) b e = elim (cases_Bool (f x)) [
    | inl h ↦ absurd (false≢true (sym e ∙ any_here x a h))
    | inr h ↦ let q = place_passed a b (sym (any_later x a h) ∙ e) in omega (arith, q, place_later x a h, place_later x (a ++ b) h)
  ]

-- ---- cutting

pub cut_low : (n : ℕ) → n ≤ 4096 → cut n ≡ n
unfolding cut max_looked
cut_low n h = rw (le-leb n 4096 h) refl

pub cut_high : (n : ℕ) → 4096 ≤ n → cut n ≡ 4096
unfolding cut max_looked
cut_high n h = go (leb n 4096) refl
  where
    go : (o : Bool) → leb n 4096 ≡ o → (if o then n else 4096) ≡ 4096
    go true e = let l = leb-true n 4096 e in let r : n ≡ 4096 = omega (arith, h, l) in r
    go false e = refl

pub cut_most : (n : ℕ) → cut n ≤ 4096
cut_most n = elim (dec_le n 4096) [ yes l ↦ rw (cut_low n l) l | no l ↦ rw (cut_high n (omega arith)) (omega arith) ]

pub cut_min : (n : ℕ) → min n 4096 ≡ cut n
cut_min n = elim (dec_le n 4096) [ yes l ↦ rw (cut_low n l) (omega arith) | no l ↦ rw (cut_high n (omega arith)) (omega arith) ]

-- cutting after each sum is cutting at the end
pub cut_sum : (a b : ℕ) → cut (cut a + cut b) ≡ cut (a + b)
cut_sum a b = elim (dec_le a 4096) [
  | yes l ↦ elim (dec_le b 4096) [
    | yes m ↦ rw (cut_low a l, cut_low b m) refl
    | no m ↦ rw (cut_high b (omega arith), cut_high (a + b) (omega arith)) (cut_high (cut a + 4096) (omega arith))
  ]
  | no l ↦ rw (cut_high a (omega arith), cut_high (a + b) (omega arith)) (cut_high (4096 + cut b) (omega arith))
]

-- ---- a table of zeros

pub zero_at : (n t : ℕ) → Dec (t < n) → ◌≡◌ {A = ℕ} (get_or (replicate n 0) t 0) 0
zero_at n t (yes l) = get_or-replicate n t 0 0 l
zero_at n t (no l) = get_or-eq_default (replicate n 0) 0 (rw (length-replicate {A = ℕ} n 0) (omega arith))
