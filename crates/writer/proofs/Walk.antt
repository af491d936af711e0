-- A type's bytes part by part, in a state whose parts fall. Assumes nothing.
-- The bytes of a type are its head and then those of its parts, as a list; by the structure of the parts, which fall.
use mathlib.Core.Path.{◌≡◌, refl, sym, ap, ◌∙◌}
use mathlib.Core.List.{List, [], ◌∷◌, ◌++◌, append_assoc, append-nil}
use Prim.Native.Nat.{ℕ, zero, suc, ◌+◌, ◌≤◌, ◌<◌}
use native.Mathlib.Nat.{not-suc-le-zero}
use native.Mathlib.Numerals.{add-one}
use native.Mathlib.Omega.{arith}
use lib.ListN.{length, get_or, take, drop, length-append, take-append-drop}
use lib.Seq.{take-suc, take_all}
use Rattle.definition.specs.Types.{State}
use Rattle.definition.specs.Store.{count, type_at, loc_of, spanned}
use Rattle.definition.specs.Subst.{parts}
use Rattle.definition.specs.Write.{Bytes, head, each, write_down, write_spanned, write}
use Rattle.table.specs.State.{Inside}
use Rattle.shapes.proofs.Nodes.{parts_low}

-- ---- the bytes of parts

each_append : (f : ℕ → Bytes) (a b : List ℕ) → each f (a ++ b) ≡ each f a ++ each f b
unfolding each
each_append f [] b = refl
each_append f (t ∷ ts) b = rw (each_append f ts b) (sym (append_assoc (f t) (each f ts) (each f b)))

pub each_same : (f g : ℕ → Bytes) (ts : List ℕ) → ((i : ℕ) → i < length ts → f (get_or ts i 0) ≡ g (get_or ts i 0)) → each f ts ≡ each g ts
unfolding each
each_same f g [] h = refl
each_same f g (t ∷ ts) h = rw (h 0 (omega arith), each_same f g ts (λ i l. h (suc i) (omega arith))) refl

each_one : (f : ℕ → Bytes) (t : ℕ) → each f (t ∷ []) ≡ f t
unfolding each
each_one f t = append-nil (f t)

-- one part more
pub each_more : (f : ℕ → Bytes) (ts : List ℕ) (i : ℕ) → i < length ts → each f (take (i + 1) ts) ≡ each f (take i ts) ++ f (get_or ts i 0)
each_more f ts i h =
    let one : each f (get_or ts i 0 ∷ []) ≡ f (get_or ts i 0) = each_one f (get_or ts i 0) in
    rw (add-one i, take-suc ts i 0 h, each_append f (take i ts) (get_or ts i 0 ∷ []), one) refl

pub each_in : (f : ℕ → Bytes) (ts : List ℕ) (i : ℕ) → length (each f (take i ts)) ≤ length (each f ts)
each_in f ts i =
    let e : each f ts ≡ each f (take i ts) ++ each f (drop i ts) = ap (each f) (sym (take-append-drop i ts)) ∙ each_append f (take i ts) (drop i ts) in
    rw (e, length-append (each f (take i ts)) (each f (drop i ts))) (omega arith)

-- the bytes of a type whose parts have those that f gives
unfoldable pub whole : (ℕ → Bytes) → State → ℕ → Bytes
whole f s t = head (loc_of s t) (type_at s t) ++ each f (parts (type_at s t))

module _ (s : State) (inside : Inside s) where
  levels : (n m t : ℕ) → t < count s → t < n → t < m → write_down n s (spanned s t) ≡ write_down m s (spanned s t)
  unfolding write_down spanned
  levels zero m t h i j = absurd (not-suc-le-zero i)
  levels (suc n) zero t h i j = absurd (not-suc-le-zero j)
  levels (suc n) (suc m) t h i j =
      ap (λ (b : Bytes). head (loc_of s t) (type_at s t) ++ b)
      (each_same (λ p. write_down n s (spanned s p)) (λ p. write_down m s (spanned s p)) (parts (type_at s t))
      (λ k l. let f : get_or (parts (type_at s t)) k 0 < t = parts_low s inside t h k l in levels n m (get_or (parts (type_at s t)) k 0) (omega arith) (omega arith) (omega arith)))

  -- the bytes of a type: tag, location and fields, then those of its parts
  pub write_is : (t : ℕ) → t < count s → write s t ≡ whole (write s) s t
  unfolding write write_spanned write_down spanned whole
  write_is t h =
      ap (λ (b : Bytes). head (loc_of s t) (type_at s t) ++ b)
      (each_same (λ p. write_down (count s) s (spanned s p)) (write s) (parts (type_at s t))
      (λ k l. let f : get_or (parts (type_at s t)) k 0 < t = parts_low s inside t h k l in levels (count s) (suc (count s)) (get_or (parts (type_at s t)) k 0) (omega arith) (omega arith) (omega arith)))

-- .. up to its part i
unfoldable pub front : (ℕ → Bytes) → State → ℕ → ℕ → Bytes
front f s t i = head (loc_of s t) (type_at s t) ++ each f (take i (parts (type_at s t)))

module _ (f : ℕ → Bytes) (s : State) (t : ℕ) where
  pub front_none : front f s t 0 ≡ head (loc_of s t) (type_at s t)
  unfolding front each
  front_none = append-nil (head (loc_of s t) (type_at s t))

  pub front_more : (i : ℕ) → i < length (parts (type_at s t)) → front f s t (i + 1) ≡ front f s t i ++ f (get_or (parts (type_at s t)) i 0)
  unfolding front
  front_more i h =
      ap (λ (b : Bytes). head (loc_of s t) (type_at s t) ++ b) (each_more f (parts (type_at s t)) i h)
      ∙ sym (append_assoc (head (loc_of s t) (type_at s t)) (each f (take i (parts (type_at s t)))) (f (get_or (parts (type_at s t)) i 0)))

  -- all parts
  pub front_all : (i : ℕ) → length (parts (type_at s t)) ≤ i → front f s t i ≡ whole f s t
  unfolding front whole
  front_all i h = rw (take_all i (parts (type_at s t)) h) refl

  -- what is written up to a part is the front of the whole
  pub front_fits : (i : ℕ) → length (front f s t i) ≤ length (whole f s t)
  unfolding front whole
  front_fits i =
      let h = head (loc_of s t) (type_at s t) in
      let ps = parts (type_at s t) in
      rw (length-append h (each f (take i ps)), length-append h (each f ps)) (omega (arith, each_in f ps i))
