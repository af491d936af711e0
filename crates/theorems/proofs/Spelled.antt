-- R-10: a type's parts in spelling order are the heads of its bytes, and the number that the occurs walk gives is the place of the first match there, or the number of all. Assumes nothing.
use mathlib.Core.Path.{◌≡◌, refl, sym, ap, ◌∙◌}
use mathlib.Core.Bool.{Bool, true, false, ◌||◌}
use mathlib.Core.List.{List, [], ◌∷◌, ◌++◌, append_assoc}
use Prim.Native.Nat.{ℕ, zero, suc, ◌≤◌, ◌<◌}
use native.Mathlib.Omega.{arith}
use lib.ListN.{length, get_or}
use Rattle.std.specs.Prelude.{if◌then◌else◌}
use Rattle.definition.specs.Types.{TypeName, State}
use Rattle.definition.specs.Store.{count, type_at, loc_of, any_of}
use Rattle.definition.specs.Subst.{parts}
use Rattle.definition.specs.Join.{is_var, used}
use Rattle.definition.specs.Write.{Bytes, head, each, write}
use Rattle.definition.specs.Spelled.{spelled, first_place, cut, looked_at}
use Rattle.definition.specs.Sound.{sound}
use Rattle.theorems.proofs.DemandTracks.{never}
use Rattle.theorems.proofs.DemandOrder.{All, Sound}
use Rattle.theorems.proofs.SoundFacts.{facts}
use Rattle.theorems.proofs.TotalFuel.{each_same, write_at}
use Rattle.theorems.proofs.Erase.{erase, value_erase}

-- ---- lists of lists

each_append : (f : ℕ → Bytes) (a b : List ℕ) → each f (a ++ b) ≡ each f a ++ each f b
unfolding each
each_append f [] b = refl
each_append f (x ∷ a) b = ap (λ (m : Bytes). f x ++ m) (each_append f a b) ∙ sym (append_assoc (f x) (each f a) (each f b))

each_each : (f g : ℕ → List ℕ) (ps : List ℕ) → each f (each g ps) ≡ each (λ p. each f (g p)) ps
unfolding each
each_each f g [] = refl
each_each f g (p ∷ ps) = each_append f (g p) (each g ps) ∙ ap (λ (m : Bytes). each f (g p) ++ m) (each_each f g ps)

pub any_append : (f : ℕ → Bool) (a b : List ℕ) → any_of f (a ++ b) ≡ any_of f a || any_of f b
unfolding any_of
any_append f [] b = refl
any_append f (x ∷ a) b = go (f x) (any_append f a b)
  where
    go : (o : Bool) → any_of f (a ++ b) ≡ any_of f a || any_of f b
        → ◌≡◌ {A = Bool} (elim o [ true ↦ true | false ↦ any_of f (a ++ b) ]) ((elim o [ true ↦ true | false ↦ any_of f a ]) || any_of f b)
    go true r = refl
    go false r = r

-- a test of parts, each a test of a list
any_each : (f g : ℕ → Bool) (l : ℕ → List ℕ) → ((p : ℕ) → g p ≡ any_of f (l p)) → (ps : List ℕ) → any_of g ps ≡ any_of f (each l ps)
unfolding any_of each
any_each f g l h [] = refl
any_each f g l h (p ∷ ps) = go (g p) (h p) (any_each f g l h ps) ∙ sym (any_append f (l p) (each l ps))
  where
    go : (o : Bool) → o ≡ any_of f (l p) → any_of g ps ≡ any_of f (each l ps) → ◌≡◌ {A = Bool} (elim o [ true ↦ true | false ↦ any_of g ps ]) (any_of f (l p) || any_of f (each l ps))
    go true e r = rw (sym e) refl
    go false e r = rw (sym e) r

-- ---- the spelling

-- tag, location and fields of a node
abbrev pub its_head : State → ℕ → Bytes
its_head S p = head (loc_of S p) (type_at S p)

-- more levels give the same, where each part stands below its node
pub spelled_levels : (S : State) → ((t : ℕ) → t < count S → All (λ p. p < t) (parts (type_at S t))) → (n m t : ℕ) → t < count S → t < n → t < m → spelled n S t ≡ spelled m S t
unfolding spelled
spelled_levels S below zero m t h i j = absurd (omega arith)
spelled_levels S below (suc n) zero t h i j = absurd (omega arith)
spelled_levels S below (suc n) (suc m) t h i j =
    ap (λ (l : List ℕ). t ∷ l) (each_same (λ p. spelled n S p) (λ p. spelled m S p) (λ p. p < t) (λ p l. spelled_levels S below n m p (omega arith) (omega arith) (omega arith)) (parts (type_at S t)) (below t h))

module _ {ar : TypeName → ℕ} {S : State} (s : Sound ar S) where
  heads : (n t : ℕ) → t < count S → t < n → each (its_head S) (spelled n S t) ≡ write S t
  unfolding spelled each
  heads zero t h i = absurd (omega arith)
  heads (suc n) t h i =
      ap (λ (m : Bytes). its_head S t ++ m)
      (each_each (its_head S) (λ p. spelled n S p) (parts (type_at S t))
      ∙ each_same (λ p. each (its_head S) (spelled n S p)) (λ p. write S p) (λ p. p < t) (λ p l. heads n p (omega arith) (omega arith)) (parts (type_at S t)) (s.parts_below t h))
      ∙ sym (write_at s t h)

-- the bytes of a type are the heads of its parts in spelling order: place k is tag k
pub write_spelled : (S : State) → sound S ≡ true → (t : ℕ) → t < count S → each (its_head S) (spelled (suc t) S t) ≡ write S t
write_spelled S h t i = heads (facts S h) (suc t) t i (omega arith)

-- more levels give the same
pub spelled_enough : (S : State) → sound S ≡ true → (t : ℕ) → t < count S → (n : ℕ) → t < n → spelled n S t ≡ spelled (suc t) S t
spelled_enough S h t i n j = spelled_levels S (facts S h).parts_below n (suc t) t i j (omega arith)

-- ---- the occurs walk looks for a node of the spelling

abbrev pub is_it : State → ℕ → ℕ → Bool
is_it S v p = is_var v (type_at S p)

pub used_spelled : (n : ℕ) (S : State) (v t : ℕ) → used n S v t ≡ any_of (is_it S v) (spelled n S t)
unfolding used spelled any_of
used_spelled zero S v t = refl
used_spelled (suc n) S v t =
    go (is_it S v t) (any_each (is_it S v) (λ p. used n S v p) (λ p. spelled n S p) (λ p. used_spelled n S v p) (parts (type_at S t)))
  where
    go : (o : Bool) → any_of (λ p. used n S v p) (parts (type_at S t)) ≡ any_of (is_it S v) (each (λ p. spelled n S p) (parts (type_at S t)))
        → ◌≡◌ {A = Bool} (o || any_of (λ p. used n S v p) (parts (type_at S t))) (elim o [ true ↦ true | false ↦ any_of (is_it S v) (each (λ p. spelled n S p) (parts (type_at S t))) ])
    go true e = refl
    go false e = e

-- ---- places

-- the first element with f stands at place k, the first being 1: it has f, and none before it has
pub record First (f : ℕ → Bool) (l : List ℕ) (k : ℕ) : Type 0 where
  pub from : 1 ≤ k
  pub to : k ≤ length l
  pub has : (i : ℕ) → suc i ≡ k → f (get_or l i 0) ≡ true
  pub before : (i : ℕ) → suc i < k → f (get_or l i 0) ≡ false

first_is : (f : ℕ → Bool) (l : List ℕ) → any_of f l ≡ true → First f l (first_place f l)
unfolding any_of first_place
first_is f [] e = never (cc)
first_is f (x ∷ l) e = go (f x) refl e (first_is f l)
  where
    go : (o : Bool) → f x ≡ o → (elim o [ true ↦ true | false ↦ any_of f l ]) ≡ true → (any_of f l ≡ true → First f l (first_place f l)) → First f (x ∷ l) (if o then 1 else suc (first_place f l))
    go true d e r = record { from = omega arith; to = omega arith; has = here; before = λ i h. absurd (omega (arith, h)) }
      where
        here : (i : ℕ) → suc i ≡ 1 → f (get_or (x ∷ l) i 0) ≡ true
        here zero h = d
        here (suc i) h = absurd (omega (arith, h))
    go false d e r = let p : First f l (first_place f l) = r e in record { from = omega arith; to = omega (arith, p.to); has = later p; before = none p }
      where
        later : First f l (first_place f l) → (i : ℕ) → suc i ≡ suc (first_place f l) → f (get_or (x ∷ l) i 0) ≡ true
        later p zero h = absurd (omega (arith, h, p.from))
        later p (suc i) h = p.has i (omega (arith, h))

        none : First f l (first_place f l) → (i : ℕ) → suc i < suc (first_place f l) → f (get_or (x ∷ l) i 0) ≡ false
        none p zero h = d
        none p (suc i) h = p.before i (omega (arith, h))

all_are : (f : ℕ → Bool) (l : List ℕ) → any_of f l ≡ false → first_place f l ≡ length l
unfolding any_of first_place
all_are f [] e = refl
all_are f (x ∷ l) e = go (f x) e (all_are f l)
  where
    go : (o : Bool) → (elim o [ true ↦ true | false ↦ any_of f l ]) ≡ false → (any_of f l ≡ false → first_place f l ≡ length l) → (if o then 1 else suc (first_place f l)) ≡ suc (length l)
    go true e r = never (cc)
    go false e r = ap (λ (n : ℕ). suc n) (r e)

-- ---- the claims of R-10

-- where the variable is met: the place of the first one in the spelling, counted up to 4,096
pub place_of_the_match : (S : State) (v t : ℕ) → used (suc t) S v t ≡ true
    → (k : ℕ) × First (is_it S v) (spelled (suc t) S t) k × (looked_at S v t ≡ cut k)
unfolding looked_at
place_of_the_match S v t e = (first_place (is_it S v) (spelled (suc t) S t), first_is (is_it S v) (spelled (suc t) S t) (sym (used_spelled (suc t) S v t) ∙ e), refl)

-- where it is not: the number of all parts, counted up to 4,096
pub number_of_all_parts : (S : State) (v t : ℕ) → used (suc t) S v t ≡ false → looked_at S v t ≡ cut (length (spelled (suc t) S t))
unfolding looked_at
number_of_all_parts S v t e = ap (λ (n : ℕ). cut n) (all_are (is_it S v) (spelled (suc t) S t) (sym (used_spelled (suc t) S v t) ∙ e))

-- ---- R-4: locations do not count

each_alike : (f g : ℕ → List ℕ) → ((p : ℕ) → f p ≡ g p) → (ps : List ℕ) → each f ps ≡ each g ps
unfolding each
each_alike f g h [] = refl
each_alike f g h (p ∷ ps) = rw (h p, each_alike f g h ps) refl

spelled_erase : (s : State) (n t : ℕ) → spelled n (erase s) t ≡ spelled n s t
unfolding spelled
spelled_erase s zero t = refl
spelled_erase s (suc n) t = rw (value_erase s t) (ap (λ (l : List ℕ). t ∷ l) (each_alike (λ p. spelled n (erase s) p) (λ p. spelled n s p) (λ p. spelled_erase s n p) (parts (type_at s t))))

place_alike : (f g : ℕ → Bool) → ((p : ℕ) → f p ≡ g p) → (l : List ℕ) → first_place f l ≡ first_place g l
unfolding first_place
place_alike f g h [] = refl
place_alike f g h (x ∷ l) = rw (h x, place_alike f g h l) refl

pub looked_erase : (s : State) (v t : ℕ) → looked_at (erase s) v t ≡ looked_at s v t
unfolding looked_at
looked_erase s v t = rw (spelled_erase s (suc t) t) (ap (λ (n : ℕ). cut n) (place_alike (is_it (erase s) v) (is_it s v) (λ p. ap (λ x. is_var v x) (value_erase s p)) (spelled (suc t) s t)))
