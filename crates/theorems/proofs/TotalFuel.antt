-- The walks down a type end by themselves: any number of levels above the node's number gives the same. Assumes nothing.
use mathlib.Core.Path.{◌≡◌, refl, ap}
use mathlib.Core.Bool.{Bool, true, false, ◌||◌}
use mathlib.Core.List.{List, [], ◌∷◌, ◌++◌}
use Prim.Native.Nat.{ℕ, zero, suc, ◌<◌}
use native.Mathlib.Omega.{arith}
use Rattle.definition.specs.Types.{TypeName, State}
use Rattle.definition.specs.Store.{count, type_at, loc_of, spanned, any_of}
use Rattle.definition.specs.Subst.{parts}
use Rattle.definition.specs.Join.{is_var, used}
use Rattle.definition.specs.Write.{Bytes, head, each, write_down, write_spanned, write}
use Rattle.definition.specs.Sound.{sound}
use Rattle.theorems.proofs.DemandTracks.{never}
use Rattle.theorems.proofs.DemandOrder.{All, Sound}
use Rattle.theorems.proofs.SoundFacts.{facts}

pub each_same : (f g : ℕ → Bytes) (P : ℕ → Type 0) → ((p : ℕ) → P p → f p ≡ g p) → (ps : List ℕ) → All P ps → each f ps ≡ each g ps
unfolding each
each_same f g P h [] a = refl
each_same f g P h (p ∷ ps) a = rw (h p a.0, each_same f g P h ps a.1) refl

pub any_same : (f g : ℕ → Bool) (P : ℕ → Type 0) → ((p : ℕ) → P p → f p ≡ g p) → (ps : List ℕ) → All P ps → any_of f ps ≡ any_of g ps
unfolding any_of
any_same f g P h [] a = refl
any_same f g P h (p ∷ ps) a = step (f p) (g p) (h p a.0) (any_same f g P h ps a.1)
  where
    step : (b c : Bool) → b ≡ c → any_of f ps ≡ any_of g ps → ◌≡◌ {A = Bool} (elim b [ true ↦ true | false ↦ any_of f ps ]) (elim c [ true ↦ true | false ↦ any_of g ps ])
    step true true e r = refl
    step false false e r = r
    step true false e r = never (cc)
    step false true e r = never (cc)

module _ {ar : TypeName → ℕ} {S : State} (s : Sound ar S) where
  pub write_levels : (n m t : ℕ) → t < count S → t < n → t < m → write_down n S (spanned S t) ≡ write_down m S (spanned S t)
  unfolding write_down spanned
  write_levels zero m t h i j = absurd (omega arith)
  write_levels (suc n) zero t h i j = absurd (omega arith)
  write_levels (suc n) (suc m) t h i j =
      ap (λ (b : Bytes). head (loc_of S t) (type_at S t) ++ b)
      (each_same (λ p. write_down n S (spanned S p)) (λ p. write_down m S (spanned S p)) (λ p. p < t) (λ p l. write_levels n m p (omega arith) (omega arith) (omega arith)) (parts (type_at S t)) (s.parts_below t h))

  pub write_at : (t : ℕ) → t < count S → write S t ≡ head (loc_of S t) (type_at S t) ++ each (λ p. write S p) (parts (type_at S t))
  unfolding write write_spanned write_down spanned
  write_at t i =
      ap (λ (b : Bytes). head (loc_of S t) (type_at S t) ++ b)
      (each_same (λ p. write_down (count S) S (spanned S p)) (λ p. write_down (suc (count S)) S (spanned S p)) (λ p. p < t) (λ p l. write_levels (count S) (suc (count S)) p (omega arith) (omega arith) (omega arith)) (parts (type_at S t)) (s.parts_below t i))

  pub used_levels : (n m v t : ℕ) → t < count S → t < n → t < m → used n S v t ≡ used m S v t
  unfolding used
  used_levels zero m v t h i j = absurd (omega arith)
  used_levels (suc n) zero v t h i j = absurd (omega arith)
  used_levels (suc n) (suc m) v t h i j =
      ap (λ (b : Bool). is_var v (type_at S t) || b)
      (any_same (λ p. used n S v p) (λ p. used m S v p) (λ p. p < t) (λ p l. used_levels n m v p (omega arith) (omega arith) (omega arith)) (parts (type_at S t)) (s.parts_below t h))

-- the bytes of a type: tag, location and fields, then those of its parts
pub write_is : (S : State) → sound S ≡ true → (t : ℕ) → t < count S → write S t ≡ head (loc_of S t) (type_at S t) ++ each (λ p. write S p) (parts (type_at S t))
write_is S h t i = write_at (facts S h) t i

-- a variable is used in a type if it is the type, or is used in a part
pub used_is : (S : State) → sound S ≡ true → (v t : ℕ) → t < count S → used (suc t) S v t ≡ is_var v (type_at S t) || any_of (λ p. used (suc p) S v p) (parts (type_at S t))
unfolding used
used_is S h v t i =
    let s = facts S h in
    ap (λ (b : Bool). is_var v (type_at S t) || b)
    (any_same (λ p. used t S v p) (λ p. used (suc p) S v p) (λ p. p < t) (λ p l. used_levels s t (suc p) v p (omega arith) l (omega arith)) (parts (type_at S t)) (s.parts_below t i))
