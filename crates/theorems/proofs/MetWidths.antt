-- R-7: SV's choice is the first of u64, u128 and u256 that has the bits; with no need the rules are those of R-2; and the need of a merge is the larger of its ends'. Assumes nothing.
use mathlib.Core.Path.{◌≡◌, refl, ap, ◌∙◌, subst}
use mathlib.Core.Bool.{Bool, true, false, ◌&&◌}
use mathlib.Core.Logic.{◌⊎◌, inl, inr, ◌↔◌}
use mathlib.Core.List.Memᴰ
use mathlib.Core.List.{List, [], ◌∷◌, Memᴰ}
use Rattle.std.specs.Prelude.{Some, if◌then◌else◌}
use Prim.Native.Nat.{ℕ, ◌≤◌, ◌<◌}
use native.Mathlib.Omega.{arith}
use lib.Dec.{T, leb, eqb, eqb_refl, leb→le, le→leb}
use Rattle.definition.specs.Types.{TypeName, Multiple, Builtin, ModuleType, TypeValue, UnitType, Ref, Param, Apply, Var, Anything, UnresolvedError, State}
use Rattle.definition.specs.Store.{any_of, taken, type_at, need_of}
use Rattle.definition.specs.Subst.{forward_tvar}
use Rattle.definition.specs.Join.{TypingCase, integers, is_numeric, width, fits, num_shape, larger, join_tvar, join_impl}
use Rattle.definition.specs.Abilities.{primitives}
use Rattle.definition.specs.Constraints.{default_builtin, default_integer}
use Rattle.theorems.proofs.DemandOrder.{Sound}
use Rattle.theorems.proofs.LawsPost.{Post, post_map}
use Rattle.theorems.proofs.DemandCalls.{join_tvar_post}
use Rattle.theorems.proofs.DemandMain.{join_impl_good}
use Rattle.theorems.proofs.SoundFacts.{test}
use Rattle.theorems.proofs.Soundness.{untest, le_test}
use Rattle.theorems.proofs.DemandTracks.{never}
use Rattle.theorems.proofs.MetSteps.{numeric_member, fits_parts}
use Rattle.theorems.proofs.TotalNoFail.{fits_from}

-- b is the first of the list that has P
pub data First (P : ℕ → Type 0) : ℕ → List ℕ → Type 0 where
  first_here : {b : ℕ} {bs : List ℕ} → P b → First P b (b ∷ bs)
  first_later : {b c : ℕ} {bs : List ℕ} → ¬ P c → First P b bs → First P b (c ∷ bs)

-- u64, u128, u256
pub default_fits : (need : ℕ) → need ≤ 256 → First (λ b. need ≤ width b) (default_builtin need) (3 ∷ 4 ∷ 9 ∷ [])
unfolding default_builtin width
default_fits need h = go (leb need 64) refl (leb need 128) refl
  where
    over : (n : ℕ) → leb need n ≡ false → need ≤ n → ⊥
    over n e l = subst (λ (c : Bool). T c) e (le→leb need n l)

    go : (a : Bool) → leb need 64 ≡ a → (b : Bool) → leb need 128 ≡ b → First (λ b. need ≤ width b) (if a then 3 else if b then 4 else 9) (3 ∷ 4 ∷ 9 ∷ [])
    go true e b d = first_here (leb→le need 64 (test e))
    go false e true d = first_later (over 64 e) (first_here (leb→le need 128 (test d)))
    go false e false d = first_later (over 64 e) (first_later (over 128 d) (first_here h))

-- what the numeric check asks of a builtin: it is one of `integers`, and its width meets the need
any_of_member : (b : ℕ) (l : List ℕ) → Memᴰ b l → any_of (λ i. eqb b i) l ≡ true
unfolding any_of
any_of_member b [] m = absurd (Memᴰ.not-nil m)
any_of_member b (x ∷ l) m = go (eqb b x) refl (Memᴰ.cases_cons m) (λ n. any_of_member b l n)
  where
    go : (c : Bool) → eqb b x ≡ c → (b ≡ x) ⊎ Memᴰ b l → (Memᴰ b l → any_of (λ i. eqb b i) l ≡ true) → (elim c [ true ↦ true | false ↦ any_of (λ i. eqb b i) l ]) ≡ true
    go true e n f = refl
    go false e (inl d) f = never (let z : eqb b x ≡ true = rw d (untest (eqb_refl x)) in cc)
    go false e (inr n) f = f n

pub fits_exactly : (need b : ℕ) → (fits need (Builtin b) ≡ true) ↔ (Memᴰ b integers × (need ≤ width b))
unfolding is_numeric
fits_exactly need b = (λ h. let p = fits_parts need b h in (numeric_member b p.0, p.1), λ h. fits_from need b (any_of_member b integers h.0) h.1)

-- ---- with no need

zero_fits : (n : TypeName) → fits 0 n ≡ is_numeric n
unfolding fits is_numeric
zero_fits (Builtin b) = ap (λ (x : Bool). is_numeric (Builtin b) && x) (le_test 0 (width b) (omega arith)) ∙ and_true (is_numeric (Builtin b))
  where
    and_true : (x : Bool) → x && true ≡ x
    and_true true = refl
    and_true false = refl
zero_fits (Multiple len) = refl
zero_fits (ModuleType m) = refl

-- the check is R-2's, by name alone
pub no_need_checks : (t : TypeValue) → num_shape 0 t ≡ elim t [ Apply k n tys ↦ is_numeric n | Anything ↦ true | UnresolvedError ↦ true | UnitType ↦ false | Ref m p ↦ false | Param id a ↦ false | Var v ↦ false ]
unfolding num_shape
no_need_checks UnitType = refl
no_need_checks (Ref m t) = refl
no_need_checks (Param id a) = refl
no_need_checks (Apply k n tys) = zero_fits n
no_need_checks (Var v) = refl
no_need_checks Anything = refl
no_need_checks UnresolvedError = refl

-- SV takes u64
pub no_need_default : default_integer 0 ≡ Apply (Some 7) (Builtin 3) []
unfolding default_integer default_builtin primitives
no_need_default = refl

-- ---- the need of a merge

-- the result of a merge that succeeds is the fresh variable, and its need is the larger of the ends'
pub record MergeNeed (S : State) (id1 id2 : ℕ) (S' : State) (t : ℕ) : Type 0 where
  pub variable : ℕ
  pub is : type_at S' t ≡ Var variable
  pub fresh : taken S ≤ variable
  pub need : need_of S' variable ≡ larger (need_of S (forward_tvar S id1)) (need_of S (forward_tvar S id2))

pub need_of_a_merge : {ar : TypeName → ℕ} {S : State} (depth : ℕ) → Sound ar S → (c : TypingCase) (loc1 id1 loc2 id2 : ℕ) → id1 < taken S → id2 < taken S
    → Post ar S (MergeNeed S id1 id2) (join_tvar (λ s c l r. join_impl depth s c l r) S c loc1 id1 loc2 id2)
need_of_a_merge depth s c loc1 id1 loc2 id2 i j = post_map (λ S' t g m. record { variable = m.f; is = m.is; fresh = m.new; need = m.need })
    (join_tvar_post (λ s c l r. join_impl depth s c l r) (λ S c l r s i j. join_impl_good depth S c l r s i j) s c loc1 id1 loc2 id2 i j)
