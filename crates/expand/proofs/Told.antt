-- type_ of a type whose reading is over: 17 where it comes to a marked list or struct, else the bytes that are told level by level. Assumes nothing.
-- By the levels in which reading ends, two calls for each, as of RD.
use mathlib.Core.Path.{◌≡◌, refl, sym, ap, ◌∙◌}
use mathlib.Core.Bool.{Bool, true, false}
use mathlib.Core.List.{List, [], ◌∷◌, ◌++◌, append-nil}
use Rattle.std.specs.Prelude.{Option, None, Some, if◌then◌else◌}
use Prim.Native.Nat.{ℕ, zero, suc, ◌*◌, ◌≤◌, ◌<◌}
use native.Mathlib.Omega.{arith}
use Rattle.definition.specs.Types.{TypeName, Multiple, Builtin, ModuleType, TypeValue, UnitType, Ref, Param, Apply, Var, Anything, UnresolvedError, Spanned, State, runs_into_itself, already_expanded, Result, ok, refused, ◌>>=◌}
use Rattle.definition.specs.Store.{count, taken, type_at, loc_of, spanned, get, all_of, any_of}
use Rattle.definition.specs.Subst.{as_var, parts, forward_tvar, unfold_var, unfold_type, goes_on_to, ends_in, reaches_itself}
use Rattle.definition.specs.Write.{Bytes, head, each}
use Rattle.definition.specs.Abilities.{infer, infer_value, infer_abilities}
use Rattle.definition.specs.Expand.{Expanded, uninferred, expand_types, under, expand_marked, expand_value, expand, expand_type}
use Rattle.theorems.specs.ReadySpelled.{led_var, led}
use Rattle.theorems.proofs.ReadyTold.{led_plain, led_at}
use Rattle.theorems.proofs.DemandTracks.{never, ends_stop, k_any, k_var, k_solid, kind, solid_nonvar}
use Rattle.theorems.proofs.DemandOrder.{All, All_map, Sound, chain, bind_solid}
use Rattle.theorems.proofs.DemandReading.{any_plain}
use Rattle.theorems.proofs.SoundFacts.{elim_l, elim_r, not_false}
use Rattle.expand.specs.Told.{expanded_bytes, keeps_mark, is_marked, marked_in, finally, own, told}
use Rattle.expand.specs.declared.Half.TheVariants.{Types, Codes}

-- 17, or bytes
abbrev pub outcome : Bool → Bytes → Bytes → Result Expanded
outcome marked type codes = if marked then refused already_expanded else ok (record { type = type; codes = codes })

abbrev or_else : Bool → Bool → Bool
or_else a b = elim a [ true ↦ true | false ↦ b ]

-- ---- one level

outcome_two : (a b : Bool) (x y x' y' : Bytes) → (outcome a x y >>= (λ (p : Expanded). outcome b x' y' >>= (λ (q : Expanded). ok (record { type = p.type ++ q.type; codes = p.codes ++ q.codes })))) ≡ outcome (or_else a b) (x ++ x') (y ++ y')
unfolding ◌>>=◌
outcome_two true b x y x' y' = refl
outcome_two false true x y x' y' = refl
outcome_two false false x y x' y' = refl

outcome_under : (h : Bytes) (b : Bool) (x y : Bytes) → under h (outcome b x y) ≡ outcome b (h ++ x) y
unfolding under ◌>>=◌
outcome_under h true x y = refl
outcome_under h false x y = refl

outcome_marked : (n : TypeName) (b : Bool) (x y : Bytes) → expand_marked n (outcome b x y) ≡ outcome (or_else (elim (keeps_mark n) [ true ↦ false | false ↦ true ]) b) x y
unfolding expand_marked keeps_mark
outcome_marked (Multiple len) b x y = refl
outcome_marked (Builtin k) b x y = refl
outcome_marked (ModuleType m) b x y = refl

outcome_one : (a : Bool) (x y : Bytes) → outcome a x y ≡ outcome (or_else a false) (x ++ []) (y ++ [])
outcome_one true x y = refl
outcome_one false x y = rw (append-nil x, append-nil y) refl

module _ (f : ℕ → Result Expanded) (b : ℕ → Bool) (x y : ℕ → Bytes) where
  abbrev Comes : ℕ → Type 0
  Comes p = f p ≡ outcome (b p) (x p) (y p)

  types_told : (ts : List ℕ) → All Comes ts → expand_types f ts ≡ outcome (any_of b ts) (each x ts) (each y ts)
  unfolding expand_types any_of each
  types_told [] a = refl
  types_told (t ∷ ts) a = rw (a.0, types_told ts a.1) (outcome_two (b t) (any_of b ts) (x t) (y t) (each x ts) (each y ts))

  -- a type that is no variable, by its parts
  plain_told : (s : State) (ty l : ℕ) (v : TypeValue) → as_var v ≡ None → All Comes (parts v)
      → expand_value f s ty l v ≡ outcome (or_else (is_marked v) (any_of b (parts v))) (own Types (infer_abilities s ty) (record { loc = l; value = v }) ++ each x (parts v)) (own Codes (infer_abilities s ty) (record { loc = l; value = v }) ++ each y (parts v))
  unfolding expand_value own finally is_marked parts as_var any_of each
  plain_told s ty l UnitType v a = rw (append-nil (head l UnitType)) refl
  plain_told s ty l UnresolvedError v a = rw (append-nil (head l UnresolvedError)) refl
  plain_told s ty l Anything v a = rw (append-nil (head l Anything)) refl
  plain_told s ty l (Param id m) v a = rw (append-nil (head l (Param id m))) refl
  plain_told s ty l (Ref m t) v a = rw a.0 (outcome_under (head l (Ref m t)) (b t) (x t) (y t) ∙ one (b t))
    where
      one : (c : Bool) → outcome c (head l (Ref m t) ++ x t) (y t) ≡ outcome (or_else false (or_else c false)) (head l (Ref m t) ++ (x t ++ [])) (y t ++ [])
      one true = refl
      one false = rw (append-nil (x t), append-nil (y t)) refl
  plain_told s ty l (Apply (Some set) n tys) v a = rw (types_told tys a, outcome_under (head l (Apply (Some set) n tys)) (any_of b tys) (each x tys) (each y tys)) (outcome_marked n (any_of b tys) (head l (Apply (Some set) n tys) ++ each x tys) (each y tys))
  plain_told s ty l (Apply None n tys) v a = rw (types_told tys a) (outcome_under (head l (Apply (Some (infer_abilities s ty)) n tys)) (any_of b tys) (each x tys) (each y tys))
  plain_told s ty l (Var w) v a = never (cc)

-- ---- where a type leads

unfold_plain : (s : State) (t : ℕ) → as_var (type_at s t) ≡ None → unfold_type s (spanned s t) ≡ spanned s t
unfolding unfold_type spanned
unfold_plain s t e = rw (e, unfold_type) refl

unfold_at : (s : State) (t v : ℕ) (o : Option ℕ) → as_var (type_at s t) ≡ Some v → get s (forward_tvar s v) ≡ o → unfold_type s (spanned s t) ≡ unfold_var s (loc_of s t) o
unfolding unfold_type spanned
unfold_at s t v o e g = rw (e, g, unfold_type) refl

-- the set of a type is that of what it unfolds to
set_same : (s : State) (t p : ℕ) → unfold_type s (spanned s t) ≡ unfold_type s (spanned s p) → infer_abilities s t ≡ infer_abilities s p
unfolding infer_abilities infer
set_same s t p e = go (count s)
  where
    go : (n : ℕ) → infer n s t ≡ infer n s p
    go zero = refl
    go (suc n) = ap (λ (y : Spanned TypeValue). infer_value (λ q. infer n s q) s y.value) e

-- ---- levels

module _ {ar : TypeName → ℕ} {S : State} (s : Sound ar S) where
  abbrev Ends : ℕ → ℕ → Type 0
  Ends n p = (p < count S) × (ends_in n S p ≡ true)

  -- so many levels are told as type_ has them, m calls deep
  abbrev Told : ℕ → ℕ → ℕ → Type 0
  Told n m p = expand m S p ≡ outcome (marked_in n S p) (told Types (infer_abilities S) n S p) (told Codes (infer_abilities S) n S p)

  all_ends : (n : ℕ) (ps : List ℕ) → all_of (λ t. ends_in n S t) ps ≡ true → All (λ p. p < count S) ps → All (Ends n) ps
  unfolding all_of
  all_ends n [] e h = tt
  all_ends n (p ∷ ps) e h = ((h.0, elim_l (ends_in n S p) (all_of (λ t. ends_in n S t) ps) e), all_ends n ps (elim_r (ends_in n S p) (all_of (λ t. ends_in n S t) ps) e) h.1)

  parts_in : (t : ℕ) → t < count S → All (λ p. p < count S) (parts (type_at S t))
  parts_in t h = All_map {P = λ p. p < t} (λ p l. omega arith) (parts (type_at S t)) (s.parts_below t h)

  -- a level, of what the type unfolds to and where it leads
  level : ℕ → ℕ → Spanned TypeValue → Spanned TypeValue → Result Expanded
  level n set u l = outcome (or_else (is_marked u.value) (any_of (λ p. marked_in n S p) (parts u.value)))
      (own Types set l ++ each (λ p. told Types (infer_abilities S) n S p) (parts l.value)) (own Codes set l ++ each (λ p. told Codes (infer_abilities S) n S p) (parts l.value))

  level_is : (n t set : ℕ) (u l : Spanned TypeValue) → infer_abilities S t ≡ set → unfold_type S (spanned S t) ≡ u → led S (spanned S t) ≡ l
      → level n set u l ≡ outcome (marked_in (suc n) S t) (told Types (infer_abilities S) (suc n) S t) (told Codes (infer_abilities S) (suc n) S t)
  unfolding level marked_in told goes_on_to
  level_is n t set u l a b c = rw (← a, ← b, ← c) refl

  module _ (m n t : ℕ) (h : t < count S) (e : all_of (λ p. ends_in n S p) (goes_on_to S t) ≡ true) where
    -- t leads to T, which is no variable
    leads_on : (k T : ℕ) → ((p : ℕ) → Ends n p → Told n k p) → T < count S → as_var (type_at S T) ≡ None → unfold_type S (spanned S t) ≡ spanned S T → led S (spanned S t) ≡ spanned S T
        → expand (suc k) S T ≡ outcome (marked_in (suc n) S t) (told Types (infer_abilities S) (suc n) S t) (told Codes (infer_abilities S) (suc n) S t)
    unfolding expand goes_on_to spanned level
    leads_on k T ih i v u l =
        let ps : All (Ends n) (parts (type_at S T)) = all_ends n (parts (type_at S T)) (rw (ap (λ (y : Spanned TypeValue). parts y.value) u) at e) (parts_in T i) in
        let z : infer_abilities S t ≡ infer_abilities S T = set_same S t T (u ∙ sym (unfold_plain S T v)) in
        (plain_told (λ p. expand k S p) (λ p. marked_in n S p) (λ p. told Types (infer_abilities S) n S p) (λ p. told Codes (infer_abilities S) n S p) S T (loc_of S T) (type_at S T) v (All_map {P = Ends n} ih (parts (type_at S T)) ps))
        ∙ level_is n t (infer_abilities S T) (spanned S T) (spanned S T) z u l

    module _ (ih : (p : ℕ) → Ends n p → Told n m p) (ih' : (p : ℕ) → Ends n p → Told n (suc m) p) where
      plain_on : as_var (type_at S t) ≡ None → Told (suc n) (suc (suc m)) t
      plain_on v = leads_on (suc m) t ih' h v (unfold_plain S t v) (led_plain S t v)

      var_on : (v : ℕ) → type_at S t ≡ Var v → v < taken S → Told (suc n) (suc (suc m)) t
      unfolding expand expand_value as_var level own finally is_marked parts any_of each unfold_var led_var
      var_on v d i = rw d (go (get S (forward_tvar S v)) refl)
        where
          go : (o : Option ℕ) → get S (forward_tvar S v) ≡ o → elim o [ None ↦ ok (record { type = head (loc_of S t) UnresolvedError; codes = uninferred (loc_of S t) }) | Some T ↦ expand (suc m) S T ]
              ≡ outcome (marked_in (suc n) S t) (told Types (infer_abilities S) (suc n) S t) (told Codes (infer_abilities S) (suc n) S t)
          go None g = ap (λ (b : Bytes). ok (record { type = b; codes = uninferred (loc_of S t) })) (sym (append-nil (head (loc_of S t) UnresolvedError)))
              ∙ ap (λ (b : Bytes). ok (record { type = head (loc_of S t) UnresolvedError ++ []; codes = b })) (sym (append-nil (uninferred (loc_of S t))))
              ∙ level_is n t (infer_abilities S t) (unfold_var S (loc_of S t) None) (led_var S (loc_of S t) (forward_tvar S v) None) refl (unfold_at S t v None (ap as_var d) g) (led_at S t v None (ap as_var d) g)
          go (Some T) g = leads_on m T ih (s.bind_in (forward_tvar S v) T g) (solid_nonvar (type_at S T) (bind_solid s (forward_tvar S v) T g (ends_stop (chain s v i)))) (unfold_at S t v (Some T) (ap as_var d) g) (led_at S t v (Some T) (ap as_var d) g)

      any_on : Told (suc n) (suc (suc m)) t
      any_on = elim (kind (type_at S t)) [ k_any d ↦ plain_on (rw d any_plain) | k_var {v} d ↦ var_on v d (s.var_in t v h d) | k_solid d v ↦ plain_on v ]

  levels_told : (n m : ℕ) → 2 * n ≤ m → (t : ℕ) → Ends n t → Told n m t
  unfolding ends_in
  levels_told zero m l t e = never (let z = e.1 in cc)
  levels_told (suc n) zero l t e = absurd (omega arith)
  levels_told (suc n) (suc zero) l t e = absurd (omega arith)
  levels_told (suc n) (suc (suc m)) l t e = any_on m n t e.0 e.1 (λ p e. levels_told n m (omega arith) p e) (λ p e. levels_told n (suc m) (omega arith) p e)

-- ---- XP

bytes_told : (m : Result Expanded) (b : Bool) (x y : Bytes) → m ≡ outcome b x y → (m >>= (λ (e : Expanded). ok (e.type ++ e.codes))) ≡ (if b then refused already_expanded else ok (x ++ y))
unfolding ◌>>=◌
bytes_told m true x y e = rw e refl
bytes_told m false x y e = rw e refl

-- a type that does not run into itself, in n levels, which are as many as there are nodes
pub type_told : {ar : TypeName → ℕ} {s : State} → Sound ar s → (t n : ℕ) → count s ≡ n → t < n → reaches_itself s t ≡ false
    → expanded_bytes s t ≡ (if marked_in n s t then refused already_expanded else ok (told Types (infer_abilities s) n s t ++ told Codes (infer_abilities s) n s t))
unfolding expanded_bytes expand_type reaches_itself
type_told {s = s} h t n c i e =
    rw (e, expand_type, ← c) (bytes_told (expand (2 * count s) s t) (marked_in (count s) s t) _ _ (levels_told h (count s) (2 * count s) (omega arith) t (rw c i, not_false (ends_in (count s) s t) e)))

-- one that does
pub bytes_itself : (s : State) (t : ℕ) → reaches_itself s t ≡ true → expanded_bytes s t ≡ refused runs_into_itself
unfolding expanded_bytes expand_type ◌>>=◌
bytes_itself s t e = rw (e, expand_type) refl
