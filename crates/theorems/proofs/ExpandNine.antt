-- XP is 9 exactly where the type runs into itself; else it is answered or 17. Assumes nothing.
-- By the levels in which reading ends, two calls for each, as of RD (TotalNine).
use mathlib.Core.Path.{◌≡◌, refl, ap, ◌∙◌}
use mathlib.Core.Bool.{Bool, true, false}
use mathlib.Core.List.{List, [], ◌∷◌}
use Rattle.std.specs.Prelude.{Option, None, Some}
use Prim.Native.Nat.{ℕ, zero, suc, ◌*◌, ◌≤◌, ◌<◌}
use native.Mathlib.Omega.{arith}
use Rattle.definition.specs.Types.{TypeName, Multiple, Builtin, ModuleType, TypeValue, UnitType, Ref, Param, Apply, Var, Anything, UnresolvedError, State, runs_into_itself, Result, ok, err, refused, ◌>>=◌}
use Rattle.definition.specs.Store.{count, taken, type_at, loc_of, get, all_of}
use Rattle.definition.specs.Subst.{as_var, parts, forward_tvar, goes_on_to, ends_in, reaches_itself}
use Rattle.definition.specs.Write.{Bytes, head}
use Rattle.definition.specs.Abilities.{infer_abilities}
use Rattle.definition.specs.Expand.{Expanded, uninferred, expand_types, under, expand_marked, expand_value, expand, expand_type}
use Rattle.definition.specs.Rank.{RunsIntoItself}
use Rattle.theorems.proofs.DemandDepth.{follow}
use Rattle.theorems.proofs.DemandTracks.{never, ends_stop, k_any, k_var, k_solid, kind, solid_nonvar}
use Rattle.theorems.proofs.DemandOrder.{All, All_map, Sound, chain, bind_solid}
use Rattle.theorems.proofs.DemandReading.{any_plain, follow_plain, follow_bound}
use Rattle.theorems.proofs.SoundFacts.{facts, elim_l, elim_r, not_false}
use Rattle.theorems.proofs.TotalReaches.{goes}
use Rattle.theorems.proofs.TotalReading.{reaches_is_runs}
use Rattle.definition.specs.Final.{Came, came_ok, came_17, ExpandComes, ExpandNine}
use Rattle.theorems.proofs.BookAbilities.{not_itself}

under_came : (h : Bytes) {m : Result Expanded} → Came m → Came (under h m)
unfolding under ◌>>=◌
under_came h came_ok = came_ok
under_came h came_17 = came_17

then_came : {m n : Result Expanded} (make : Expanded → Expanded → Expanded) → Came m → Came n → Came (m >>= (λ (a : Expanded). n >>= (λ (b : Expanded). ok (make a b))))
unfolding ◌>>=◌
then_came make came_ok came_ok = came_ok
then_came make came_ok came_17 = came_17
then_came make came_17 q = came_17

types_came : (f : ℕ → Result Expanded) (ts : List ℕ) → All (λ p. Came (f p)) ts → Came (expand_types f ts)
unfolding expand_types
types_came f [] a = came_ok
types_came f (t ∷ ts) a = then_came _ a.0 (types_came f ts a.1)

marked_came : (n : TypeName) {m : Result Expanded} → Came m → Came (expand_marked n m)
unfolding expand_marked
marked_came (Builtin b) p = p
marked_came (Multiple len) p = came_17
marked_came (ModuleType m) p = came_17

-- a type that is no variable, by its parts
plain_came : (f : ℕ → Result Expanded) (S : State) (ty l : ℕ) (x : TypeValue) → as_var x ≡ None → All (λ p. Came (f p)) (parts x) → Came (expand_value f S ty l x)
unfolding expand_value parts as_var
plain_came f S ty l UnitType v a = came_ok
plain_came f S ty l UnresolvedError v a = came_ok
plain_came f S ty l Anything v a = came_ok
plain_came f S ty l (Param id b) v a = came_ok
plain_came f S ty l (Ref m t) v a = under_came (head l (Ref m t)) a.0
plain_came f S ty l (Apply (Some set) n tys) v a = marked_came n (under_came (head l (Apply (Some set) n tys)) (types_came f tys a))
plain_came f S ty l (Apply None n tys) v a = under_came (head l (Apply (Some (infer_abilities S ty)) n tys)) (types_came f tys a)
plain_came f S ty l (Var w) v a = never (cc)

module _ {ar : TypeName → ℕ} {S : State} (s : Sound ar S) where
  abbrev Ends : ℕ → ℕ → Type 0
  Ends n p = (p < count S) × (ends_in n S p ≡ true)

  all_ends : (n : ℕ) (ps : List ℕ) → all_of (λ t. ends_in n S t) ps ≡ true → All (λ p. p < count S) ps → All (Ends n) ps
  unfolding all_of
  all_ends n [] e h = tt
  all_ends n (p ∷ ps) e h = ((h.0, elim_l (ends_in n S p) (all_of (λ t. ends_in n S t) ps) e), all_ends n ps (elim_r (ends_in n S p) (all_of (λ t. ends_in n S t) ps) e) h.1)

  parts_in : (t : ℕ) → t < count S → All (λ p. p < count S) (parts (type_at S t))
  parts_in t h = All_map {P = λ p. p < t} (λ p l. omega arith) (parts (type_at S t)) (s.parts_below t h)

  module _ (m n t : ℕ) (h : t < count S) (e : all_of (λ p. ends_in n S p) (goes_on_to S t) ≡ true) (ih : (p : ℕ) → Ends n p → Came (expand m S p)) (ih' : (p : ℕ) → Ends n p → Came (expand (suc m) S p)) where
    plain_on : as_var (type_at S t) ≡ None → Came (expand (suc (suc m)) S t)
    unfolding expand
    plain_on v =
        let g : goes_on_to S t ≡ parts (type_at S t) = goes S t ∙ ap parts (follow_plain S (type_at S t) v) in
        plain_came (λ p. expand (suc m) S p) S t (loc_of S t) (type_at S t) v (All_map {P = Ends n} ih' (parts (type_at S t)) (all_ends n (parts (type_at S t)) (rw g at e) (parts_in t h)))

    bound_on : (v T : ℕ) → type_at S t ≡ Var v → get S (forward_tvar S v) ≡ Some T → v < taken S → Came (expand (suc m) S T)
    unfolding expand
    bound_on v T d g i =
        let T_in : T < count S = s.bind_in (forward_tvar S v) T g in
        let p : as_var (type_at S T) ≡ None = solid_nonvar (type_at S T) (bind_solid s (forward_tvar S v) T g (ends_stop (chain s v i))) in
        let w : goes_on_to S t ≡ parts (type_at S T) = goes S t ∙ ap (λ (y : TypeValue). parts (follow S y)) d ∙ ap parts (follow_bound S v T g) in
        plain_came (λ p. expand m S p) S T (loc_of S T) (type_at S T) p (All_map {P = Ends n} ih (parts (type_at S T)) (all_ends n (parts (type_at S T)) (rw w at e) (parts_in T T_in)))

    var_on : (v : ℕ) → type_at S t ≡ Var v → v < taken S → Came (expand (suc (suc m)) S t)
    unfolding expand expand_value
    var_on v d i = rw d (go (get S (forward_tvar S v)) refl)
      where
        go : (o : Option ℕ) → get S (forward_tvar S v) ≡ o → Came (elim o [ None ↦ ok (record { type = head (loc_of S t) UnresolvedError; codes = uninferred (loc_of S t) }) | Some T ↦ expand (suc m) S T ])
        go None g = came_ok
        go (Some T) g = bound_on v T d g i

    any_on : Came (expand (suc (suc m)) S t)
    any_on = elim (kind (type_at S t)) [ k_any d ↦ plain_on (rw d any_plain) | k_var {v} d ↦ var_on v d (s.var_in t v h d) | k_solid d v ↦ plain_on v ]

  came : (n m : ℕ) → 2 * n ≤ m → (t : ℕ) → Ends n t → Came (expand m S t)
  unfolding ends_in
  came zero m l t e = never (let z = e.1 in cc)
  came (suc n) zero l t e = absurd (omega arith)
  came (suc n) (suc zero) l t e = absurd (omega arith)
  came (suc n) (suc (suc m)) l t e = any_on m n t e.0 e.1 (λ p e. came n m (omega arith) p e) (λ p e. came n (suc m) (omega arith) p e)

  -- ok, 9 or 17 and nothing else
  ends_all : (t : ℕ) → reaches_itself S t ≡ false → ends_in (count S) S t ≡ true
  unfolding reaches_itself
  ends_all t e = not_false (ends_in (count S) S t) e

  pub walk_comes : (t : ℕ) → t < count S → reaches_itself S t ≡ false → Came (expand_type S t)
  unfolding expand_type
  walk_comes t h e = rw (e, expand_type) (came (count S) (2 * count S) (omega arith) t (h, ends_all t e))

not_9 : (m : Result Expanded) → Came m → m ≡ refused runs_into_itself → ⊥
not_9 (ok x) came_ok e = never (cc)
not_9 (err s x) c e = elim c [ ]
not_9 (refused x) came_17 e = never (cc)

nine_of : (S : State) (t : ℕ) → reaches_itself S t ≡ true → expand_type S t ≡ refused runs_into_itself
unfolding expand_type
nine_of S t e = rw (e, expand_type) refl

pub expand_comes : (s : State) → ExpandComes s
unfolding ExpandComes
expand_comes s h t i r = walk_comes (facts s h) t i (not_itself (facts s h) t i r)

pub expand_nine : (s : State) → ExpandNine s
unfolding ExpandNine
expand_nine s h t i = (λ e. there (reaches_itself s t) refl e, λ l. nine_of s t ((reaches_is_runs (facts s h) t i).1 l))
  where
    there : (b : Bool) → reaches_itself s t ≡ b → expand_type s t ≡ refused runs_into_itself → RunsIntoItself s (type_at s t)
    there true e q = (reaches_is_runs (facts s h) t i).0 e
    there false e q = absurd (not_9 (expand_type s t) (walk_comes (facts s h) t i e) q)
