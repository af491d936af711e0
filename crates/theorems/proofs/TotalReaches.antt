-- The test for no. 9: a type is turned down just where reading it runs into a loop (TotalReading.antt: into a variable that reaches itself). Assumes nothing.
-- First where reading goes on from a node; then a walk with a mark for each node above (`Way`, a node that is met below itself); then the other way.
use mathlib.Core.Path.{◌≡◌, refl, sym, ap, ◌∙◌, subst}
use mathlib.Core.Logic.{◌⊎◌, inl, inr, ◌↔◌}
use mathlib.Core.Bool.{Bool, true, false, not}
use mathlib.Core.List.{List, [], ◌∷◌, Memᴰ}
use Rattle.std.specs.Prelude.{Option, None, Some}
use Prim.Native.Nat.{ℕ, zero, suc, ◌≤◌, ◌<◌}
use native.Mathlib.Decide.{ℕ_discrete}
use native.Mathlib.Omega.{arith}
use lib.ListN.{length, get_or, set, length-set, replicate, length-replicate, get_or-replicate}
use lib.Seq.{get_or-set_other}
use Rattle.definition.specs.Types.{TypeName, TypeValue, UnitType, Ref, Param, Apply, Var, Anything, UnresolvedError, State}
use Rattle.definition.specs.Store.{count, taken, type_at, loc_of, spanned, get, all_of}
use Rattle.definition.specs.Subst.{as_var, parts, next_of, forward_tvar, unfold_var, unfold_type, goes_on_to, ends_in, reaches_itself}
use Rattle.theorems.proofs.DemandDepth.{follow, EndsWithin}
use Rattle.theorems.proofs.DemandLoops.{MeetsEnd, met, met_in, Loop}
use Rattle.theorems.proofs.Laws.{get_beyond}
use Rattle.theorems.proofs.LawsChains.{next_some}
use Rattle.theorems.proofs.DemandTracks.{never, Kind, k_any, k_var, k_solid, kind}
use Rattle.theorems.proofs.DemandOrder.{All, Sound}
use Rattle.theorems.proofs.SoundFacts.{elim_l, elim_r}
use Rattle.theorems.proofs.DemandReading.{any_plain, follow_plain, follow_bound, follow_open}
use Rattle.theorems.proofs.TotalFinite.{closed, mark_one, all_at, closed_none, meets_ends, itself_never}

-- ---- where reading goes on

unfold_plain : (S : State) (t : ℕ) → as_var (type_at S t) ≡ None → goes_on_to S t ≡ parts (type_at S t)
unfolding goes_on_to unfold_type spanned
unfold_plain S t e = rw (e, unfold_type) refl

unfold_bound : (S : State) (t v : ℕ) → type_at S t ≡ Var v → goes_on_to S t ≡ parts (follow S (Var v))
unfolding goes_on_to unfold_type spanned as_var unfold_var parts
unfold_bound S t v e = rw (e, unfold_type) (go (get S (forward_tvar S v)) refl)
  where
    go : (o : Option ℕ) → get S (forward_tvar S v) ≡ o → parts (unfold_var S (loc_of S t) o).value ≡ parts (follow S (Var v))
    go None g = rw (follow_open S v g) refl
    go (Some T) g = rw (follow_bound S v T g) refl

pub goes : (S : State) (t : ℕ) → goes_on_to S t ≡ parts (follow S (type_at S t))
goes S t = go (kind (type_at S t))
  where
    plain : as_var (type_at S t) ≡ None → goes_on_to S t ≡ parts (follow S (type_at S t))
    plain e = rw (follow_plain S (type_at S t) e) (unfold_plain S t e)

    go : Kind (type_at S t) → goes_on_to S t ≡ parts (follow S (type_at S t))
    go (k_any e) = plain (rw e any_plain)
    go (k_var {v = v} e) = unfold_bound S t v e ∙ ap (λ (x : TypeValue). parts (follow S x)) (sym e)
    go (k_solid h n) = plain n

-- q is met at some level below p
data Way (S : State) : ℕ → ℕ → Type 0 where
  one : {p q : ℕ} → Memᴰ q (parts (follow S (type_at S p))) → Way S p q
  more : {p q r : ℕ} → Memᴰ r (parts (follow S (type_at S p))) → Way S r q → Way S p q

further : {S : State} {p q r : ℕ} → Way S p q → Memᴰ r (parts (follow S (type_at S q))) → Way S p r
further (one m) n = more m (one n)
further (more m w) n = more m (further w n)

meets_way : {S : State} {e p q : ℕ} → Way S p q → MeetsEnd S e (type_at S q) → MeetsEnd S e (type_at S p)
meets_way (one m) x = met_in m x
meets_way (more m w) x = met_in m (meets_way w x)

loop_above : {S : State} {L : TypeValue} (p : ℕ) → Memᴰ p (parts (follow S L)) → Loop S (type_at S p) → Loop S L
loop_above p m l = record { variable = l.variable; meets = met_in m l.meets; itself = l.itself }

module _ {ar : TypeName → ℕ} {S : State} (s : Sound ar S) where
  -- ---- a node that is met below itself

  var_met : (p v : ℕ) → type_at S p ≡ Var v → MeetsEnd S (forward_tvar S v) (type_at S p)
  var_met p v h = rw h (met refl)

  -- at a variable
  var_loop : (p v : ℕ) → type_at S p ≡ Var v → (o : Option ℕ) → get S (forward_tvar S v) ≡ o → Way S p p → Loop S (type_at S p)
  unfolding parts
  var_loop p v e None g (one m) = let n : Memᴰ p [] = rw (e, follow_open S v g) at m in absurd (mathlib.Core.List.Memᴰ.not-nil n)
  var_loop p v e None g (more {r = r} m w) = let n : Memᴰ r [] = rw (e, follow_open S v g) at m in absurd (mathlib.Core.List.Memᴰ.not-nil n)
  var_loop p v e (Some T) g (one m) = record {
    variable = forward_tvar S v;
    meets = var_met p v e;
    itself = record { binding_of = T; bound_to = g; part = p; is_part = rw (e, follow_bound S v T g) at m; again = var_met p v e };
  }
  var_loop p v e (Some T) g (more {r = r} m w) = record {
    variable = forward_tvar S v;
    meets = var_met p v e;
    itself = record { binding_of = T; bound_to = g; part = r; is_part = rw (e, follow_bound S v T g) at m; again = meets_way w (var_met p v e) };
  }

  falls : (p q : ℕ) → p < count S → as_var (type_at S p) ≡ None → Memᴰ q (parts (follow S (type_at S p))) → q < p
  falls p q h e m = all_at (λ i. i < p) (parts (type_at S p)) (s.parts_below p h) q (rw (follow_plain S (type_at S p) e) at m)

  cycle_loop : (k p : ℕ) → p < k → p < count S → Way S p p → Loop S (type_at S p)
  cycle_loop zero p l h w = absurd (omega arith)
  cycle_loop (suc k) p l h w = go (kind (type_at S p)) (λ r i v. cycle_loop k r (omega arith) (omega arith) v)
    where
      plain : as_var (type_at S p) ≡ None → ((r : ℕ) → r < p → Way S r r → Loop S (type_at S r)) → Way S p p → Loop S (type_at S p)
      plain e ih (one m) = absurd (omega (arith, falls p p h e m))
      plain e ih (more {r = r} m v) = loop_above r m (ih r (falls p r h e m) (further v m))

      go : Kind (type_at S p) → ((r : ℕ) → r < p → Way S r r → Loop S (type_at S r)) → Loop S (type_at S p)
      go (k_any e) ih = plain (rw e any_plain) ih w
      go (k_var {v = v} e) ih = var_loop p v e (get S (forward_tvar S v)) refl w
      go (k_solid e n) ih = plain n ih w

  -- ---- the walk, with a mark for each node above

  in_nodes : (p q : ℕ) → p < count S → Memᴰ q (parts (follow S (type_at S p))) → q < count S
  unfolding parts
  in_nodes p q h m = go (kind (type_at S p))
    where
      var : (v : ℕ) → type_at S p ≡ Var v → (o : Option ℕ) → get S (forward_tvar S v) ≡ o → q < count S
      var v e None g = let n : Memᴰ q [] = rw (e, follow_open S v g) at m in absurd (mathlib.Core.List.Memᴰ.not-nil n)
      var v e (Some T) g = let i = s.bind_in (forward_tvar S v) T g in omega (arith, all_at (λ i. i < T) (parts (type_at S T)) (s.parts_below T i) q (rw (e, follow_bound S v T g) at m))

      go : Kind (type_at S p) → q < count S
      go (k_any e) = omega (arith, falls p q h (rw e any_plain) m)
      go (k_var {v = v} e) = var v e (get S (forward_tvar S v)) refl
      go (k_solid e n) = omega (arith, falls p q h n m)

  all_or : (n : ℕ) (ps : List ℕ) → ((p : ℕ) → Memᴰ p ps → (ends_in n S p ≡ true) ⊎ Loop S (type_at S p)) → (all_of (λ t. ends_in n S t) ps ≡ true) ⊎ ((p : ℕ) × Memᴰ p ps × Loop S (type_at S p))
  unfolding all_of
  all_or n [] h = inl refl
  all_or n (p ∷ ps) h = go (h p (mathlib.Core.List.Memᴰ.head refl)) (all_or n ps (λ q m. h q (mathlib.Core.List.Memᴰ.tail m)))
    where
      go : (ends_in n S p ≡ true) ⊎ Loop S (type_at S p) → (all_of (λ t. ends_in n S t) ps ≡ true) ⊎ ((q : ℕ) × Memᴰ q ps × Loop S (type_at S q))
          → (all_of (λ t. ends_in n S t) (p ∷ ps) ≡ true) ⊎ ((q : ℕ) × Memᴰ q (p ∷ ps) × Loop S (type_at S q))
      go (inr l) r = inr (p, mathlib.Core.List.Memᴰ.head refl, l)
      go (inl e) (inl es) = inl (rw (e, all_of) es)
      go (inl e) (inr l) = inr (l.0, mathlib.Core.List.Memᴰ.tail l.1, l.2)

  walk : (k : ℕ) (ms : List Bool) → length ms ≡ count S → closed ms ≡ k → (p : ℕ) → p < count S → ((m : ℕ) → m < count S → get_or ms m true ≡ true → Way S m p) → (n : ℕ) → k ≤ n
      → (b : Bool) → get_or ms p true ≡ b → (ends_in n S p ≡ true) ⊎ Loop S (type_at S p)
  unfolding ends_in
  walk zero ms lm cm p h back n f true e = inr (cycle_loop (suc p) p (omega arith) h (back p h e))
  walk zero ms lm cm p h back n f false e = absurd (omega (arith, mark_one ms p e))
  walk (suc k) ms lm cm p h back zero f true e = absurd (omega arith)
  walk (suc k) ms lm cm p h back (suc n) f true e = inr (cycle_loop (suc p) p (omega arith) h (back p h e))
  walk (suc k) ms lm cm p h back zero f false e = absurd (omega arith)
  walk (suc k) ms lm cm p h back (suc n) f false e = go (all_or n (goes_on_to S p) (λ q m.
      let m' : Memᴰ q (parts (follow S (type_at S p))) = rw (goes S p) at m in
      walk k (set ms p true) (length-set ms p true ∙ lm) (omega (arith, mark_one ms p e)) q (in_nodes p q h m') (λ x i y. elim (ℕ_discrete x p) [
        | yes c ↦ subst (λ (z : ℕ). Way S z q) (sym c) (one m')
        | no c ↦ further (back x i (sym (get_or-set_other ms p x true true c) ∙ y)) m'
      ]) n (omega arith) (get_or (set ms p true) q true) refl))
    where
      go : (all_of (λ t. ends_in n S t) (goes_on_to S p) ≡ true) ⊎ ((q : ℕ) × Memᴰ q (goes_on_to S p) × Loop S (type_at S q)) → (ends_in (suc n) S p ≡ true) ⊎ Loop S (type_at S p)
      go (inl es) = inl es
      go (inr l) = inr (loop_above l.0 (rw (goes S p) at l.1) l.2)

  pub ends_or : (p : ℕ) → p < count S → (ends_in (count S) S p ≡ true) ⊎ Loop S (type_at S p)
  ends_or p h = walk (count S) (replicate (count S) false) (length-replicate (count S) false) (closed_none s (count S)) p h
      (λ m i e. never (let z = get_or-replicate (count S) m false true i in cc)) (count S) (omega arith) (get_or (replicate (count S) false) p true) refl

  -- ---- and the other way

  list_ends : (n : ℕ) → ((p : ℕ) → ends_in n S p ≡ true → EndsWithin S n (type_at S p)) → (ps : List ℕ) → all_of (λ t. ends_in n S t) ps ≡ true → All (λ p. EndsWithin S n (type_at S p)) ps
  unfolding all_of
  list_ends n h [] e = tt
  list_ends n h (p ∷ ps) e = (h p (elim_l (ends_in n S p) (all_of (λ t. ends_in n S t) ps) e), list_ends n h ps (elim_r (ends_in n S p) (all_of (λ t. ends_in n S t) ps) e))

  pub ends_within : (n p : ℕ) → ends_in n S p ≡ true → EndsWithin S n (type_at S p)
  unfolding ends_in EndsWithin
  ends_within zero p e = never (cc)
  ends_within (suc n) p e = list_ends n (λ q d. ends_within n q d) (parts (follow S (type_at S p))) (rw (goes S p) at e)

  has_part : (L : TypeValue) (p : ℕ) → Memᴰ p (parts L) → as_var L ≡ None
  unfolding parts as_var
  has_part UnitType p m = refl
  has_part (Ref b t) p m = refl
  has_part (Param id a) p m = refl
  has_part (Apply k n ts) p m = refl
  has_part (Var v) p m = absurd (mathlib.Core.List.Memᴰ.not-nil m)
  has_part Anything p m = refl
  has_part UnresolvedError p m = refl

  loop_never : (n : ℕ) (L : TypeValue) → Loop S L → EndsWithin S n L → ⊥
  loop_never n L l w =
      let e = l.variable in
      let t = l.itself in
      let stop : next_of S e ≡ None = next_some S e t.binding_of t.bound_to ∙ has_part (type_at S t.binding_of) t.part t.is_part in
      let i : e < taken S = elim (native.Mathlib.Decide.dec_lt e (taken S)) [ yes x ↦ x | no x ↦ never (let g = get_beyond S e (omega arith) in let b = t.bound_to in cc) ] in
      itself_never s n e stop i t (meets_ends s n e stop i l.meets w)

  pub reaches_is_loop : (p : ℕ) → p < count S → (reaches_itself S p ≡ true) ↔ Loop S (type_at S p)
  unfolding reaches_itself
  reaches_is_loop p h = (there (ends_in (count S) S p) refl (ends_or p h), back)
    where
      there : (b : Bool) → ends_in (count S) S p ≡ b → (ends_in (count S) S p ≡ true) ⊎ Loop S (type_at S p) → not (ends_in (count S) S p) ≡ true → Loop S (type_at S p)
      there b e (inl d) f = never (let z : false ≡ true = rw d at f in cc)
      there b e (inr l) f = l

      back : Loop S (type_at S p) → not (ends_in (count S) S p) ≡ true
      back l = go (ends_in (count S) S p) refl
        where
          go : (b : Bool) → ends_in (count S) S p ≡ b → not (ends_in (count S) S p) ≡ true
          go true e = absurd (loop_never (count S) (type_at S p) l (ends_within (count S) p e))
          go false e = rw e refl
