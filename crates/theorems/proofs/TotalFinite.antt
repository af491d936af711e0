-- Reading ends, unless it runs into a variable that reaches itself. Assumes nothing.
-- A walk with a mark for each variable that has been met: by how many are not yet met, reading ends or meets a marked one again, which reaches itself. Then the other way.
use mathlib.Core.Path.{◌≡◌, refl, sym, ap, ◌∙◌, subst}
use mathlib.Core.Logic.{◌⊎◌, inl, inr}
use mathlib.Core.Bool.{Bool, true, false}
use mathlib.Core.List.{List, [], ◌∷◌}
use Rattle.std.specs.Prelude.{Option, None, Some}
use Prim.Native.Nat.{ℕ, zero, suc, ◌+◌, ◌≤◌, ◌<◌}
use native.Mathlib.Decide.{ℕ_discrete}
use native.Mathlib.Omega.{arith}
use lib.ListN.{length}
use Rattle.definition.specs.Types.{TypeName, TypeValue, Var, State}
use Rattle.definition.specs.Store.{count, taken, type_at, get}
use Rattle.definition.specs.Subst.{next_of, as_var, forward_tvar, parts}
use Rattle.theorems.proofs.DemandTracks.{here, ends_det}
use Rattle.theorems.proofs.DemandTracks.{never, Kind, k_any, k_var, k_solid, kind}
use Rattle.theorems.proofs.DemandOrder.{All, All_map, Sound, chain, ends_in}
use Prim.Native.Nat.{◌*◌}
use mathlib.Core.List.{Memᴰ}
use native.Mathlib.Nat.{suc-mul}
use lib.ListN.{get_or, set, length-set, replicate, length-replicate, get_or-replicate}
use lib.Seq.{get_or-set_other}
use Rattle.theorems.proofs.DemandDepth.{follow, EndsWithin}
use Rattle.theorems.proofs.DemandLoops.{deep_enough, MeetsEnd, met, met_in, Itself, Loop}
use Rattle.theorems.proofs.DemandReading.{any_plain, follow_plain, follow_bound, follow_open}

-- ---- marks: how many variables are not yet met

unfoldable pub closed : List Bool → ℕ
closed [] = zero
closed (true ∷ ms) = closed ms
closed (false ∷ ms) = suc (closed ms)

pub mark_one : (ms : List Bool) (e : ℕ) → get_or ms e true ≡ false → suc (closed (set ms e true)) ≡ closed ms
unfolding closed
mark_one [] e h = never (cc)
mark_one (true ∷ ms) zero h = never (cc)
mark_one (false ∷ ms) zero h = refl
mark_one (true ∷ ms) (suc e) h = mark_one ms e h
mark_one (false ∷ ms) (suc e) h = ap suc (mark_one ms e h)

-- a part that loops, or all have P
list_or : (S : State) (P : ℕ → Type 0) (ps : List ℕ) → ((p : ℕ) → Memᴰ p ps → P p ⊎ Loop S (type_at S p)) → All P ps ⊎ ((p : ℕ) × Memᴰ p ps × Loop S (type_at S p))
list_or S P [] h = inl tt
list_or S P (p ∷ ps) h = go (h p (mathlib.Core.List.Memᴰ.head refl)) (list_or S P ps (λ q m. h q (mathlib.Core.List.Memᴰ.tail m)))
  where
    go : P p ⊎ Loop S (type_at S p) → All P ps ⊎ ((q : ℕ) × Memᴰ q ps × Loop S (type_at S q)) → All P (p ∷ ps) ⊎ ((q : ℕ) × Memᴰ q (p ∷ ps) × Loop S (type_at S q))
    go (inr l) r = inr (p, mathlib.Core.List.Memᴰ.head refl, l)
    go (inl w) (inl ws) = inl (w, ws)
    go (inl w) (inr l) = inr (l.0, mathlib.Core.List.Memᴰ.tail l.1, l.2)

pub all_at : {A : Type 0} (P : A → Type 0) (ps : List A) → All P ps → (p : A) → Memᴰ p ps → P p
all_at P [] a p m = absurd (mathlib.Core.List.Memᴰ.not-nil m)
all_at P (q ∷ ps) a p m = elim (mathlib.Core.List.Memᴰ.cases_cons m) [ inl e ↦ subst P (sym e) a.0 | inr n ↦ all_at P ps a.1 p n ]

-- ---- the walk

module _ {ar : TypeName → ℕ} {S : State} (s : Sound ar S) where
  -- a variable that is marked, met again, reaches itself
  abbrev Back : List Bool → TypeValue → Type 0
  Back ms L = (e : ℕ) → e < taken S → get_or ms e true ≡ true → MeetsEnd S e L → Itself S e

  abbrev EndsOr : ℕ → ℕ → Type 0
  EndsOr n p = EndsWithin S n (type_at S p) ⊎ Loop S (type_at S p)

  -- the parts of what the shape is, once followed
  parts_or : (n : ℕ) (L : TypeValue) → ((p : ℕ) → Memᴰ p (parts (follow S L)) → EndsOr n p) → EndsWithin S (suc n) L ⊎ Loop S L
  unfolding EndsWithin
  parts_or n L h = elim (list_or S (λ p. EndsWithin S n (type_at S p)) (parts (follow S L)) h) [
    | inl w ↦ inl w
    | inr l ↦ inr (record { variable = l.2.variable; meets = met_in l.1 l.2.meets; itself = l.2.itself })
  ]

  -- k variables are not yet met
  abbrev Deeper : ℕ → Type 0
  Deeper k = (ms : List Bool) → length ms ≡ taken S → closed ms ≡ k → (e : ℕ) → e < taken S → get_or ms e true ≡ false → (q : ℕ) → q < count S → Back (set ms e true) (type_at S q)
      → (n : ℕ) → k * count S ≤ n → EndsOr n q

  var_or : (k : ℕ) → Deeper k → (ms : List Bool) → length ms ≡ taken S → closed ms ≡ k → (v : ℕ) → v < taken S → Back ms (Var v) → (n : ℕ) → k * count S ≤ n
      → (o : Option ℕ) → get S (forward_tvar S v) ≡ o → (b : Bool) → get_or ms (forward_tvar S v) true ≡ b → EndsWithin S (suc n) (Var v) ⊎ Loop S (Var v)
  unfolding EndsWithin parts
  var_or k d ms lm cm v h back n f None g b eb = inl (rw (follow_open S v g) tt)
  var_or k d ms lm cm v h back n f (Some T) g true eb =
      let e = forward_tvar S v in inr (record { variable = e; meets = met refl; itself = back e (ends_in s h (chain s v h)) eb (met refl) })
  var_or k d ms lm cm v h back n f (Some T) g false eb =
      let e = forward_tvar S v in
      let e_in : e < taken S = ends_in s h (chain s v h) in
      let T_in : T < count S = s.bind_in e T g in
      let fw = follow_bound S v T g in
      parts_or n (Var v) (λ q m.
      let m' : Memᴰ q (parts (type_at S T)) = rw fw at m in
      let q_in : q < T = all_at (λ p. p < T) (parts (type_at S T)) (s.parts_below T T_in) q m' in
      d ms lm cm e e_in eb q (omega arith) (λ e' i x r. elim (ℕ_discrete e' e) [
        | yes c ↦ subst (λ (y : ℕ). Itself S y) (sym c) (record { binding_of = T; bound_to = g; part = q; is_part = m'; again = subst (λ (y : ℕ). MeetsEnd S y (type_at S q)) c r })
        | no c ↦ back e' i (sym (get_or-set_other ms e e' true true c) ∙ x) (met_in m r)
      ]) n f)

  node_or : (k : ℕ) → Deeper k → (j : ℕ) (ms : List Bool) → length ms ≡ taken S → closed ms ≡ k → (p : ℕ) → p < count S → p < j → Back ms (type_at S p) → (n : ℕ) → j + k * count S ≤ n → EndsOr n p
  node_or k d zero ms lm cm p h l back n f = absurd (omega arith)
  node_or k d (suc j) ms lm cm p h l back zero f = absurd (omega arith)
  node_or k d (suc j) ms lm cm p h l back (suc n) f =
      go (kind (type_at S p)) (λ q m back'. node_or k d j ms lm cm q (omega (arith, below q m)) (omega (arith, below q m)) back' n (omega arith))
    where
      below : (q : ℕ) → Memᴰ q (parts (type_at S p)) → q < p
      below q m = all_at (λ i. i < p) (parts (type_at S p)) (s.parts_below p h) q m

      plain : as_var (type_at S p) ≡ None → ((q : ℕ) → Memᴰ q (parts (type_at S p)) → Back ms (type_at S q) → EndsOr n q) → EndsOr (suc n) p
      plain e ih = let fw = follow_plain S (type_at S p) e in parts_or n (type_at S p) (λ q m. ih q (rw fw at m) (λ e' i x r. back e' i x (met_in m r)))

      go : Kind (type_at S p) → ((q : ℕ) → Memᴰ q (parts (type_at S p)) → Back ms (type_at S q) → EndsOr n q) → EndsOr (suc n) p
      go (k_any e) ih = plain (rw e any_plain) ih
      go (k_solid e m) ih = plain m ih
      go (k_var {v = v} e) ih = rw e (var_or k d ms lm cm v (s.var_in p v h e) (rw e at back) n (omega arith) (get S (forward_tvar S v)) refl (get_or ms (forward_tvar S v) true) refl)

  deeper : (k : ℕ) → Deeper k
  deeper zero ms lm cm e i b q h back n f = absurd (omega (arith, mark_one ms e b))
  deeper (suc k) ms lm cm e i b q h back n f =
      node_or k (λ ms lm cm e i b q h back n f. deeper k ms lm cm e i b q h back n f) (count S) (set ms e true) (length-set ms e true ∙ lm) (omega (arith, mark_one ms e b)) q h h back n (omega (arith, suc-mul k (count S)))

  pub closed_none : (n : ℕ) → closed (replicate n false) ≡ n
  unfolding closed
  closed_none zero = refl
  closed_none (suc n) = ap suc (closed_none n)

  -- reading a variable ends, or runs into one that reaches itself
  pub reading_or : (v : ℕ) → v < taken S → EndsWithin S (deep_enough S) (Var v) ⊎ Loop S (Var v)
  reading_or v h = var_or (taken S) (deeper (taken S)) (replicate (taken S) false) (length-replicate (taken S) false) (closed_none (taken S)) v h
      (λ e i x r. never (let z = get_or-replicate (taken S) e false true i in cc)) (taken S * count S) (omega arith) (get S (forward_tvar S v)) refl
      (get_or (replicate (taken S) false) (forward_tvar S v) true) refl

  -- ---- and the other way: what reaches itself is never read whole

  ends_more : (n m : ℕ) (L : TypeValue) → n ≤ m → EndsWithin S n L → EndsWithin S m L
  unfolding EndsWithin
  ends_more zero m L h w = absurd w
  ends_more (suc n) zero L h w = absurd (omega arith)
  ends_more (suc n) (suc m) L h w = All_map (λ p x. ends_more n m (type_at S p) (omega arith) x) (parts (follow S L)) w

  pub meets_ends : (n : ℕ) {L : TypeValue} (e : ℕ) → next_of S e ≡ None → e < taken S → MeetsEnd S e L → EndsWithin S n L → EndsWithin S n (Var e)
  unfolding EndsWithin follow
  meets_ends zero e stop i m w = w
  meets_ends (suc n) e stop i (met {v = v} d) w =
      let c : forward_tvar S e ≡ forward_tvar S v = ends_det (chain s e i) (here stop) ∙ sym d in rw c w
  meets_ends (suc n) e stop i (met_in {shape = L} {p = p} m r) w =
      ends_more n (suc n) (Var e) (omega arith) (meets_ends n e stop i r (all_at (λ q. EndsWithin S n (type_at S q)) (parts (follow S L)) w p m))

  pub itself_never : (n e : ℕ) → next_of S e ≡ None → e < taken S → Itself S e → EndsWithin S n (Var e) → ⊥
  unfolding EndsWithin
  itself_never zero e stop i t w = w
  itself_never (suc n) e stop i t w =
      let c : forward_tvar S e ≡ e = ends_det (chain s e i) (here stop) in
      let g : get S (forward_tvar S e) ≡ Some t.binding_of = ap (get S) c ∙ t.bound_to in
      let w' : All (λ p. EndsWithin S n (type_at S p)) (parts (type_at S t.binding_of)) = rw (follow_bound S e t.binding_of g) at w in
      itself_never n e stop i t (meets_ends n e stop i t.again (all_at (λ p. EndsWithin S n (type_at S p)) (parts (type_at S t.binding_of)) w' t.part t.is_part))
