-- R-11: read to any depth, a survivor ranks after KP where it did before (`depth_ranks`); so demand 3 over KP alone (`keep_none_sinks`), and R-6 (`keep_none_doubled`). Assumes nothing.
-- Chains go through the renumbering; so does what a type is followed to; then by induction on the depth.
use mathlib.Core.Path.{◌≡◌, refl, sym, ap, ◌∙◌, subst}
use mathlib.Core.Logic.{◌≢◌}
use mathlib.Core.Bool.{Bool, true}
use mathlib.Core.List.{List, [], ◌∷◌, map, Memᴰ}
use Rattle.std.specs.Prelude.{Option, None, Some}
use Prim.Native.Nat.{ℕ, zero, suc, ◌<◌}
use Rattle.definition.specs.Types.{TypeValue, UnitType, Ref, Param, Apply, Var, Anything, UnresolvedError, State}
use Rattle.definition.specs.Store.{count, taken, type_at, get}
use Rattle.definition.specs.Subst.{parts, forward_tvar}
use Rattle.definition.specs.Sound.{sound}
use Rattle.definition.specs.Rank.{ReadType, any, NoneReachesItself, known_error, Rank, any_below, open_below, error_below, units, parameters, references, same_named, Ranks, no_more, each}
use Rattle.definition.specs.Demand.{AtOrBelow}
use Rattle.definition.specs.Keep.{a_node, a_variable, Kept, its_binding, its_part, cleared, moved}
use Rattle.theorems.proofs.DemandTracks.{never, Ends, here, hop, ends_det}
use Rattle.theorems.proofs.DemandOrder.{chain}
use Rattle.theorems.proofs.DemandDepth.{end_shape, follow, read_all, read_shape, unrolled}
use Rattle.theorems.proofs.DemandReading.{mut_refl, rank_refl}
use Rattle.theorems.proofs.DemandLoops.{deep_enough}
use Rattle.theorems.proofs.SoundFacts.{facts}
use Rattle.theorems.proofs.TotalReading.{ends_read, var_ends, var_is_in}
use Rattle.theorems.proofs.KeepReach.{TakenAll}
use Rattle.theorems.proofs.KeepSame.{through, new_node, new_var, new_binding, Same, NothingElse, cleared_same, nothing_else, kept_below, kept_var_below}
use Rattle.theorems.proofs.KeepSound.{mapped, next_left, next_kept, cleared_sound}
use Rattle.theorems.proofs.KeepReads.{KeptType, of_node, of_variable, moved_kept, survivor_ranks}

module _ (s : State) (h : sound s ≡ true) (listed : List ℕ) (known : TakenAll s listed) where
  same : Same s listed
  same = cleared_same s h listed known

  only : NothingElse s listed
  only = nothing_else s h listed known

  abbrev f : ℕ → ℕ
  f v = new_var s listed v

  abbrev g : ℕ → ℕ
  g t = new_node s listed t

  -- ---- chains

  end_kept : {v e : ℕ} → Ends s v e → Kept s listed (a_variable v) → Kept s listed (a_variable e)
  end_kept (here n) k = k
  end_kept (hop {v = v} {w = w} n d) k = end_kept d (next_kept s h listed known v w k n)

  ends_through : {v e : ℕ} → Ends s v e → Kept s listed (a_variable v) → Ends (cleared s listed) (new_var s listed v) (new_var s listed e)
  unfolding mapped
  ends_through (here {v = v} n) k = here (next_left s h listed known v k ∙ ap (λ o. mapped (λ w. new_var s listed w) o) n)
  ends_through (hop {v = v} {w = w} n d) k = hop (next_left s h listed known v k ∙ ap (λ o. mapped (λ w. new_var s listed w) o) n) (ends_through d (next_kept s h listed known v w k n))

  pub last_kept : (v : ℕ) → Kept s listed (a_variable v) → Kept s listed (a_variable (forward_tvar s v))
  last_kept v k = end_kept (chain (facts s h) v (kept_var_below s h listed known k)) k

  pub forward_left : (v : ℕ) → Kept s listed (a_variable v) → forward_tvar (cleared s listed) (new_var s listed v) ≡ new_var s listed (forward_tvar s v)
  forward_left v k =
      ends_det (chain (facts (cleared s listed) (cleared_sound s h listed known)) (new_var s listed v) (same.var_in v k)) (ends_through (chain (facts s h) v (kept_var_below s h listed known k)) k)

  -- ---- what a type is followed to

  end_left : (e : ℕ) → Kept s listed (a_variable e) → end_shape (cleared s listed) (new_var s listed e) ≡ through f g (end_shape s e)
  unfolding end_shape new_binding through
  end_left e k = go (get s e) refl (same.binding_same e k)
    where
      go : (o : Option ℕ) → get s e ≡ o → get (cleared s listed) (new_var s listed e) ≡ new_binding s listed (get s e)
          → end_shape (cleared s listed) (new_var s listed e) ≡ through f g (end_shape s e)
      go None d c = let z : get (cleared s listed) (new_var s listed e) ≡ None = rw d at c in rw (z, d, end_shape) refl
      go (Some t) d c = let z : get (cleared s listed) (new_var s listed e) ≡ Some (new_node s listed t) = rw d at c in rw (z, d, end_shape) (same.type_same t (its_binding k d))

  end_type : (e : ℕ) → Kept s listed (a_variable e) → KeptType s listed (end_shape s e)
  unfolding end_shape
  end_type e k = go (get s e) refl
    where
      go : (o : Option ℕ) → get s e ≡ o → KeptType s listed (elim o [ None ↦ Var e | Some t ↦ type_at s t ])
      go None d = of_variable k
      go (Some t) d = of_node (its_binding k d)

  pub follow_left : (x : TypeValue) → KeptType s listed x → follow (cleared s listed) (through f g x) ≡ through f g (follow s x)
  unfolding follow through
  follow_left UnitType k = refl
  follow_left (Ref m t) k = refl
  follow_left (Param id a) k = refl
  follow_left (Apply mk n ts) k = refl
  follow_left (Var v) k = let q = k.var_kept v refl in ap (λ e. end_shape (cleared s listed) e) (forward_left v q) ∙ end_left (forward_tvar s v) (last_kept v q)
  follow_left Anything k = refl
  follow_left UnresolvedError k = refl

  follow_kept : (x : TypeValue) → KeptType s listed x → KeptType s listed (follow s x)
  unfolding follow
  follow_kept UnitType k = k
  follow_kept (Ref m t) k = k
  follow_kept (Param id a) k = k
  follow_kept (Apply mk n ts) k = k
  follow_kept (Var v) k = end_type (forward_tvar s v) (last_kept v (k.var_kept v refl))
  follow_kept Anything k = k
  follow_kept UnresolvedError k = k

  -- ---- rank, at every depth

  all_rank : (F G : ℕ → ReadType) (ts : List ℕ) → ((p : ℕ) → Memᴰ p ts → Rank (F p) (G (new_node s listed p))) → Ranks (read_all F ts) (read_all G (map g ts))
  unfolding read_all
  all_rank F G [] r = no_more
  all_rank F G (t ∷ ts) r = each (r t (Memᴰ.head refl)) (all_rank F G ts (λ p m. r p (Memᴰ.tail m)))

  shape_rank : (F G : ℕ → ReadType) (x : TypeValue) → ((p : ℕ) → Memᴰ p (parts x) → Rank (F p) (G (new_node s listed p))) → Rank (read_shape F x) (read_shape G (through f g x))
  unfolding read_shape through parts
  shape_rank F G UnitType r = units
  shape_rank F G (Ref m t) r = references (mut_refl m) (r t (Memᴰ.head refl))
  shape_rank F G (Param id a) r = parameters
  shape_rank F G (Apply mk n ts) r = same_named (all_rank F G ts r)
  shape_rank F G (Var v) r = open_below
  shape_rank F G Anything r = any_below
  shape_rank F G UnresolvedError r = error_below known_error

  pub type_ranks : (rest : ReadType) (n : ℕ) (x : TypeValue) → KeptType s listed x → Rank (unrolled rest n s x) (unrolled rest n (cleared s listed) (through f g x))
  unfolding unrolled
  type_ranks rest zero x k = rank_refl rest
  type_ranks rest (suc n) x k =
      let q = follow_kept x k in
      rw (follow_left x k) (shape_rank (λ p. unrolled rest n s (type_at s p)) (λ p. unrolled rest n (cleared s listed) (type_at (cleared s listed) p)) (follow s x)
      (λ p m. let j = q.parts_kept p m in rw (same.type_same p j) (type_ranks rest n (type_at s p) (of_node j))))

  -- a survivor, at its new number, ranks at every depth at or above what it was
  pub depth_ranks : (v v' : ℕ) → moved s listed v ≡ Some v' → (rest : ReadType) (n : ℕ) → Rank (unrolled rest n s (Var v)) (unrolled rest n (cleared s listed) (Var v'))
  unfolding through
  depth_ranks v v' e rest n = let a = moved_kept s h listed known v v' e in subst (λ (w : ℕ). Rank (unrolled rest n s (Var v)) (unrolled rest n (cleared s listed) (Var w))) a.1 (type_ranks rest n (Var v) (of_variable a.0))

  -- ---- demand 3 over KP: no survivor sinks, where it is what `moved` says

  pub keep_none_sinks : NoneReachesItself s → (v v' : ℕ) → v < taken s → moved s listed v ≡ Some v' → AtOrBelow s (Var v) (cleared s listed) (Var v')
  keep_none_sinks clear v v' l e =
      survivor_ranks s h listed known v v' e (unrolled any (deep_enough s) s (Var v)) (ends_read (facts s h) any (deep_enough s) (Var v) (var_is_in l) (var_ends (facts s h) v l (λ r. clear r.variable r.itself)))

  -- ---- R-6: no reference comes to stand over a reference

  ref_through : {m : Bool} {t : ℕ} (x : TypeValue) → through f g x ≡ Ref m t → (u : ℕ) × (x ≡ Ref m u) × (new_node s listed u ≡ t)
  unfolding through
  ref_through UnitType e = never (cc)
  ref_through {m} {t} (Ref m' u) e = (u, (let c : m' ≡ m = cc in rw c refl), cc)
  ref_through (Param id a) e = never (cc)
  ref_through (Apply mk n ts) e = never (cc)
  ref_through (Var v) e = never (cc)
  ref_through Anything e = never (cc)
  ref_through UnresolvedError e = never (cc)

  pub keep_none_doubled : ((n : ℕ) → n < count s → (m : Bool) (t : ℕ) → type_at s n ≡ Ref m t → (m' : Bool) (t' : ℕ) → type_at s t ≢ Ref m' t')
      → (n : ℕ) → n < count (cleared s listed) → (m : Bool) (t : ℕ) → type_at (cleared s listed) n ≡ Ref m t → (m' : Bool) (t' : ℕ) → type_at (cleared s listed) t ≢ Ref m' t'
  unfolding parts
  keep_none_doubled single n l m t e m' t' d =
      let a = only.a_kept_node n l in
      let b = ref_through (type_at s a.0) (sym (same.type_same a.0 a.1) ∙ ap (λ u. type_at (cleared s listed) u) a.2 ∙ e) in
      let k : Kept s listed (a_node b.0) = its_part a.1 (let z : parts (type_at s a.0) ≡ b.0 ∷ [] = ap parts b.1 in subst (λ ps. Memᴰ b.0 ps) (sym z) (Memᴰ.head refl)) in
      let c = ref_through (type_at s b.0) (sym (same.type_same b.0 k) ∙ ap (λ u. type_at (cleared s listed) u) b.2 ∙ d) in
      single a.0 (kept_below s h listed known a.1) m b.0 b.1 m' c.0 c.1
