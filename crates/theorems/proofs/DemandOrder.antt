-- Sound states, and the order between states: S ⊑ S' where all that S knows S' knows. Assumes nothing.
-- First soundness as a record, then the order, then facts of a sound state; at the end, that chains go on in the order and that it is reflexive and transitive.
use mathlib.Core.Path.{◌≡◌, refl, ◌∙◌, ap}
use mathlib.Core.Bool.{true, false}
use mathlib.Core.List.{List, [], ◌∷◌}
use Rattle.std.specs.Prelude.{Option, None, Some}
use Prim.Native.Nat.{ℕ, zero, suc, ◌≤◌, ◌<◌}
use native.Mathlib.Omega.{arith}
use lib.ListN.{length}
use Rattle.definition.specs.Types.{TypeName, AbilityMark, TypeValue, UnitType, Ref, Param, Apply, Var, Anything, UnresolvedError}
use Rattle.definition.specs.Types.{State}
use Rattle.definition.specs.Store.{count, taken, node, type_at, get, need_of}
use Rattle.theorems.proofs.Laws.{PlacesIn, OnNodes, NeedsIn}
use Rattle.definition.specs.Subst.{next_of, next_in, as_var, is_anything, forward_tvar, parts}
use Rattle.theorems.proofs.LawsChains.{Within, stop_within, within_ends}
use Rattle.theorems.proofs.DemandTracks.{Ends, here, hop, ends_stop, h_unit, h_ref, h_param, h_apply, solid, Reach, r_self, r_var, le_mut_refl}
use Rattle.theorems.proofs.DemandTracks.{Tracks, t_any, t_var, t_fit, Fits, f_err, f_node, TracksAll, ta_nil, ta_cons, fits_trans}
use Rattle.theorems.proofs.DemandTracks.{never, Kind, k_any, k_var, k_solid, kind, solid_any, solid_var, nonvar_var, ends_det}
use Rattle.definition.specs.Join.{is_num_var}

abbrev pub All : {A : Type 0} → (A → Type 0) → List A → Type 0
All P [] = Unit {0}
All P (x ∷ xs) = P x × All P xs

pub record Sound (ar : TypeName → ℕ) (S : State) : Type 0 where
  pub places_in : (i : ℕ) → i < count S → PlacesIn S (node S i).value
  pub parts_below : (i : ℕ) → i < count S → All (λ p. p < i) (parts (type_at S i))
  pub var_in : (i v : ℕ) → i < count S → type_at S i ≡ Var v → v < taken S
  pub arity : (i : ℕ) (k : AbilityMark) (n : TypeName) (ps : List ℕ) → i < count S → type_at S i ≡ Apply k n ps → length ps ≡ ar n
  pub bind_in : (v t : ℕ) → get S v ≡ Some t → t < count S
  pub bind_known : (v t : ℕ) → get S v ≡ Some t → is_anything (type_at S t) ≡ false
  pub chains : (v : ℕ) → v < taken S → next_of S (forward_tvar S v) ≡ None
  pub constraints_on : OnNodes S
  pub needs_in : NeedsIn S

-- the nodes alone, and the constraints on them
pub record Nodes (ar : TypeName → ℕ) (S : State) : Type 0 where
  pub n_places : (i : ℕ) → i < count S → PlacesIn S (node S i).value
  pub n_parts : (i : ℕ) → i < count S → All (λ p. p < i) (parts (type_at S i))
  pub n_var : (i v : ℕ) → i < count S → type_at S i ≡ Var v → v < taken S
  pub n_arity : (i : ℕ) (k : AbilityMark) (n : TypeName) (ps : List ℕ) → i < count S → type_at S i ≡ Apply k n ps → length ps ≡ ar n
  pub n_constraints : OnNodes S

pub nodes_of : {ar : TypeName → ℕ} {S : State} → Sound ar S → Nodes ar S
nodes_of s = record { n_places = s.places_in; n_parts = s.parts_below; n_var = s.var_in; n_arity = s.arity; n_constraints = s.constraints_on }

-- the binding T of a variable e, followed from e in another state
pub record Lands (S : State) (e T : ℕ) : Type 0 where
  pub last : ℕ
  pub type : ℕ
  pub ends : Ends S e last
  pub bound : get S last ≡ Some type
  pub fits : Fits S T type

infix 4 ◌⊑◌
pub record ◌⊑◌ (S S' : State) : Type 0 where
  pub more_nodes : count S ≤ count S'
  pub kept : (i : ℕ) → i < count S → type_at S' i ≡ type_at S i
  pub more_vars : taken S ≤ taken S'
  pub hops : (v w : ℕ) → next_of S v ≡ Some w → next_of S' v ≡ Some w
  pub lands : (e T : ℕ) → get S e ≡ Some T → next_of S e ≡ None → Lands S' e T
  -- marks stay; a variable's need stays as it was taken with, and that of its chain's end does not sink
  pub num_stays : (v : ℕ) → is_num_var S v ≡ true → is_num_var S' v ≡ true
  pub need_stays : (v : ℕ) → v < taken S → need_of S' v ≡ need_of S v
  pub end_grows : (e e' : ℕ) → e < taken S → next_of S e ≡ None → Ends S' e e' → need_of S e ≤ need_of S' e'

-- ---- facts of a sound state

pub next_bound : (S : State) (v w : ℕ) → next_of S v ≡ Some w → (t : ℕ) × (get S v ≡ Some t) × (type_at S t ≡ Var w)
unfolding next_of next_in as_var
next_bound S v w h = go (get S v) refl h
  where
    at : (t : ℕ) (L : TypeValue) → type_at S t ≡ L → as_var L ≡ Some w → type_at S t ≡ Var w
    at t UnitType e h = never (cc)
    at t (Ref a b) e h = never (cc)
    at t (Param a b) e h = never (cc)
    at t (Apply a b c) e h = never (cc)
    at t (Var u) e h = cc
    at t Anything e h = never (cc)
    at t UnresolvedError e h = never (cc)

    go : (o : Option ℕ) → get S v ≡ o → next_in S o ≡ Some w → (t : ℕ) × (get S v ≡ Some t) × (type_at S t ≡ Var w)
    go None e h = never (cc)
    go (Some t) e h = (t, e, at t (type_at S t) refl h)

module _ {ar : TypeName → ℕ} {S : State} (s : Sound ar S) where
  pub chain_within : (v : ℕ) → v < taken S → Within S (taken S) v
  unfolding forward_tvar
  chain_within v h = stop_within S (taken S) v (s.chains v h)

  pub chain : (v : ℕ) → v < taken S → Ends S v (forward_tvar S v)
  unfolding forward_tvar
  chain v h = within_ends (chain_within v h)

  pub next_in_range : (v w : ℕ) → next_of S v ≡ Some w → w < taken S
  next_in_range v w h = let b = next_bound S v w h in s.var_in b.0 w (s.bind_in v b.0 b.1) b.2

  pub ends_in : {v e : ℕ} → v < taken S → Ends S v e → e < taken S
  ends_in h (here n) = h
  ends_in h (hop {v = v} {w = w} n d) = ends_in (next_in_range v w n) d

  pub refl_all : (x : ℕ) → ((p : ℕ) → p < x → Tracks S p p) → (ps : List ℕ) → All (λ p. p < x) ps → TracksAll S ps ps
  refl_all x f [] b = ta_nil
  refl_all x f (p ∷ ps) b = ta_cons (f p b.0) (refl_all x f ps b.1)

  pub refl_fits : (x : ℕ) → solid (type_at S x) ≡ true → TracksAll S (parts (type_at S x)) (parts (type_at S x)) → Fits S x x
  refl_fits x h ts = go (type_at S x) refl
    where
      go : (L : TypeValue) → type_at S x ≡ L → Fits S x x
      go UnitType e = f_node {x = x} {t = x} (rw e h_unit) ts
      go (Ref m t) e = f_node {x = x} {t = x} (rw e (h_ref (le_mut_refl m))) ts
      go (Param id a) e = f_node {x = x} {t = x} (rw e h_param) ts
      go (Apply k n tys) e = f_node {x = x} {t = x} (rw e h_apply) ts
      go (Var v) e = solid_var h e
      go Anything e = solid_any h e
      go UnresolvedError e = f_err e h

  pub tracks_refl_below : (k x : ℕ) → x < k → x < count S → Tracks S x x
  tracks_refl_below zero x h c = absurd (omega arith)
  tracks_refl_below (suc k) x h c = go (kind (type_at S x)) (refl_all x (λ p l. tracks_refl_below k p (omega arith) (omega arith)) (parts (type_at S x)) (s.parts_below x c))
    where
      go : Kind (type_at S x) → TracksAll S (parts (type_at S x)) (parts (type_at S x)) → Tracks S x x
      go (k_any e) ts = t_any e
      go (k_var {v = v} e) ts = let d = chain v (s.var_in x v c e) in t_var e e d d
      go (k_solid h n) ts = t_fit (r_self n) (refl_fits x h ts)

  pub tracks_refl : {x : ℕ} → x < count S → Tracks S x x
  tracks_refl {x} c = tracks_refl_below (suc x) x (omega arith) c

  pub fits_refl : {x : ℕ} → x < count S → solid (type_at S x) ≡ true → Fits S x x
  fits_refl {x} c h = refl_fits x h (refl_all x (λ p l. tracks_refl (omega arith)) (parts (type_at S x)) (s.parts_below x c))

  -- a binding to what is no variable is solid
  pub bind_solid : (v t : ℕ) → get S v ≡ Some t → next_of S v ≡ None → solid (type_at S t) ≡ true
  unfolding next_of next_in is_anything
  bind_solid v t g n = go (kind (type_at S t))
    where
      m : as_var (type_at S t) ≡ None
      m = let r : next_in S (Some t) ≡ None = rw g at n in r

      go : Kind (type_at S t) → solid (type_at S t) ≡ true
      go (k_any e) = let b : true ≡ false = rw e at (s.bind_known v t g) in never (cc)
      go (k_var e) = nonvar_var m e
      go (k_solid h n) = h

  pub reach_in : {r t : ℕ} → r < count S → Reach S r t → t < count S
  reach_in h (r_self n) = h
  reach_in h (r_var {e = e} {t = t} v d g) = s.bind_in e t g

pub All_map : {A : Type 0} {P Q : A → Type 0} → ((p : A) → P p → Q p) → (ps : List A) → All P ps → All Q ps
All_map f [] b = tt
All_map f (p ∷ ps) b = (f p b.0, All_map f ps b.1)

-- ---- ⊑

pub ends_keep : {S S' : State} {v e f : ℕ} → S ⊑ S' → Ends S v e → Ends S' e f → Ends S' v f
ends_keep x (here n) q = q
ends_keep x (hop {v = v} {w = w} n d) q = hop (x.hops v w n) (ends_keep x d q)

module _ {ar : TypeName → ℕ} {S S' : State} (s : Sound ar S) (s' : Sound ar S') (x : S ⊑ S') where
  parts_in : {i : ℕ} → i < count S → All (λ p. p < count S) (parts (type_at S i))
  parts_in {i} h = All_map (λ p l. omega arith) (parts (type_at S i)) (s.parts_below i h)

  mutual
    pub tracks_keep : {a b : ℕ} → Tracks S a b → a < count S → b < count S → Tracks S' a b
    tracks_keep {a} {b} (t_any e) ha hb = t_any (x.kept a ha ∙ e)
    tracks_keep {a} {b} (t_var {v = v} {e = e} ea eb da db) ha hb =
        let r = chain s' e (omega (arith, x.more_vars, ends_in s (s.var_in a v ha ea) da)) in
        t_var (x.kept a ha ∙ ea) (x.kept b hb ∙ eb) (ends_keep x da r) (ends_keep x db r)
    tracks_keep {a} {b} (t_fit (r_self n) f) ha hb = t_fit (r_self {r = b} (rw (x.kept b hb) n)) (fits_keep f ha hb)
    tracks_keep {a} {b} (t_fit (r_var {e = e} {t = t} eb d g) f) ha hb =
        let l = x.lands e t g (ends_stop d) in
        t_fit (r_var (x.kept b hb ∙ eb) (ends_keep x d l.ends) l.bound) (fits_trans (fits_keep f ha (s.bind_in e t g)) l.fits)

    pub fits_keep : {a b : ℕ} → Fits S a b → a < count S → b < count S → Fits S' a b
    fits_keep {a} {b} (f_err e h) ha hb = f_err {x = a} {t = b} (x.kept a ha ∙ e) (rw (x.kept b hb) h)
    fits_keep {a} {b} (f_node h ts) ha hb = f_node {x = a} {t = b} (rw (x.kept a ha, x.kept b hb) h) (rw (x.kept a ha, x.kept b hb) (all_keep ts (parts_in ha) (parts_in hb)))

    pub all_keep : {a b : List ℕ} → TracksAll S a b → All (λ p. p < count S) a → All (λ p. p < count S) b → TracksAll S' a b
    all_keep ta_nil ha hb = ta_nil
    all_keep (ta_cons t ts) ha hb = ta_cons (tracks_keep t ha.0 hb.0) (all_keep ts ha.1 hb.1)

pub ⊑_refl : {ar : TypeName → ℕ} {S : State} → Sound ar S → S ⊑ S
⊑_refl {S = S} s = record {
  more_nodes = omega arith;
  kept = λ i h. refl;
  more_vars = omega arith;
  hops = λ v w h. h;
  lands = λ e T g n. record { last = e; type = T; ends = here n; bound = g; fits = fits_refl s (s.bind_in e T g) (bind_solid s e T g n) };
  num_stays = λ v h. h;
  need_stays = λ v h. refl;
  end_grows = λ e e' i n d. omega (arith, ap (λ (x : ℕ). need_of S x) (ends_det (here n) d));
}

pub ⊑_trans : {ar : TypeName → ℕ} {S S' S'' : State} → Sound ar S → Sound ar S' → Sound ar S'' → S ⊑ S' → S' ⊑ S'' → S ⊑ S''
⊑_trans {S = S} {S' = S'} {S'' = S''} s s' s'' x y = record {
  more_nodes = omega (arith, x.more_nodes, y.more_nodes);
  kept = λ i h. y.kept i (omega (arith, x.more_nodes)) ∙ x.kept i h;
  more_vars = omega (arith, x.more_vars, y.more_vars);
  hops = λ v w h. y.hops v w (x.hops v w h);
  lands = λ e T g n. go e T g n (x.lands e T g n);
  num_stays = λ v h. y.num_stays v (x.num_stays v h);
  need_stays = λ v h. y.need_stays v (omega (arith, x.more_vars)) ∙ x.need_stays v h;
  end_grows = λ e e'' i n d.
      let i' : e < taken S' = omega (arith, x.more_vars) in
      let c = chain s' e i' in
      let j = ends_in s' i' c in
      let r = chain s'' (forward_tvar S' e) (omega (arith, y.more_vars)) in
      let k = ap (λ (z : ℕ). need_of S'' z) (ends_det (ends_keep y c r) d) in
      omega (arith, x.end_grows e (forward_tvar S' e) i n c, y.end_grows (forward_tvar S' e) _ j (ends_stop c) r, k);
}
  where
    go : (e T : ℕ) → get S e ≡ Some T → next_of S e ≡ None → Lands S' e T → Lands S'' e T
    go e T g n l =
        let m = y.lands l.last l.type l.bound (ends_stop l.ends) in
        let h = s.bind_in e T g in
        record {
          last = m.last;
          type = m.type;
          ends = ends_keep y l.ends m.ends;
          bound = m.bound;
          fits = fits_trans (fits_keep s' s'' y l.fits (omega (arith, x.more_nodes)) (s'.bind_in l.last l.type l.bound)) m.fits;
        }
