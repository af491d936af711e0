-- From the order between states to rank. Assumes nothing.
-- First that rank is reflexive and transitive, by the tree; then that what a type tracks ranks at or above it; then reading n deep, by induction on n.
use mathlib.Core.Path.{◌≡◌, refl}
use mathlib.Core.Logic.{◌⊎◌, inl, inr}
use mathlib.Core.Bool.{Bool, true, false}
use mathlib.Core.List.{List, [], ◌∷◌}
use Rattle.std.specs.Prelude.{Option, None, Some}
use Prim.Native.Nat.{ℕ, zero, suc, ◌<◌}
use native.Mathlib.Omega.{arith}
use Rattle.definition.specs.Types.{TypeName, TypeValue, UnitType, Ref, Param, Apply, Var, Anything, UnresolvedError}
use Rattle.definition.specs.Types.{State}
use Rattle.definition.specs.Store.{count, taken, type_at, get}
use Rattle.definition.specs.Subst.{as_var, forward_tvar, parts}
use Rattle.theorems.proofs.DemandTracks.{Ends, ends_stop, ends_det, Head, h_unit, h_ref, h_param, h_apply, solid, Reach, r_self, r_var, LeMut}
use Rattle.theorems.proofs.DemandTracks.{Tracks, t_any, t_var, t_fit, Fits, f_err, f_node, TracksAll, ta_nil, ta_cons}
use Rattle.theorems.proofs.DemandTracks.{never, k_any, k_var, k_solid, kind, solid_any, solid_var, solid_nonvar, fits_solid_l}
use Rattle.theorems.proofs.DemandOrder.{All, All_map, Sound, ◌⊑◌, chain, ends_keep}
use Rattle.theorems.proofs.DemandOrder.{reach_in}
use Rattle.definition.specs.Rank.{ReadType, any, open_var, unresolved, unit, reference, parameter, named, ReadTypes, no_types, ◌and◌}
use Rattle.definition.specs.Rank.{Known, known_error, known_unit, known_reference, known_parameter, known_named, MutRank, lower_mutable, both_immutable}
use Rattle.definition.specs.Rank.{Rank, any_below, open_below, error_below, units, parameters, references, same_named, Ranks, no_more, each}
use Rattle.theorems.proofs.DemandDepth.{end_shape, follow, read_all, read_shape, unrolled}

pub mut_refl : (m : Bool) → MutRank m m
mut_refl true = lower_mutable
mut_refl false = both_immutable

mut_trans : {a b c : Bool} → MutRank a b → MutRank b c → MutRank a c
mut_trans lower_mutable q = lower_mutable
mut_trans both_immutable both_immutable = both_immutable

mut_rank : (a b : Bool) → LeMut a b → MutRank a b
mut_rank true b h = lower_mutable
mut_rank false true h = absurd h
mut_rank false false h = both_immutable

mutual
  pub rank_refl : (t : ReadType) → Rank t t
  rank_refl any = any_below
  rank_refl (open_var v) = open_below
  rank_refl unresolved = error_below known_error
  rank_refl unit = units
  rank_refl (reference m t) = references (mut_refl m) (rank_refl t)
  rank_refl (parameter id a) = parameters
  rank_refl (named k n ts) = same_named (ranks_refl ts)

  pub ranks_refl : (ts : ReadTypes) → Ranks ts ts
  ranks_refl no_types = no_more
  ranks_refl (◌and◌ t ts) = each (rank_refl t) (ranks_refl ts)

known_up : {t u : ReadType} → Known t → Rank t u → Known u
known_up known_error (error_below k) = k
known_up known_unit units = known_unit
known_up known_reference (references m r) = known_reference
known_up known_parameter parameters = known_parameter
known_up known_named (same_named rs) = known_named

mutual
  pub rank_trans : {a b c : ReadType} → Rank a b → Rank b c → Rank a c
  rank_trans any_below q = any_below
  rank_trans open_below q = open_below
  rank_trans (error_below k) q = error_below (known_up k q)
  rank_trans units units = units
  rank_trans parameters parameters = parameters
  rank_trans (references m p) (references m' q) = references (mut_trans m m') (rank_trans p q)
  rank_trans (same_named ps) (same_named qs) = same_named (ranks_trans ps qs)

  pub ranks_trans : {a b c : ReadTypes} → Ranks a b → Ranks b c → Ranks a c
  ranks_trans no_more no_more = no_more
  ranks_trans (each p ps) (each q qs) = each (rank_trans p q) (ranks_trans ps qs)

-- ---- shapes

pub head_rank : (f g : ℕ → ReadType) {L R : TypeValue} → Head L R → Ranks (read_all f (parts L)) (read_all g (parts R)) → Rank (read_shape f L) (read_shape g R)
unfolding read_all read_shape parts
head_rank f g h_unit rs = units
head_rank f g (h_ref {m = m} {m' = m'} l) (each r no_more) = references (mut_rank m m' l) r
head_rank f g h_param rs = parameters
head_rank f g h_apply rs = same_named rs

pub same_rank : (f g : ℕ → ReadType) (L : TypeValue) → Ranks (read_all f (parts L)) (read_all g (parts L)) → Rank (read_shape f L) (read_shape g L)
unfolding read_all read_shape parts
same_rank f g UnitType rs = units
same_rank f g (Ref m t) (each r no_more) = references (mut_refl m) r
same_rank f g (Param id a) rs = parameters
same_rank f g (Apply k n tys) rs = same_named rs
same_rank f g (Var v) rs = open_below
same_rank f g Anything rs = any_below
same_rank f g UnresolvedError rs = error_below known_error

solid_known : (f : ℕ → ReadType) (L : TypeValue) → solid L ≡ true → Known (read_shape f L)
unfolding read_shape
solid_known f UnitType h = known_unit
solid_known f (Ref m t) h = known_reference
solid_known f (Param id a) h = known_parameter
solid_known f (Apply k n tys) h = known_named
solid_known f (Var v) h = solid_var {v = v} h refl
solid_known f Anything h = solid_any h refl
solid_known f UnresolvedError h = known_error

pub follow_plain : (S : State) (L : TypeValue) → as_var L ≡ None → follow S L ≡ L
unfolding follow as_var
follow_plain S UnitType h = refl
follow_plain S (Ref m t) h = refl
follow_plain S (Param id a) h = refl
follow_plain S (Apply k n tys) h = refl
follow_plain S (Var v) h = never (cc)
follow_plain S Anything h = refl
follow_plain S UnresolvedError h = refl

pub any_plain : as_var Anything ≡ None
unfolding as_var
any_plain = refl

pub follow_bound : (S : State) (v t : ℕ) → get S (forward_tvar S v) ≡ Some t → follow S (Var v) ≡ type_at S t
unfolding follow end_shape
follow_bound S v t e = rw (e, end_shape) refl

pub follow_open : (S : State) (v : ℕ) → get S (forward_tvar S v) ≡ None → follow S (Var v) ≡ Var (forward_tvar S v)
unfolding follow end_shape
follow_open S v e = rw (e, end_shape) refl

-- ---- a type that tracks another ranks at or below it

module _ {ar : TypeName → ℕ} {S : State} (s : Sound ar S) where
  forward_is : {v e : ℕ} → v < taken S → Ends S v e → forward_tvar S v ≡ e
  forward_is {v} {e} h d = ends_det (chain s v h) d

  follow_same : {v w e : ℕ} → v < taken S → w < taken S → Ends S v e → Ends S w e → follow S (Var v) ≡ follow S (Var w)
  unfolding follow
  follow_same {v} {w} {e} hv hw dv dw = rw (forward_is hv dv, forward_is hw dw) refl

  follow_reach : {r t : ℕ} → r < count S → Reach S r t → follow S (type_at S r) ≡ type_at S t
  follow_reach {r} h (r_self n) = follow_plain S (type_at S r) n
  follow_reach {r} h (r_var {w = w} {t = t} e d g) = rw e (follow_bound S w t (rw (forward_is (s.var_in r w h e) d) g))

  all_rank : (f : ℕ → ReadType) → ((x r : ℕ) → x < count S → r < count S → Tracks S x r → Rank (f x) (f r)) → {xs rs : List ℕ} → All (λ p. p < count S) xs → All (λ p. p < count S) rs
      → TracksAll S xs rs → Ranks (read_all f xs) (read_all f rs)
  unfolding read_all
  all_rank f h ax ar ta_nil = no_more
  all_rank f h ax ar (ta_cons {x = x} {r = r} t ts) = each (h x r ax.0 ar.0 t) (all_rank f h ax.1 ar.1 ts)

  parts_in' : (i : ℕ) → i < count S → All (λ p. p < count S) (parts (type_at S i))
  parts_in' i h = All_map (λ p l. omega arith) (parts (type_at S i)) (s.parts_below i h)

  pub fits_rank : (f : ℕ → ReadType) → ((x r : ℕ) → x < count S → r < count S → Tracks S x r → Rank (f x) (f r)) → {x t : ℕ} → x < count S → t < count S → Fits S x t
      → Rank (read_shape f (type_at S x)) (read_shape f (type_at S t))
  unfolding read_shape
  fits_rank f h {x} {t} hx ht (f_err e k) = rw e (error_below (solid_known f (type_at S t) k))
  fits_rank f h {x} {t} hx ht (f_node d ts) = head_rank f f d (all_rank f h (parts_in' x hx) (parts_in' t ht) ts)

  pub tracks_rank : (rest : ReadType) (n x r : ℕ) → x < count S → r < count S → Tracks S x r → Rank (unrolled rest n S (type_at S x)) (unrolled rest n S (type_at S r))
  unfolding unrolled read_shape as_var
  tracks_rank rest zero x r hx hr t = rank_refl rest
  tracks_rank rest (suc n) x r hx hr (t_any e) = rw (e, follow_plain S Anything refl) any_below
  tracks_rank rest (suc n) x r hx hr (t_var {v = v} {w = w} ex er dx dr) = rw (ex, er, follow_same (s.var_in x v hx ex) (s.var_in r w hr er) dx dr) (rank_refl _)
  tracks_rank rest (suc n) x r hx hr (t_fit {t = t} h f) =
      rw (follow_plain S (type_at S x) (solid_nonvar (type_at S x) (fits_solid_l f)), follow_reach hr h)
      (fits_rank (λ p. unrolled rest n S (type_at S p)) (λ a b ha hb k. tracks_rank rest n a b ha hb k) hx (reach_in s hr h) f)

-- ---- what S knows, S' knows

module _ {ar : TypeName → ℕ} {S S' : State} (s : Sound ar S) (s' : Sound ar S') (x : S ⊑ S') (rest : ReadType) where
  -- the type p, n levels deep
  abbrev deep : ℕ → State → ℕ → ReadType
  deep n Z p = unrolled rest n Z (type_at Z p)

  all_up : (f g : ℕ → ReadType) → ((p : ℕ) → p < count S → Rank (f p) (g p)) → (ps : List ℕ) → All (λ p. p < count S) ps → Ranks (read_all f ps) (read_all g ps)
  unfolding read_all
  all_up f g h [] a = no_more
  all_up f g h (p ∷ ps) a = each (h p a.0) (all_up f g h ps a.1)

  -- the binding of a chain end, read in S, and what is read in S' from there
  bound_up : (n v T : ℕ) → ((p : ℕ) → p < count S → Rank (deep n S p) (deep n S' p)) → v < taken S → get S (forward_tvar S v) ≡ Some T
      → Rank (read_shape (λ p. deep n S p) (type_at S T)) (read_shape (λ p. deep n S' p) (follow S' (Var v)))
  bound_up n v T ih hv g =
      let e = forward_tvar S v in
      let d : Ends S v e = chain s v hv in
      let l = x.lands e T g (ends_stop d) in
      let T_in = s.bind_in e T g in
      let T_in' : T < count S' = omega (arith, x.more_nodes) in
      let fw : follow S' (Var v) ≡ type_at S' l.type = follow_bound S' v l.type (rw (forward_is s' {v = v} (omega (arith, x.more_vars)) (ends_keep x d l.ends)) l.bound) in
      let step1 : Rank (read_shape (λ p. deep n S p) (type_at S T)) (read_shape (λ p. deep n S' p) (type_at S T)) =
      same_rank (λ p. deep n S p) (λ p. deep n S' p) (type_at S T) (all_up (λ p. deep n S p) (λ p. deep n S' p) ih (parts (type_at S T)) (parts_in' s T T_in)) in
      let step2 = fits_rank s' (λ p. deep n S' p) (λ a b ha hb k. tracks_rank s' rest n a b ha hb k) T_in' (s'.bind_in l.last l.type l.bound) l.fits in
      rw fw (rank_trans step1 (rw (x.kept T T_in) at step2))

  shape_up : (n : ℕ) (L : TypeValue) → All (λ p. p < count S) (parts L) → ((v : ℕ) → L ≡ Var v → v < taken S) → ((p : ℕ) → p < count S → Rank (deep n S p) (deep n S' p))
      → Rank (read_shape (λ p. deep n S p) (follow S L)) (read_shape (λ p. deep n S' p) (follow S' L))
  unfolding read_shape
  shape_up n L a v_in ih = go (kind' L)
    where
      kind' : (L : TypeValue) → ((v : ℕ) × (L ≡ Var v)) ⊎ (as_var L ≡ None)
      kind' L = elim (kind L) [ k_any e ↦ inr (rw e any_plain) | k_var {v} e ↦ inl (v, e) | k_solid h n ↦ inr n ]

      at_var : (v : ℕ) → v < taken S → (o : Option ℕ) → get S (forward_tvar S v) ≡ o → Rank (read_shape (λ p. deep n S p) (follow S (Var v))) (read_shape (λ p. deep n S' p) (follow S' (Var v)))
      at_var v h None e = rw (follow_open S v e) open_below
      at_var v h (Some T) e = rw (follow_bound S v T e) (bound_up n v T ih h e)

      go : ((v : ℕ) × (L ≡ Var v)) ⊎ (as_var L ≡ None) → Rank (read_shape (λ p. deep n S p) (follow S L)) (read_shape (λ p. deep n S' p) (follow S' L))
      go (inl p) = rw p.1 (at_var p.0 (v_in p.0 p.1) (get S (forward_tvar S p.0)) refl)
      go (inr h) = rw (follow_plain S L h, follow_plain S' L h) (same_rank (λ p. deep n S p) (λ p. deep n S' p) L (all_up (λ p. deep n S p) (λ p. deep n S' p) ih (parts L) a))

  -- every type of S, read n deep in S, ranks at or below itself read n deep in S'
  pub read_up : (n p : ℕ) → p < count S → Rank (deep n S p) (deep n S' p)
  unfolding unrolled
  read_up zero p h = rank_refl rest
  read_up (suc n) p h = rw (x.kept p h) (shape_up n (type_at S p) (parts_in' s p h) (λ v e. s.var_in p v h e) (λ q l. read_up n q l))

  -- every variable of S, read in S, ranks at or below itself read in S'
  pub var_up : (n v : ℕ) → v < taken S → Rank (unrolled rest n S (Var v)) (unrolled rest n S' (Var v))
  unfolding unrolled parts
  var_up zero v h = rank_refl rest
  var_up (suc n) v h = shape_up n (Var v) tt (λ w e. let d : v ≡ w = cc in omega arith) (λ q l. read_up n q l)
