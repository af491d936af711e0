-- The relation `x tracks r`. Assumes nothing.
-- First the relation, by derivations: chains that end, shapes with one head, parts that track. Then its laws, by recursion on derivations.
use mathlib.Core.Path.{◌≡◌, refl}
use mathlib.Core.Bool.{Bool, true, false}
use mathlib.Core.List.{List, [], ◌∷◌}
use Rattle.std.specs.Prelude.{Option, None, Some}
use Prim.Native.Nat.{ℕ}
use native.Mathlib.Omega.{arith}
use Rattle.definition.specs.Types.{TypeName, AbilityMark, TypeValue, UnitType, Ref, Param, Apply, Var, Anything, UnresolvedError}
use Rattle.definition.specs.Types.{State}
use Rattle.definition.specs.Store.{type_at, get}
use Rattle.definition.specs.Subst.{next_of, as_var, parts}

-- v's chain ends at e
pub data Ends (S : State) : ℕ → ℕ → Type 0 where
  here : {v : ℕ} → next_of S v ≡ None → Ends S v v
  hop : {v w e : ℕ} → next_of S v ≡ Some w → Ends S w e → Ends S v e

abbrev pub LeMut : Bool → Bool → Type 0
LeMut true b = Unit {0}
LeMut false true = ⊥
LeMut false false = Unit {0}

-- same constructor, name and mark
pub data Head : TypeValue → TypeValue → Type 0 where
  h_unit : Head UnitType UnitType
  h_ref : {m m' : Bool} {p p' : ℕ} → LeMut m m' → Head (Ref m p) (Ref m' p')
  h_param : {i a a' : ℕ} → Head (Param i a) (Param i a')
  h_apply : {k : AbilityMark} {n : TypeName} {ps qs : List ℕ} → Head (Apply k n ps) (Apply k n qs)

abbrev pub solid : TypeValue → Bool
solid UnitType = true
solid (Ref m t) = true
solid (Param id a) = true
solid (Apply k n tys) = true
solid (Var v) = false
solid Anything = false
solid UnresolvedError = true

-- what the type r is, once its chain is followed
pub data Reach (S : State) : ℕ → ℕ → Type 0 where
  r_self : {r : ℕ} → as_var (type_at S r) ≡ None → Reach S r r
  r_var : {r w e t : ℕ} → type_at S r ≡ Var w → Ends S w e → get S e ≡ Some t → Reach S r t

mutual
  pub data Tracks (S : State) : ℕ → ℕ → Type 0 where
    t_any : {x r : ℕ} → type_at S x ≡ Anything → Tracks S x r
    t_var : {x r v w e : ℕ} → type_at S x ≡ Var v → type_at S r ≡ Var w → Ends S v e → Ends S w e → Tracks S x r
    t_fit : {x r t : ℕ} → Reach S r t → Fits S x t → Tracks S x r

  pub data Fits (S : State) : ℕ → ℕ → Type 0 where
    f_err : {x t : ℕ} → type_at S x ≡ UnresolvedError → solid (type_at S t) ≡ true → Fits S x t
    f_node : {x t : ℕ} → Head (type_at S x) (type_at S t) → TracksAll S (parts (type_at S x)) (parts (type_at S t)) → Fits S x t

  pub data TracksAll (S : State) : List ℕ → List ℕ → Type 0 where
    ta_nil : TracksAll S [] []
    ta_cons : {x r : ℕ} {xs rs : List ℕ} → Tracks S x r → TracksAll S xs rs → TracksAll S (x ∷ xs) (r ∷ rs)

-- ---- chains

pub never : {A : Type 0} → ◌≡◌ {A = ℕ} 0 1 → A
never z = absurd (omega arith)

pub ends_stop : {S : State} {v e : ℕ} → Ends S v e → next_of S e ≡ None
ends_stop (here h) = h
ends_stop (hop n d) = ends_stop d

pub ends_det : {S : State} {v e e' : ℕ} → Ends S v e → Ends S v e' → e ≡ e'
ends_det (here h) (here h') = refl
ends_det (here h) (hop n d) = cc
ends_det (hop n d) (here h) = cc
ends_det {S} (hop {w = w} n d) (hop {w = w'} n' d') = let e : w' ≡ w = cc in ends_det d (rw e at d')

-- ---- shapes

pub head_solid_l : {L R : TypeValue} → Head L R → solid L ≡ true
head_solid_l h_unit = refl
head_solid_l (h_ref l) = refl
head_solid_l h_param = refl
head_solid_l h_apply = refl

pub head_solid_r : {L R : TypeValue} → Head L R → solid R ≡ true
head_solid_r h_unit = refl
head_solid_r (h_ref l) = refl
head_solid_r h_param = refl
head_solid_r h_apply = refl

pub le_mut_refl : (m : Bool) → LeMut m m
le_mut_refl true = tt
le_mut_refl false = tt

pub le_mut_trans : (a b c : Bool) → LeMut a b → LeMut b c → LeMut a c
le_mut_trans true b c p q = tt
le_mut_trans false false false p q = tt
le_mut_trans false true c p q = absurd p
le_mut_trans false false true p q = absurd q

pub head_trans : {L M R : TypeValue} → Head L M → Head M R → Head L R
head_trans h_unit h_unit = h_unit
head_trans (h_ref {m = a} {m' = b} l) (h_ref {m' = c} l') = h_ref (le_mut_trans a b c l l')
head_trans h_param h_param = h_param
head_trans h_apply h_apply = h_apply

is_err : TypeValue → Bool
is_err UnitType = false
is_err (Ref m t) = false
is_err (Param id a) = false
is_err (Apply k n tys) = false
is_err (Var v) = false
is_err Anything = false
is_err UnresolvedError = true

pub head_err_r : {L R : TypeValue} → Head L R → R ≡ UnresolvedError → ⊥
head_err_r h_unit e = never (cc)
head_err_r (h_ref l) e = never (cc)
head_err_r h_param e = never (cc)
head_err_r h_apply e = never (cc)

-- a type is `_`, a variable, or solid
pub data Kind (L : TypeValue) : Type 0 where
  k_any : L ≡ Anything → Kind L
  k_var : {v : ℕ} → L ≡ Var v → Kind L
  k_solid : solid L ≡ true → as_var L ≡ None → Kind L

pub kind : (L : TypeValue) → Kind L
unfolding as_var
kind UnitType = k_solid refl refl
kind (Ref m t) = k_solid refl refl
kind (Param id a) = k_solid refl refl
kind (Apply k n tys) = k_solid refl refl
kind (Var v) = k_var refl
kind Anything = k_any refl
kind UnresolvedError = k_solid refl refl

pub solid_any : {L : TypeValue} {A : Type 0} → solid L ≡ true → L ≡ Anything → A
solid_any s e = never (let t : ◌≡◌ {A = Bool} false true = rw e at s in cc)

pub solid_var : {L : TypeValue} {v : ℕ} {A : Type 0} → solid L ≡ true → L ≡ Var v → A
solid_var s e = never (let t : ◌≡◌ {A = Bool} false true = rw e at s in cc)

pub solid_nonvar : (L : TypeValue) → solid L ≡ true → as_var L ≡ None
solid_nonvar L s = elim (kind L) [ k_any e ↦ solid_any s e | k_var e ↦ solid_var s e | k_solid a b ↦ b ]

pub nonvar_var : {L : TypeValue} {v : ℕ} {A : Type 0} → as_var L ≡ None → L ≡ Var v → A
unfolding as_var
nonvar_var {v = v} s e = never (let t : ◌≡◌ {A = Option ℕ} (Some v) None = rw e at s in cc)

pub any_var : {L : TypeValue} {v : ℕ} {A : Type 0} → L ≡ Anything → L ≡ Var v → A
any_var s e = never (cc)

-- ---- the relation

pub fits_solid_l : {S : State} {x t : ℕ} → Fits S x t → solid (type_at S x) ≡ true
fits_solid_l (f_err e s) = rw e refl
fits_solid_l (f_node h ts) = head_solid_l h

pub fits_solid_r : {S : State} {x t : ℕ} → Fits S x t → solid (type_at S t) ≡ true
fits_solid_r (f_err e s) = s
fits_solid_r (f_node h ts) = head_solid_r h

mutual
  pub tracks_trans : {S : State} {x y z : ℕ} → Tracks S x y → Tracks S y z → Tracks S x z
  tracks_trans (t_any e) q = t_any e
  tracks_trans (t_var ex ey a b) (t_any e) = any_var e ey
  tracks_trans {S} (t_var {w = w} ex ey a b) (t_var {v = v} ey' ez a' b') =
      let p : v ≡ w = cc in
      let q = ends_det (rw p at a') b in
      t_var ex ez a (rw q at b')
  tracks_trans (t_var ex ey a b) (t_fit r f) = solid_var (fits_solid_l f) ey
  tracks_trans (t_fit (r_self n) f) (t_any e) = solid_any (fits_solid_r f) e
  tracks_trans (t_fit (r_self n) f) (t_var ey ez a b) = nonvar_var n ey
  tracks_trans (t_fit (r_self n) f) (t_fit r' f') = t_fit r' (fits_trans f f')
  tracks_trans (t_fit (r_var ey d g) f) (t_any e) = any_var e ey
  tracks_trans {S} (t_fit (r_var {w = w} ey d g) f) (t_var {v = v} {w = u} ey' ez a b) =
      let p : v ≡ w = cc in
      let q = ends_det (rw p at a) d in
      t_fit (r_var ez (rw q at b) g) f
  tracks_trans (t_fit (r_var ey d g) f) (t_fit r' f') = solid_var (fits_solid_l f') ey

  pub fits_trans : {S : State} {x y z : ℕ} → Fits S x y → Fits S y z → Fits S x z
  fits_trans (f_err e s) f' = f_err e (fits_solid_r f')
  fits_trans (f_node h ts) (f_err e s) = absurd (head_err_r h e)
  fits_trans (f_node h ts) (f_node h' ts') = f_node (head_trans h h') (all_trans ts ts')

  pub all_trans : {S : State} {x y z : List ℕ} → TracksAll S x y → TracksAll S y z → TracksAll S x z
  all_trans ta_nil ta_nil = ta_nil
  all_trans (ta_cons a as') (ta_cons b bs) = ta_cons (tracks_trans a b) (all_trans as' bs)
