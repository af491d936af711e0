-- The joins of instantiate give none of 1 to 4: core.rs unwraps them. They and the steps around them take exactly so much of each table. Assumes nothing.
-- First the steps, each exact in what it takes (Exact's rules); then a join with an unbound variable; then the arguments of a name, pair by pair with its fresh variable; then instantiate by the depth.
use mathlib.Core.Path.{◌≡◌, refl, sym, ap, ◌∙◌, subst}
use mathlib.Core.Logic.{◌≢◌, ◌⊎◌, inl, inr}
use mathlib.Core.Bool.{Bool, true, false, ◌||◌}
use mathlib.Core.List.{List, [], ◌∷◌}
use Rattle.std.specs.Prelude.{None, Some}
use Prim.Native.Nat.{ℕ, zero, suc, ◌*◌, ◌≤◌, ◌<◌}
use native.Mathlib.Omega.{arith}
use lib.ListN.{length, get_or-eq_default}
use lib.Dec.{eqb}
use borrow.Author.Tests.{eq-eqb, ne_eqb}
use Rattle.std.specs.Prelude.{if◌then◌else◌}
use Rattle.definition.specs.Types.{TypeName, TypeValue, UnitType, Ref, Param, Apply, Var, Anything, UnresolvedError, Cell, unbound, Constraint, AbilityConstraint, State, max_depth, Incompatible, Result, ok, err, ◌>>=◌}
use Rattle.definition.specs.Store.{count, taken, type_at, loc_of, get, num_loc, insert, args_of, with_node, with_constraints, sp, next_tvar, add_constraint, map_types, any_of}
use Rattle.definition.specs.Subst.{as_var, is_anything, parts, forward_tvar}
use Rattle.definition.specs.Join.{Join, is_num_var, check_num_tvar, is_var, used, join_bind_tvar, type_of, merge_num, join_tvar, arm, VarL, join_unbound, join_arm, join_impl, join}
use Rattle.definition.specs.Instantiate.{make_tvar, tvar_constraint, make_tparams, join_args, instantiate_type_args, instantiate_apply, instantiate_value, instantiate_down, instantiate}
use Rattle.definition.specs.Needs.{Needs}
use Rattle.definition.specs.Sound.{sound}
use Rattle.theorems.proofs.SoundFacts.{facts}
use Rattle.theorems.proofs.DemandRecords.{NoErr}
use Rattle.theorems.proofs.TotalFuel.{any_same, used_levels}
use Rattle.theorems.proofs.DemandMain.{join_impl_good}
use Rattle.theorems.proofs.Laws.{type_on, value_new, count_with_node, taken_with_node, get_with_node, get_beyond, get_with_var, get_insert_other, value_insert, taken_with_var, structs_node, structs_with_var, num_with_node, num_with_var, num_insert}
use Rattle.theorems.proofs.LawsChains.{next_none}
use Rattle.theorems.proofs.DemandTracks.{never, here, ends_det, solid, nonvar_var, k_any, k_var, k_solid, kind, Kind}
use Rattle.theorems.proofs.DemandOrder.{All, All_map, Sound, chain}
use Rattle.theorems.proofs.DemandSteps.{NodeOk, quiet_node, sound_node, quiet_var, sound_var}
use Rattle.theorems.proofs.SoundRoom.{with_room, sp_room, tvar_room, constraint_room}
use Rattle.theorems.proofs.LawsPost.{Grown, grown_refl, grown_trans, Post, p_ok, p_err, p_refused}
use Rattle.theorems.proofs.DemandCalls.{quiet_grown, NewNode, new_node, var_ok}
use Rattle.theorems.proofs.DemandWent.{any_ok, ref_ok, quiet_list, sound_added, held_list}
use Rattle.theorems.proofs.DemandRuns.{Declared, declared_on, tvar_on, instantiate_down_went}
use Rattle.theorems.proofs.TotalNoFail.{Sure, sure_no, sure_ok, sure_refused, sure_bind, sure_map}
use Rattle.theorems.proofs.NeedsExact.{four, sum, Exact, exact_ok, ExactAnd, more_none, more_node, more_var, more_constraint, more_insert, more_trans, exact_room, exact_as, exact_map, exact_sure, exact_eq, exact_none, exact_post, exact_bind}
use Rattle.theorems.proofs.MetSteps.{held_node, held_var}

-- ---- marks

pub num_beyond : (s : State) (v : ℕ) → taken s ≤ v → num_loc s v ≡ None
unfolding num_loc
num_beyond s v h = ap (λ (c : Cell). c.numeric) (get_or-eq_default s.vars unbound h)

-- ---- the steps

pub record NodeAt (ar : TypeName → ℕ) (S : State) (sh : TypeValue) (a : State × ℕ) : Type 0 where
  pub new : NewNode ar S sh a.0 a.1
  pub grown : Grown S a.0
  pub marks : (v : ℕ) → num_loc a.0 v ≡ num_loc S v

pub sp_exact : {ar : TypeName → ℕ} {S : State} → Sound ar S → (l : ℕ) (sh : TypeValue) → NodeOk ar S sh → ExactAnd S (four 1 (length (args_of sh)) 0 0) (NodeAt ar S sh) (sp S l sh)
sp_exact {ar} {S} s l sh o = exact_room (sp_room S l sh) (λ h. (omega (arith, h.nodes_fit), h.places_fit)) (more_node S l sh)
    (record { new = new_node s l sh o; grown = quiet_grown (quiet_node s l sh) (structs_node S l sh) (held_node s l sh); marks = num_with_node S l sh })

record VarAt (ar : TypeName → ℕ) (S : State) (a : State × ℕ) : Type 0 where
  sound : Sound ar a.0
  grown : Grown S a.0
  is : a.1 ≡ taken S
  more : taken a.0 ≡ suc (taken S)
  same_get : (v : ℕ) → get a.0 v ≡ get S v
  marks : (v : ℕ) → num_loc a.0 v ≡ num_loc S v

next_exact : {ar : TypeName → ℕ} {S : State} → Sound ar S → ExactAnd S (four 0 0 1 0) (VarAt ar S) (next_tvar S)
next_exact {ar} {S} s = exact_room (tvar_room S) (λ h. omega (arith, h.variables_fit)) (more_var S)
    (record { sound = sound_var s; grown = quiet_grown (quiet_var s) (structs_with_var S) (held_var s); is = refl; more = taken_with_var S; same_get = get_with_var S; marks = num_with_var S })

-- ---- a join with an unbound variable without a mark

unmarked : (S : State) (x t : ℕ) → num_loc S x ≡ None → check_num_tvar S x t ≡ true
unfolding check_num_tvar is_num_var
unmarked S x t e = rw (e, is_num_var) refl

any_used : (S : State) (x t : ℕ) → type_at S t ≡ Anything → used (suc t) S x t ≡ false
unfolding used as_var is_var any_of parts
any_used S x t e = rw e refl

type_open : (S : State) (loc e : ℕ) → get S e ≡ None → type_of S loc e ≡ sp S loc Anything
unfolding type_of
type_open S loc e g = rw (g, type_of) refl

open_end : {ar : TypeName → ℕ} {S : State} → Sound ar S → (x : ℕ) → x < taken S → get S x ≡ None → forward_tvar S x ≡ x
open_end {S = S} s x h g = ends_det (chain s x h) (here (next_none S x g))

any_join : (n : ℕ) (S : State) (l r : ℕ) → type_at S l ≡ Anything → join_impl (suc n) S Join l r ≡ ok (S, r)
unfolding join_impl join_arm arm
any_join n S l r e = rw e refl

any_bind : (S : State) (loc x t : ℕ) → num_loc S x ≡ None → type_at S t ≡ Anything → join_bind_tvar S loc x t ≡ ok (S, true)
unfolding join_bind_tvar is_anything
any_bind S loc x t m e = rw (unmarked S x t m, any_used S x t e, e) refl

-- what the join leaves: only x and w are bound, and the result is x or a new variable
record Left (S : State) (x w : ℕ) (a : State × ℕ) : Type 0 where
  only : (y : ℕ) → y < taken S → y ≢ x → y ≢ w → get a.0 y ≡ get S y
  marks : (y : ℕ) → num_loc a.0 y ≡ num_loc S y
  var : ℕ
  is : type_at a.0 a.1 ≡ Var var
  which : (var ≡ x) ⊎ (taken S ≤ var)

-- with what is no variable: it takes nothing
bind_exact : {ar : TypeName → ℕ} {S : State} → Sound ar S → (l r x : ℕ) → type_at S l ≡ Var x → num_loc S x ≡ None → used (suc r) S x r ≡ false → ExactAnd S (four 0 0 0 0) (Left S x x) (join_unbound S l r l x r)
unfolding join_unbound join_bind_tvar ◌>>=◌
bind_exact {S = S} s l r x v m u = rw (unmarked S x r m, u) (go (is_anything (type_at S r)))
  where
    go : (b : Bool) → ExactAnd {B = ℕ} S (four 0 0 0 0) (Left S x x) ((if b then ok (S, true) else ok (insert S x r, true)) >>= (λ (a : State × Bool). if a.1 then ok (a.0, l) else err a.0 (Incompatible l r)))
    go true = exact_ok (more_none S) (record { only = λ y h a b. refl; marks = λ y. refl; var = x; is = v; which = inl refl })
    go false = exact_ok (more_insert S x r) (record { only = λ y h a b. get_insert_other S x r y a; marks = num_insert S x r; var = x; is = value_insert S x r l ∙ v; which = inl refl })

-- with another such variable: two `_`, two bindings and a fresh variable
merge_exact : {ar : TypeName → ℕ} {S : State} (n : ℕ) → Sound ar S → (loc1 x loc2 w : ℕ) → x < taken S → w < taken S → get S x ≡ None → get S w ≡ None → num_loc S x ≡ None → num_loc S w ≡ None
    → ExactAnd S (four 4 0 1 0) (Left S x w) (join_tvar (λ s c l r. join_impl (suc n) s c l r) S Join loc1 x loc2 w)
unfolding join_tvar merge_num args_of
merge_exact {ar} {S} n s loc1 x loc2 w i j gx gw mx mw = rw (open_end s x i gx, open_end s w j gw, mx, mw, type_open S loc1 x gx) (exact_as (
    exact_bind {k = four 3 0 1 0} _ (sp_exact s loc1 Anything any_ok) (λ A a.
    rw (type_open A.0 loc2 w (a.new.same_get w ∙ gw)) (
    exact_bind _ (sp_exact a.new.sound loc2 Anything any_ok) (λ B b.
    exact_bind _ (next_exact b.new.sound) (λ C c.
    exact_bind _ (sp_exact c.sound loc1 (Var C.1) (var_ok C.1 (omega (arith, c.is, c.more)))) (λ D d.
    exact_bind _ (sp_exact d.new.sound loc2 (Var C.1) (var_ok C.1 (omega (arith, c.is, c.more, d.new.same_vars)))) (λ E e.
    let f = C.1 in
    let tied : State = insert (insert E.0 x D.1) w E.1 in
    let f_is : f ≡ taken S = c.is ∙ b.new.same_vars ∙ a.new.same_vars in
    let old : (y : ℕ) → get E.0 y ≡ get S y = λ y. e.new.same_get y ∙ d.new.same_get y ∙ c.same_get y ∙ b.new.same_get y ∙ a.new.same_get y in
    let only : (y : ℕ) → y ≢ x → y ≢ w → get tied y ≡ get S y = λ y p q. get_insert_other (insert E.0 x D.1) w E.1 y q ∙ get_insert_other E.0 x D.1 y p ∙ old y in
    let marks : (y : ℕ) → num_loc tied y ≡ num_loc S y = λ y. num_insert (insert E.0 x D.1) w E.1 y ∙ num_insert E.0 x D.1 y ∙ e.marks y ∙ d.marks y ∙ c.marks y ∙ b.marks y ∙ a.marks y in
    let val : (k : ℕ) → type_at tied k ≡ type_at E.0 k = λ k. value_insert (insert E.0 x D.1) w E.1 k ∙ value_insert E.0 x D.1 k in
    let late : (k : ℕ) (L : TypeValue) → k < count B.0 → type_at B.0 k ≡ L → type_at tied k ≡ L = λ k L h v. val k ∙ e.grown.g_kept k (omega (arith, c.grown.g_nodes, d.grown.g_nodes)) ∙ d.grown.g_kept k (omega (arith, c.grown.g_nodes)) ∙ c.grown.g_kept k h ∙ v in
    let v1 : type_at tied A.1 ≡ Anything = late A.1 Anything (omega (arith, a.new.t_in, b.grown.g_nodes)) (b.grown.g_kept A.1 a.new.t_in ∙ a.new.is) in
    let v2 : type_at tied B.1 ≡ Anything = late B.1 Anything b.new.t_in b.new.is in
    exact_eq _ _ (any_join n tied A.1 B.1 v1) (exact_none (get tied f) _ (only f (λ p. omega arith) (λ p. omega arith) ∙ get_beyond S f (omega arith)) (
    exact_eq _ _ (any_bind tied loc2 f B.1 (marks f ∙ num_beyond S f (omega arith)) v2) (
    exact_ok (more_trans (more_insert E.0 x D.1) (more_insert _ w E.1)) (record { only = λ y h p q. only y p q; marks = marks; var = f; is = val E.1 ∙ e.new.is; which = inr (omega arith) }))))))))))) (omega arith))

-- ---- the variable of an argument, and the argument

-- what the join of a fresh variable with it takes
abbrev pub merged : TypeValue → Needs
merged x = elim (as_var x) [ None ↦ four 0 0 0 0 | Some v ↦ four 4 0 1 0 ]

-- t is no variable, or a variable from b on that is unbound and has no mark; what comes next is from b' on
pub data PlainOrOpen (S : State) (b t : ℕ) : ℕ → Type 0 where
  is_plain : as_var (type_at S t) ≡ None → PlainOrOpen S b t b
  is_open : {w : ℕ} → type_at S t ≡ Var w → b ≤ w → w < taken S → get S w ≡ None → num_loc S w ≡ None → PlainOrOpen S b t (suc w)

pub record Pair (S : State) (h a b v t x b' : ℕ) : Type 0 where
  pub v_in : v < count S
  pub is : type_at S v ≡ Var x
  pub from : a ≤ x
  pub below : x < h
  pub free : get S x ≡ None
  pub clear : num_loc S x ≡ None
  pub t_in : t < count S
  pub unused : used (suc t) S x t ≡ false
  pub shape : PlainOrOpen S b t b'

record LeftOf (S : State) (x b b' : ℕ) (a : State × ℕ) : Type 0 where
  only : (y : ℕ) → y < taken S → y ≢ x → (y < b) ⊎ (b' ≤ y) → get a.0 y ≡ get S y
  marks : (y : ℕ) → num_loc a.0 y ≡ num_loc S y
  var : ℕ
  is : type_at a.0 a.1 ≡ Var var
  which : (var ≡ x) ⊎ (taken S ≤ var)

arm_l : (x : ℕ) (R : TypeValue) → solid R ≡ true → arm (Var x) R ≡ VarL x
unfolding arm
arm_l x UnitType e = refl
arm_l x (Ref m t) e = refl
arm_l x (Param id a) e = refl
arm_l x (Apply k n ts) e = refl
arm_l x (Var v) e = never (cc)
arm_l x Anything e = never (cc)
arm_l x UnresolvedError e = refl

used_other : (S : State) (x w t : ℕ) → type_at S t ≡ Var w → used (suc t) S x t ≡ false → w ≢ x
unfolding used as_var is_var any_of parts
used_other S x w t e u d = never (let z : eqb w x || false ≡ false = rw e at u in let y = eq-eqb w x d in let k : true ≡ false = rw y at z in cc)

module _ {ar : TypeName → ℕ} {S : State} (s : Sound ar S) (n h a b v t x : ℕ) (h_in : h ≤ taken S) (hb : h ≤ b) where
  plain_exact : as_var (type_at S t) ≡ None → {b' : ℕ} → Pair S h a b v t x b' → ExactAnd S (four 0 0 0 0) (Left S x x) (join_impl (suc (suc n)) S Join v t)
  unfolding join_impl join_arm arm
  plain_exact e p = go (kind (type_at S t))
    where
      go : Kind (type_at S t) → ExactAnd S (four 0 0 0 0) (Left S x x) (join_impl (suc (suc n)) S Join v t)
      go (k_any d) = rw (p.is, d) (exact_ok (more_none S) (record { only = λ y i c k. refl; marks = λ y. refl; var = x; is = p.is; which = inl refl }))
      go (k_var d) = nonvar_var e d
      go (k_solid d f) = rw (p.is, arm_l x (type_at S t) d) (rw (p.free, join_arm) (bind_exact s v t x p.is p.clear p.unused))

  open_exact : {w b' : ℕ} → Pair S h a b v t x b' → type_at S t ≡ Var w → w < taken S → get S w ≡ None → num_loc S w ≡ None → ExactAnd S (four 4 0 1 0) (Left S x w) (join_impl (suc (suc n)) S Join v t)
  unfolding join_impl join_arm arm
  open_exact {w} p e i g m = rw (p.is, e) (rw (ne_eqb x w (λ d. used_other S x w t e p.unused (sym d))) (merge_exact n s (loc_of S v) x (loc_of S t) w (omega (arith, p.below)) i p.free g p.clear m))

  join_exact : {b' : ℕ} → Pair S h a b v t x b' → ExactAnd S (merged (type_at S t)) (LeftOf S x b b') (join_impl (suc (suc n)) S Join v t)
  unfolding as_var
  join_exact p = go p p.shape
    where
      go : {b' : ℕ} → Pair S h a b v t x b' → PlainOrOpen S b t b' → ExactAnd S (merged (type_at S t)) (LeftOf S x b b') (join_impl (suc (suc n)) S Join v t)
      go p (is_plain e) = rw (e, merged) (exact_map (λ r l. record { only = λ y i c k. l.only y i c c; marks = l.marks; var = l.var; is = l.is; which = l.which }) (plain_exact e p))
      go p (is_open {w = w} e l i g m) = rw (ap as_var e, merged) (exact_map (λ r q. record { only = λ y i c k. q.only y i c (other y w l k); marks = q.marks; var = q.var; is = q.is; which = q.which }) (open_exact p e i g m))
        where
          other : (y w : ℕ) → b ≤ w → (y < b) ⊎ (suc w ≤ y) → y ≢ w
          other y w l (inl j) d = omega arith
          other y w l (inr j) d = omega arith

-- ---- the pairs of join_args

used_kept : {ar : TypeName → ℕ} {S S' : State} → Sound ar S → Grown S S' → (n y t : ℕ) → t < count S → used n S' y t ≡ used n S y t
unfolding used
used_kept s g zero y t h = refl
used_kept {S = S} {S' = S'} s g (suc n) y t h = rw (g.g_kept t h)
    (ap (λ (c : Bool). is_var y (type_at S t) || c) (any_same (λ p. used n S' y p) (λ p. used n S y p) (λ p. p < t) (λ p l. used_kept s g n y p (omega arith)) (parts (type_at S t)) (s.parts_below t h)))

-- S' has the nodes and marks of S
pub record Steady (ar : TypeName → ℕ) (S S' : State) : Type 0 where
  pub before : Sound ar S
  pub after : Sound ar S'
  pub grown : Grown S S'
  pub marks : (y : ℕ) → num_loc S' y ≡ num_loc S y

pub steady_refl : {ar : TypeName → ℕ} {S : State} → Sound ar S → Steady ar S S
steady_refl {S = S} s = record { before = s; after = s; grown = grown_refl S; marks = λ y. refl }

pub steady_trans : {ar : TypeName → ℕ} {S S' S'' : State} → Steady ar S S' → Steady ar S' S'' → Steady ar S S''
steady_trans p q = record { before = p.before; after = q.after; grown = grown_trans p.grown q.grown; marks = λ y. q.marks y ∙ p.marks y }

shape_keep : {ar : TypeName → ℕ} {S S' : State} {b t b' : ℕ} → Steady ar S S' → t < count S → ((y : ℕ) → y < taken S → b ≤ y → y < b' → get S' y ≡ get S y) → PlainOrOpen S b t b' → PlainOrOpen S' b t b'
shape_keep {t = t} z h k (is_plain e) = is_plain (ap as_var (z.grown.g_kept t h) ∙ e)
shape_keep {t = t} z h k (is_open {w = w} e l i g m) = is_open (z.grown.g_kept t h ∙ e) l (omega (arith, z.grown.g_vars)) (k w i l (omega arith) ∙ g) (z.marks w ∙ m)

next_from : {S : State} {b t b' : ℕ} → PlainOrOpen S b t b' → b ≤ b'
next_from (is_plain e) = omega arith
next_from (is_open e l i g m) = omega arith

pub data Pairs (S : State) (h : ℕ) : ℕ → ℕ → List ℕ → List ℕ → Type 0 where
  no_pairs : {a b : ℕ} {ts : List ℕ} → Pairs S h a b [] ts
  no_more : {a b v : ℕ} {vs : List ℕ} → Pairs S h a b (v ∷ vs) []
  pair : {a b v t x b' : ℕ} {vs ts : List ℕ} → Pair S h a b v t x b' → Pairs S h (suc x) b' vs ts → Pairs S h a b (v ∷ vs) (t ∷ ts)

pairs_keep : {ar : TypeName → ℕ} {S S' : State} {h a b : ℕ} {vs ts : List ℕ} → Steady ar S S' → h ≤ taken S → h ≤ b → ((y : ℕ) → y < taken S → ((a ≤ y) × (y < h)) ⊎ (b ≤ y) → get S' y ≡ get S y) → Pairs S h a b vs ts → Pairs S' h a b vs ts
pairs_keep z i j k no_pairs = no_pairs
pairs_keep z i j k no_more = no_more
pairs_keep {h = h} z i j k (pair {a = a} {b = b} {v = v} {t = t} {x = x} {b' = b'} p ps) = pair {v = v} {t = t} {x = x} {b' = b'} (record {
  v_in = omega (arith, p.v_in, z.grown.g_nodes);
  is = z.grown.g_kept v p.v_in ∙ p.is;
  from = p.from;
  below = p.below;
  free = k x (omega (arith, p.below)) (inl (p.from, p.below)) ∙ p.free;
  clear = z.marks x ∙ p.clear;
  t_in = omega (arith, p.t_in, z.grown.g_nodes);
  unused = used_kept z.before z.grown (suc t) x t p.t_in ∙ p.unused;
  shape = shape_keep z p.t_in (λ y l c d. k y l (inr c)) p.shape;
}) (pairs_keep z i (omega (arith, next_from p.shape)) (λ y l c. k y l (wider y c)) ps)
  where
    wider : (y : ℕ) → ((suc x ≤ y) × (y < h)) ⊎ (b' ≤ y) → ((a ≤ y) × (y < h)) ⊎ (b ≤ y)
    wider y (inl c) = inl (omega (arith, p.from, c.0), c.1)
    wider y (inr c) = inr (omega (arith, next_from p.shape))

-- every one is a variable from a on
unfoldable pub VarsFrom : State → ℕ → List ℕ → Type 0
VarsFrom S a us = All (λ u. (u < count S) × ((z : ℕ) × (type_at S u ≡ Var z) × (a ≤ z))) us

pub record ArgsJoined (ar : TypeName → ℕ) (S : State) (a : ℕ) (r : State × List ℕ) : Type 0 where
  pub steady : Steady ar S r.0
  pub only : (y : ℕ) → y < taken S → y < a → get r.0 y ≡ get S y
  pub are : VarsFrom r.0 a r.1

both : {B : Type 0} {ar : TypeName → ℕ} {S : State} {P : State → B → Type 0} {Q R : State × B → Type 0} {m : Result (State × B)} → Post ar S P m → Sure Q m → ((s : State) (b : B) → Grown S s → P s b → Q (s, b) → R (s, b)) → Sure R m
both (p_ok g p) (sure_ok q) f = sure_ok (f _ _ g p q)
both (p_err g p) s f = elim s [ ]
both p_refused sure_refused f = sure_refused

-- what the joins of the pairs take
abbrev pub merges : State → List ℕ → List ℕ → Needs
merges S [] ts = four 0 0 0 0
merges S (v ∷ vs) [] = four 0 0 0 0
merges S (v ∷ vs) (t ∷ ts) = sum (merged (type_at S t)) (merges S vs ts)

merges_keep : {S S' : State} {h a b : ℕ} {vs ts : List ℕ} → Grown S S' → Pairs S h a b vs ts → merges S' vs ts ≡ merges S vs ts
merges_keep g no_pairs = refl
merges_keep g no_more = refl
merges_keep g (pair {t = t} p ps) = rw (g.g_kept t p.t_in, merges_keep g ps) refl

pub join_args_exact : {ar : TypeName → ℕ} (vs ts : List ℕ) {S : State} {h a b : ℕ} → Sound ar S → h ≤ taken S → h ≤ b → Pairs S h a b vs ts → ExactAnd S (merges S vs ts) (ArgsJoined ar S a) (join_args S vs ts)
unfolding join_args join max_depth VarsFrom
join_args_exact [] ts {S} s i j ps = exact_ok (more_none S) (record { steady = steady_refl s; only = λ y l c. refl; are = tt })
join_args_exact (v ∷ vs) [] {S} s i j ps = exact_ok (more_none S) (record { steady = steady_refl s; only = λ y l c. refl; are = tt })
join_args_exact {ar} (v ∷ vs) (t ∷ ts) {S} {h} {a} {b} s i j (pair {x = x} {b' = b'} p ps) =
    exact_as (exact_bind _
    (exact_post {R = λ r. Steady ar S r.0 × (r.1 < count r.0) × LeftOf S x b b' r}
    (join_impl_good 256 S Join v t s p.v_in p.t_in) (join_exact s 254 h a b v t x i j p)
    (λ S1 u g q l. (record { before = s; after = q.sound; grown = g; marks = l.marks }, q.t_in, l)))
    (λ r q.
    let z = q.0 in
    let l = q.2 in
    let up = z.grown.g_vars in
    exact_bind _
    (subst (λ (k : Needs). ExactAnd r.0 k (ArgsJoined ar r.0 (suc x)) (join_args r.0 vs ts))
    (merges_keep z.grown ps)
    (join_args_exact vs ts z.after (omega (arith, up)) (omega (arith, next_from p.shape))
    (pairs_keep z i (omega (arith, next_from p.shape))
    (λ y k c. l.only y k (apart y c) (side y c)) ps)))
    (λ r2 w. exact_ok (more_none r2.0) (record {
      steady = steady_trans z w.steady;
      only = λ y k c. w.only y (omega (arith, up)) (omega (arith, p.from)) ∙ l.only y k (λ d. omega (arith, p.from)) (inl (omega (arith, p.from, p.below)));
      are = ((omega (arith, q.1, w.steady.grown.g_nodes), (l.var, w.steady.grown.g_kept r.1 q.1 ∙ l.is, late l.var l.which)), All_map (λ u f. (f.0, (f.1.0, f.1.1, omega (arith, p.from, f.1.2)))) r2.1 w.are);
    })))) (omega arith)
  where
    apart : (y : ℕ) → ((suc x ≤ y) × (y < h)) ⊎ (b' ≤ y) → y ≢ x
    apart y (inl c) d = omega (arith, c.0)
    apart y (inr c) d = omega (arith, p.below, next_from p.shape)

    side : (y : ℕ) → ((suc x ≤ y) × (y < h)) ⊎ (b' ≤ y) → (y < b) ⊎ (b' ≤ y)
    side y (inl c) = inl (omega (arith, c.1))
    side y (inr c) = inr c

    late : (z : ℕ) → (z ≡ x) ⊎ (taken S ≤ z) → a ≤ z
    late z (inl e) = omega (arith, p.from)
    late z (inr k) = omega (arith, p.from, p.below)

-- ---- variables for the arguments

-- no variable is bound, or marked, or taken
pub record Kept (ar : TypeName → ℕ) (S S' : State) : Type 0 where
  pub steady : Steady ar S S'
  pub gets : (y : ℕ) → get S' y ≡ get S y
  pub vars : taken S' ≡ taken S

pub add_exact : {ar : TypeName → ℕ} {S : State} → Sound ar S → (c : Constraint) → type_on c < count S → Exact S (four 0 0 0 1) (λ x. x) (Kept ar S) (add_constraint S c)
unfolding with_constraints get num_loc
add_exact {ar} {S} s c h = exact_room (constraint_room S c) (λ e. omega (arith, e.constraints_fit)) (more_constraint S c) (record {
  steady = record { before = s; after = sound_added s c h; grown = quiet_grown (quiet_list s _) refl (held_list s _); marks = λ y. refl };
  gets = λ y. refl;
  vars = refl;
})

pub record Made (ar : TypeName → ℕ) (S : State) (a : State × ℕ) : Type 0 where
  pub steady : Steady ar S a.0
  pub gets : (y : ℕ) → get a.0 y ≡ get S y
  pub t_in : a.1 < count a.0
  pub is : type_at a.0 a.1 ≡ Var (taken S)
  pub more : taken a.0 ≡ suc (taken S)

pub make_exact : {ar : TypeName → ℕ} {S : State} → Sound ar S → (l : ℕ) → ExactAnd S (four 1 0 1 0) (Made ar S) (make_tvar S l)
unfolding make_tvar args_of
make_exact s l = exact_bind _ (next_exact s) (λ A a. exact_map (λ B b. record {
  steady = record { before = s; after = b.new.sound; grown = grown_trans a.grown b.grown; marks = λ y. b.marks y ∙ a.marks y };
  gets = λ y. b.new.same_get y ∙ a.same_get y;
  t_in = b.new.t_in;
  is = b.new.is ∙ ap Var a.is;
  more = b.new.same_vars ∙ a.more;
}) (sp_exact a.sound l (Var A.1) (var_ok A.1 (omega (arith, a.is, a.more)))))

pub data Tvars (S : State) : ℕ → List ℕ → Type 0 where
  t_none : {a : ℕ} → Tvars S a []
  t_one : {a v x : ℕ} {vs : List ℕ} → v < count S → type_at S v ≡ Var x → a ≤ x → x < taken S → Tvars S (suc x) vs → Tvars S a (v ∷ vs)

pub record Tparams (ar : TypeName → ℕ) (S : State) (r : State × List ℕ) : Type 0 where
  pub steady : Steady ar S r.0
  pub gets : (y : ℕ) → get r.0 y ≡ get S y
  pub tvars : Tvars r.0 (taken S) r.1

-- how many pairs two lists make
abbrev pub pairs_in : List ℕ → List ℕ → ℕ
pairs_in [] cs = 0
pairs_in (ty ∷ tys) [] = 0
pairs_in (ty ∷ tys) (c ∷ cs) = suc (pairs_in tys cs)

-- a variable, its node and two constraints for each
abbrev pub for_each : ℕ → Needs
for_each n = four n 0 n (2 * n)

pub tparams_exact : {ar : TypeName → ℕ} (loc : ℕ) (n : TypeName) (tys cs : List ℕ) {S : State} → Sound ar S → ExactAnd S (for_each (pairs_in tys cs)) (Tparams ar S) (make_tparams S loc n tys cs)
unfolding make_tparams
tparams_exact loc n [] cs {S} s = exact_ok (more_none S) (record { steady = steady_refl s; gets = λ y. refl; tvars = t_none })
tparams_exact loc n (ty ∷ tys) [] {S} s = exact_ok (more_none S) (record { steady = steady_refl s; gets = λ y. refl; tvars = t_none })
tparams_exact loc n (ty ∷ tys) (c ∷ cs) {S} s =
    exact_as (exact_bind _ (make_exact s (loc_of S ty)) (λ A a.
    exact_bind _ (add_exact a.steady.after (AbilityConstraint loc A.1 c) a.t_in) (λ B b.
    exact_bind _ (add_exact b.steady.after (tvar_constraint n loc A.1) (rw (tvar_on n loc A.1) (omega (arith, a.t_in, b.steady.grown.g_nodes)))) (λ C d.
    exact_bind _ (tparams_exact loc n tys cs d.steady.after) (λ D e.
    let z = steady_trans b.steady (steady_trans d.steady e.steady) in
    let k : taken C ≡ suc (taken S) = d.vars ∙ b.vars ∙ a.more in
    exact_ok (more_none D.0) (record {
      steady = steady_trans a.steady z;
      gets = λ y. e.gets y ∙ d.gets y ∙ b.gets y ∙ a.gets y;
      tvars = t_one (omega (arith, a.t_in, z.grown.g_nodes)) (z.grown.g_kept A.1 a.t_in ∙ a.is) (omega arith) (omega (arith, a.more, z.grown.g_vars)) (subst (λ (i : ℕ). Tvars D.0 i D.1) k e.tvars);
    })))))) (omega arith)

-- ---- the arguments

pub record Level (S : State) (a : State × ℕ) : Type 0 where
  pub marks : (y : ℕ) → num_loc a.0 y ≡ num_loc S y
  pub olds : (y : ℕ) → y < taken S → get a.0 y ≡ get S y
  pub unused : (y : ℕ) → y < taken S → used (suc a.1) a.0 y a.1 ≡ false
  pub next : ℕ
  pub next_in : next ≤ taken a.0
  pub shape : PlainOrOpen a.0 (taken S) a.1 next

pub record Fresh (ar : TypeName → ℕ) (S : State) (a : State × ℕ) : Type 0 where
  pub steady : Steady ar S a.0
  pub t_in : a.1 < count a.0
  pub level : Level S a

pub data Shapes (S : State) (k : ℕ) : ℕ → List ℕ → Type 0 where
  sh_none : {b : ℕ} → Shapes S k b []
  sh_one : {b t b' : ℕ} {ts : List ℕ} → t < count S → ((y : ℕ) → y < k → used (suc t) S y t ≡ false) → PlainOrOpen S b t b' → Shapes S k b' ts → Shapes S k b (t ∷ ts)

shapes_lower : {S : State} {k k' b b' : ℕ} {ts : List ℕ} → k' ≤ k → b' ≤ b → Shapes S k b ts → Shapes S k' b' ts
shapes_lower h l sh_none = sh_none
shapes_lower h l (sh_one i u (is_plain e) ss) = sh_one i (λ y j. u y (omega arith)) (is_plain e) (shapes_lower h l ss)
shapes_lower {b' = b'} h l (sh_one i u (is_open {w = w} e c j g m) ss) = let c' : b' ≤ w = omega arith in sh_one i (λ y j. u y (omega arith)) (is_open e c' j g m) (shapes_lower h (omega arith) ss)

pub record Freshes (ar : TypeName → ℕ) (S : State) (r : State × List ℕ) : Type 0 where
  pub steady : Steady ar S r.0
  pub olds : (y : ℕ) → y < taken S → get r.0 y ≡ get S y
  pub shapes : Shapes r.0 (taken S) (taken S) r.1

abbrev pub Makes : (TypeName → ℕ) → (State → ℕ → Result (State × ℕ)) → Type 0
Makes ar f = (S : State) (t : ℕ) → Sound ar S → Declared ar S → t < count S → Sure (Fresh ar S) (f S t)

pub map_sure : {ar : TypeName → ℕ} (f : State → ℕ → Result (State × ℕ)) → Makes ar f → (ts : List ℕ) {S : State} → Sound ar S → Declared ar S → All (λ t. t < count S) ts → Sure (Freshes ar S) (map_types f S ts)
unfolding map_types
map_sure f h [] s d a = sure_ok (record { steady = steady_refl s; olds = λ y i. refl; shapes = sh_none })
map_sure f h (t ∷ ts) {S} s d a =
    sure_bind _ (h S t s d a.0) (λ A p.
    let l = p.level in
    sure_bind _ (map_sure f h ts p.steady.after (declared_on d p.steady.grown) (All_map (λ u i. omega (arith, p.steady.grown.g_nodes)) ts a.1)) (λ B q.
    let z = q.steady in
    sure_ok (record {
      steady = steady_trans p.steady z;
      olds = λ y i. q.olds y (omega (arith, p.steady.grown.g_vars)) ∙ l.olds y i;
      shapes = sh_one (omega (arith, p.t_in, z.grown.g_nodes)) (λ y i. used_kept z.before z.grown (suc A.1) y A.1 p.t_in ∙ l.unused y i)
          (shape_keep z p.t_in (λ y i c e. q.olds y i) l.shape) (shapes_lower p.steady.grown.g_vars l.next_in q.shapes);
    })))

pub pairs_of : {S1 S2 : State} {h a b : ℕ} {vs ts : List ℕ} → Grown S1 S2 → h ≡ taken S1 → ((y : ℕ) → a ≤ y → y < h → get S2 y ≡ None) → ((y : ℕ) → a ≤ y → num_loc S2 y ≡ None) → Tvars S1 a vs → Shapes S2 h b ts → Pairs S2 h a b vs ts
pairs_of g e f m t_none ss = no_pairs
pairs_of g e f m (t_one i v l j tv) sh_none = no_more
pairs_of g e f m (t_one {v = u} {x = x} i v l j tv) (sh_one {t = t} {b' = b'} k n p ss) = pair {v = u} {t = t} {x = x} {b' = b'} (record {
  v_in = omega (arith, g.g_nodes);
  is = g.g_kept u i ∙ v;
  from = l;
  below = omega arith;
  free = f x l (omega arith);
  clear = m x l;
  t_in = k;
  unused = n x (omega arith);
  shape = p;
}) (pairs_of g e (λ y c d. f y (omega arith) d) (λ y c. m y (omega arith)) tv ss)

-- ---- instantiate

sp_raw : (S : State) (l : ℕ) (sh : TypeValue) → Sure (λ (a : State × ℕ). a ≡ (with_node S l sh, count S)) (sp S l sh)
sp_raw S l sh = with_room (Sure (λ (a : State × ℕ). a ≡ (with_node S l sh, count S))) (sp_room S l sh) (λ e. sure_ok refl) sure_refused

used_var : (n : ℕ) (S : State) (y p z : ℕ) → type_at S p ≡ Var z → y ≢ z → used n S y p ≡ false
unfolding used as_var is_var any_of parts
used_var zero S y p z e d = refl
used_var (suc n) S y p z e d = rw (e, ne_eqb z y (λ k. d (sym k))) refl

used_none : (f : ℕ → Bool) (us : List ℕ) → All (λ u. f u ≡ false) us → any_of f us ≡ false
unfolding any_of
used_none f [] a = refl
used_none f (u ∷ us) a = rw (a.0, any_of) (used_none f us a.1)

unused_of : (S : State) (y t : ℕ) (x : TypeValue) → type_at S t ≡ x → is_var y x ≡ false → All (λ u. used t S y u ≡ false) (parts x) → used (suc t) S y t ≡ false
unfolding used
unused_of S y t x e v a = ap (λ (z : TypeValue). is_var y z || any_of (λ p. used t S y p) (parts z)) e ∙ rw v (used_none (λ p. used t S y p) (parts x) a)

-- a new node whose parts have no variable below the bound
new_level : {ar : TypeName → ℕ} {S S1 : State} → Steady ar S S1 → ((y : ℕ) → y < taken S → get S1 y ≡ get S y) → (l : ℕ) (sh : TypeValue) → as_var sh ≡ None → ((y : ℕ) → is_var y sh ≡ false)
    → ((y : ℕ) → y < taken S → All (λ u. used (count S1) (with_node S1 l sh) y u ≡ false) (parts sh)) → Sure (Level S) (sp S1 l sh)
new_level {S = S} {S1 = S1} z o l sh e v u = sure_map (λ a d. subst (Level S) (sym d) (record {
  marks = λ y. num_with_node S1 l sh y ∙ z.marks y;
  olds = λ y i. get_with_node S1 l sh y ∙ o y i;
  unused = λ y i. unused_of (with_node S1 l sh) y (count S1) sh (value_new S1 l sh) (v y) (u y i);
  next = taken S;
  next_in = omega (arith, z.grown.g_vars, taken_with_node S1 l sh);
  shape = is_plain (ap as_var (value_new S1 l sh) ∙ e);
})) (sp_raw S1 l sh)

pub record ArgsFrom (ar : TypeName → ℕ) (S : State) (r : State × List ℕ) : Type 0 where
  pub steady : Steady ar S r.0
  pub olds : (y : ℕ) → y < taken S → get r.0 y ≡ get S y
  pub are : VarsFrom r.0 (taken S) r.1

vars_unused : {ar : TypeName → ℕ} {S : State} {a : ℕ} → Sound ar S → (l : ℕ) (sh : TypeValue) (us : List ℕ) (y : ℕ) → y < a → VarsFrom S a us → All (λ u. used (count S) (with_node S l sh) y u ≡ false) us
unfolding VarsFrom
vars_unused {S = S} s l sh us y j vs = All_map (λ u p. used_var (count S) (with_node S l sh) y u p.1.0 ((quiet_node s l sh).q_kept u p.0 ∙ p.1.1) (λ d. omega (arith, p.1.2))) us vs

module _ {ar : TypeName → ℕ} (f : State → ℕ → Result (State × ℕ)) (h : Makes ar f) where
  -- a type that stays as it is
  stays : {S : State} (t : ℕ) (x : TypeValue) → type_at S t ≡ x → as_var x ≡ None → ((y : ℕ) → is_var y x ≡ false) → parts x ≡ [] → Sure (Level S) (ok (S, t))
  stays {S} t x e a v p = sure_ok {a = (S, t)} (record { marks = λ y. refl; olds = λ y i. refl; unused = λ y i. unused_of S y t x e (v y) (rw p tt); next = taken S; next_in = omega arith; shape = is_plain (ap as_var e ∙ a) })

  level_sure : {S : State} → Sound ar S → Declared ar S → (t : ℕ) → t < count S → (x : TypeValue) → type_at S t ≡ x → Sure (Level S) (instantiate_value f S t (loc_of S t) x)
  unfolding instantiate_value instantiate_apply instantiate_type_args as_var is_var parts
  level_sure s d t i UnitType e = stays t UnitType e refl (λ y. refl) refl
  level_sure s d t i UnresolvedError e = stays t UnresolvedError e refl (λ y. refl) refl
  level_sure s d t i (Param id b) e = stays t (Param id b) e refl (λ y. refl) refl
  level_sure s d t i (Var v) e = sure_refused
  level_sure {S} s d t i Anything e = sure_map (λ A a. record {
    marks = a.steady.marks;
    olds = λ y j. a.gets y;
    unused = λ y j. used_var (suc A.1) A.0 y A.1 (taken S) a.is (λ k. omega arith);
    next = suc (taken S);
    next_in = omega (arith, a.more);
    shape = is_open a.is (omega arith) (omega (arith, a.more)) (a.gets (taken S) ∙ get_beyond S (taken S) (omega arith)) (a.steady.marks (taken S) ∙ num_beyond S (taken S) (omega arith));
  }) (exact_sure (make_exact s (loc_of S t)))
  level_sure {S} s d t i (Ref m p) e =
      let b : p < t = (rw e at (s.parts_below t i)).0 in
      sure_bind _ (exact_sure (add_exact s _ (omega arith))) (λ A a.
      sure_bind _ (h A p a.steady.after (declared_on d a.steady.grown) (omega (arith, a.steady.grown.g_nodes))) (λ B q.
      let s1 = q.steady.after in
      let sh = Ref m B.1 in
      new_level (steady_trans a.steady q.steady) (λ y j. q.level.olds y (omega (arith, a.vars)) ∙ a.gets y) (loc_of S t) sh refl (λ y. refl) (λ y j.
      let s2 = sound_node s1 (loc_of S t) sh (ref_ok m B.1 q.t_in) in
      let g2 = quiet_grown (quiet_node s1 (loc_of S t) sh) (structs_node B.0 (loc_of S t) sh) (held_node s1 (loc_of S t) sh) in
      (used_levels s2 (count B.0) (suc B.1) y B.1 (omega (arith, q.t_in, count_with_node B.0 (loc_of S t) sh)) q.t_in (omega arith) ∙ used_kept s1 g2 (suc B.1) y B.1 q.t_in ∙ q.level.unused y (omega (arith, a.vars)), tt))))
  level_sure {S} s d t i (Apply k n tys) e =
      let b : All (λ p. p < t) tys = rw e at (s.parts_below t i) in
      sure_bind _ (sure_bind {Q = λ r. ArgsFrom ar S r} _ (exact_sure (tparams_exact (loc_of S t) n tys _ s)) (λ A a.
      let z1 = a.steady in
      sure_bind _ (map_sure f h tys z1.after (declared_on d z1.grown) (All_map (λ p l. omega (arith, z1.grown.g_nodes)) tys b)) (λ B q.
      let z2 = q.steady in
      sure_map (λ C c. record { steady = steady_trans z1 (steady_trans z2 c.steady); olds = λ y j. c.only y (omega (arith, z1.grown.g_vars, z2.grown.g_vars)) j ∙ q.olds y (omega (arith, z1.grown.g_vars)) ∙ a.gets y; are = c.are })
      (exact_sure (join_args_exact A.1 B.1 z2.after z2.grown.g_vars (omega arith)
      (pairs_of z2.grown refl (λ y l j. q.olds y j ∙ a.gets y ∙ get_beyond S y l) (λ y l. z2.marks y ∙ z1.marks y ∙ num_beyond S y l) a.tvars q.shapes)))))) (λ C c.
      new_level c.steady c.olds (loc_of S t) (Apply k n C.1) refl (λ y. refl) (λ y j. vars_unused c.steady.after (loc_of S t) (Apply k n C.1) C.1 y j c.are))

pub inst_sure : {ar : TypeName → ℕ} (n : ℕ) → Makes ar (instantiate_down n)
unfolding instantiate_down
inst_sure zero S t s d i = sure_refused
inst_sure (suc n) S t s d i = both (instantiate_down_went (suc n) S t s d i) (level_sure (λ s t. instantiate_down n s t) (λ S t s d i. inst_sure n S t s d i) s d t i (type_at S t) refl)
    (λ S' u g w l. record { steady = record { before = s; after = w.sound; grown = g; marks = l.marks }; t_in = w.t_in; level = l })

-- IN answers none of 1 to 4
pub instantiate_never_fails : (S : State) → sound S ≡ true → (t : ℕ) → t < count S → NoErr (instantiate S t)
unfolding instantiate
instantiate_never_fails S h t i = sure_no (inst_sure (suc t) S t (facts S h) (λ n. refl) i)
