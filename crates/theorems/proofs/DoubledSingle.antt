-- No reference stands directly over a reference: every step that adds to a state keeps that, and so does a join. Assumes nothing.
-- How it goes: nodes are only added, so `Single` is kept if each new reference is over a plain node, one that is no reference. A join of two plain nodes
-- gives a plain one: one of the two, a variable, or a node built with the name of both. So a reference that a join builds is over a plain node too.
use mathlib.Core.Path.{◌≡◌, refl, ◌∙◌}
use mathlib.Core.Logic.{◌⊎◌, inl, inr}
use mathlib.Core.Bool.{Bool, true, false, not, ◌&&◌}
use mathlib.Core.List.{List, [], ◌∷◌, ◌++◌}
use Rattle.std.specs.Prelude.{Option, None, Some}
use Prim.Native.Nat.{ℕ, zero, suc, ◌<◌}
use native.Mathlib.Omega.{arith}
use lib.ListN.{length, get_or}
use lib.Dec.{eqb}
use Rattle.definition.specs.Types.{TypeName, AbilityMark, Shape, UnitType, Ref, Param, Apply, Var, Anything, UnresolvedError, TypeValue, Node, State, Result, ok, ◌>>=◌}
use Rattle.definition.specs.Store.{nowhere, count, map_args, node, type_at, loc_of, with_args, stored, get, num_loc, insert, with_node, sp, next_tvar}
use Rattle.definition.specs.Subst.{is_anything, forward_tvar}
use Rattle.definition.specs.Join.{TypingCase, JoinImpl, check_num_tvar, used, join_bind_tvar, type_of, shown, join_tvar, join_impl_types, Arm, join_mut, join_refs, same_name, is_multiple, same_mark, join_applies, join_unbound, join_arm, join_impl}
use Rattle.theorems.proofs.Laws.{count_with_node, node_old, node_new, SameNodes, insert_nodes, with_var_nodes, merge_nodes}
use Rattle.theorems.proofs.DemandTracks.{never}
use Rattle.theorems.proofs.SoundRoom.{with_room, sp_room, tvar_room}
use Rattle.theorems.proofs.DemandMain.{Took, took, took_any_l, took_any_r, took_units, took_refs, took_params, took_applies, took_vars, took_var_l, took_var_r, took_error_l, took_error_r, took_others}
use Rattle.theorems.proofs.TotalWalk.{seven, eight, ten, Ends, e_ok, e_err, e_refused, bind, either, maybe}

-- ---- nodes

abbrev pub is_ref : {A : Type 0} → Shape A → Bool
is_ref UnitType = false
is_ref (Ref m t) = true
is_ref (Param id a) = false
is_ref (Apply k n p) = false
is_ref (Var v) = false
is_ref Anything = false
is_ref UnresolvedError = false

-- a node that is no reference
pub record Plain (s : State) (t : ℕ) : Type 0 where
  pub plain_in : t < count s
  pub no_ref : is_ref (node s t).value ≡ false

-- each reference is over a plain node
pub record Single (s : State) : Type 0 where
  pub over : (n : ℕ) (m : Bool) (t : ℕ) → (node s n).value ≡ Ref m t → Plain s t

-- what a new node asks of the nodes that are there
abbrev pub Over : State → TypeValue → Type 0
Over s UnitType = Unit {0}
Over s (Ref m t) = Plain s t
Over s (Param id a) = Unit {0}
Over s (Apply k n tys) = Unit {0}
Over s (Var v) = Unit {0}
Over s Anything = Unit {0}
Over s UnresolvedError = Unit {0}

over_ref : {s : State} {x : TypeValue} → Over s x → {m : Bool} {t : ℕ} → x ≡ Ref m t → Plain s t
over_ref o e = rw e at o

-- a reference is stored and read as it is
map_ref : {A B : Type 0} (f : A → B) (x : Shape A) {m : Bool} {t : ℕ} → map_args f x ≡ Ref m t → x ≡ Ref m t
map_ref f UnitType e = never (cc)
map_ref f (Ref m t) e = cc
map_ref f (Param id a) e = never (cc)
map_ref f (Apply k n p) e = never (cc)
map_ref f (Var v) e = never (cc)
map_ref f Anything e = never (cc)
map_ref f UnresolvedError e = never (cc)

map_is_ref : {A B : Type 0} (f : A → B) (x : Shape A) → is_ref (map_args f x) ≡ is_ref x
map_is_ref f UnitType = refl
map_is_ref f (Ref m t) = refl
map_is_ref f (Param id a) = refl
map_is_ref f (Apply k n p) = refl
map_is_ref f (Var v) = refl
map_is_ref f Anything = refl
map_is_ref f UnresolvedError = refl

-- ---- states

value_ref : (s : State) (n : ℕ) {m : Bool} {t : ℕ} → type_at s n ≡ Ref m t → (node s n).value ≡ Ref m t
unfolding type_at with_args
value_ref s n e = map_ref _ (node s n).value e

pub under : {s : State} → Single s → (n : ℕ) (m : Bool) (t : ℕ) → type_at s n ≡ Ref m t → Plain s t
under {s} i n m t e = i.over n m t (value_ref s n e)

pub plain_no_ref : {A : Type 0} {s : State} {n : ℕ} → Plain s n → (m : Bool) (t : ℕ) → type_at s n ≡ Ref m t → A
plain_no_ref {s = s} {n = n} p m t e = never (let d : true ≡ false = rw (value_ref s n e) at p.no_ref in cc)

-- s' has the nodes of s, and perhaps more
pub record Left (s s' : State) : Type 0 where
  pub single : Single s'
  pub kept : (t : ℕ) → Plain s t → Plain s' t

pub left_same : {s s' : State} → SameNodes s s' → Single s → Left s s'
unfolding node
left_same {s} {s'} e i = record { single = record { over = λ n m t d. kept t (i.over n m t (rw e.same_nodes at d)) }; kept = kept }
  where
    kept : (t : ℕ) → Plain s t → Plain s' t
    kept t p = record { plain_in = rw e.same_nodes p.plain_in; no_ref = rw e.same_nodes p.no_ref }

pub left_refl : {s : State} → Single s → Left s s
left_refl i = record { single = i; kept = λ t p. p }

pub left_trans : {s s' s'' : State} → Left s s' → Left s' s'' → Left s s''
left_trans a b = record { single = b.single; kept = λ t p. b.kept t (a.kept t p) }

-- ---- a new node

plain_new : (s : State) (l : ℕ) (x : TypeValue) → is_ref x ≡ false → Plain (with_node s l x) (count s)
unfolding stored
plain_new s l x h = record { plain_in = omega (arith, count_with_node s l x); no_ref = rw (node_new s l x) (map_is_ref _ x ∙ h) }

old_or_new : (ns : List Node) (x : Node) (n : ℕ) → (get_or (ns ++ (x ∷ [])) n nowhere ≡ get_or ns n nowhere) ⊎ (get_or (ns ++ (x ∷ [])) n nowhere ≡ x)
old_or_new [] x zero = inr refl
old_or_new [] x (suc n) = inl refl
old_or_new (y ∷ ns) x zero = inl refl
old_or_new (y ∷ ns) x (suc n) = old_or_new ns x n

left_node : {s : State} → Single s → (l : ℕ) (x : TypeValue) → Over s x → Left s (with_node s l x)
unfolding node with_node stored
left_node {s} i l x o = record { single = record { over = λ n m t e. kept t (elim (old_or_new s.nodes new n) [ inl d ↦ i.over n m t (rw d at e) | inr d ↦ over_ref {x = x} o (map_ref _ x (rw d at e)) ]) }; kept = kept }
  where
    new : Node
    new = record { loc = l; value = stored (length s.args) x }

    kept : (t : ℕ) → Plain s t → Plain (with_node s l x) t
    kept t p = record { plain_in = omega (arith, count_with_node s l x, p.plain_in); no_ref = rw (node_old s l x t p.plain_in) p.no_ref }

-- ---- results

-- a success leaves a state that goes on from s, and has P; an error is met in a state of the same kind
abbrev pub Goes : State → {B : Type 0} → (State × B → Type 0) → Result (State × B) → Type 0
Goes s P m = Ends true Single (λ a. Left s a.0 × P a) m

pub goes_from : {B : Type 0} {s s' : State} {P : State × B → Type 0} {m : Result (State × B)} → Left s s' → Goes s' P m → Goes s P m
goes_from l (e_ok p) = e_ok (left_trans l p.0, p.1)
goes_from l (e_err i) = e_err i
goes_from l (e_refused r) = e_refused r

pub goes_map : {B : Type 0} {s : State} {P Q : State × B → Type 0} {m : Result (State × B)} → ((a : State × B) → Left s a.0 → P a → Q a) → Goes s P m → Goes s Q m
goes_map f (e_ok p) = e_ok (p.0, f _ p.0 p.1)
goes_map f (e_err i) = e_err i
goes_map f (e_refused r) = e_refused r

-- `?`
pub goes : {B C : Type 0} {s : State} {P : State × B → Type 0} {Q : State × C → Type 0} {m : Result (State × B)} (f : State × B → Result (State × C))
    → Goes s P m → ((a : State × B) → Left s a.0 → P a → Goes a.0 Q (f a)) → Goes s Q (m >>= f)
goes f h k = bind f h (λ a p. goes_from p.0 (k a p.0 p.1))

abbrev pub Unasked : {B : Type 0} → State × B → Type 0
Unasked a = Unit {0}

abbrev pub IsPlain : State × ℕ → Type 0
IsPlain a = Plain a.0 a.1

pub sp_goes : (s : State) → Single s → (l : ℕ) (x : TypeValue) → Over s x → Goes s (λ a. is_ref x ≡ false → IsPlain a) (sp s l x)
sp_goes s i l x o = with_room (Goes s (λ a. is_ref x ≡ false → IsPlain a)) (sp_room s l x) (λ e. e_ok (left_node i l x o, λ h. plain_new s l x h)) (e_refused seven)

pub tvar_goes : (s : State) → Single s → Goes s Unasked (next_tvar s)
tvar_goes s i = with_room (Goes s Unasked) (tvar_room s) (λ e. e_ok (left_same (with_var_nodes s) i, tt)) (e_refused seven)

-- ---- join

left_insert : {s : State} → Single s → (v t : ℕ) → Left s (insert s v t)
left_insert {s} i v t = left_same (insert_nodes s v t) i

bind_tvar_goes : (s : State) → Single s → (loc v ty : ℕ) → Goes s Unasked (join_bind_tvar s loc v ty)
unfolding join_bind_tvar
bind_tvar_goes s i loc v ty =
    either (not (check_num_tvar s v ty)) (λ c. e_ok (left_refl i, tt)) (λ c. either (used (suc ty) s v ty) (λ u. e_err i) (λ u. either (is_anything (type_at s ty)) (λ a. e_ok (left_refl i, tt)) (λ a. e_ok (left_insert i v ty, tt))))

type_of_goes : (s : State) → Single s → (loc id : ℕ) → Goes s Unasked (type_of s loc id)
unfolding type_of
type_of_goes s i loc id = maybe (get s id) (goes_map (λ a l p. tt) (sp_goes s i loc Anything tt)) (λ t. e_ok (left_refl i, tt))

shown_goes : (s : State) → Single s → (ty id : ℕ) → Goes s Unasked (shown s ty id)
unfolding shown
shown_goes s i ty id = either (is_anything (type_at s ty)) (λ a. goes_map (λ a l p. tt) (sp_goes s i (loc_of s ty) (Var id) tt)) (λ a. e_ok (left_refl i, tt))

-- a join of plain nodes is plain
abbrev pub Joined : State → ℕ → ℕ → State × ℕ → Type 0
Joined s l r a = Plain s l → Plain s r → IsPlain a

module _ (J : JoinImpl) (h : (s : State) → Single s → (c : TypingCase) (l r : ℕ) → Goes s (Joined s l r) (J s c l r)) where
  merge_goes : (s : State) → Single s → (c : TypingCase) (loc1 id1 loc2 id2 : ℕ) → Goes s IsPlain (join_tvar J s c loc1 id1 loc2 id2)
  unfolding join_tvar
  merge_goes s i c loc1 id1 loc2 id2 =
      let e1 = forward_tvar s id1 in
      let e2 = forward_tvar s id2 in
      goes _ (type_of_goes s i loc1 e1) (λ x1 l1 p1.
      goes _ (type_of_goes x1.0 l1.single loc2 e2) (λ x2 l2 p2.
      goes _ (tvar_goes x2.0 l2.single) (λ f l3 p3.
      let marked = left_same (merge_nodes f.0 (num_loc s e1) (num_loc s e2) _ f.1) l3.single in
      goes_from marked (
      goes _ (sp_goes _ marked.single loc1 (Var f.1) tt) (λ v1 l4 p4.
      goes _ (sp_goes v1.0 l4.single loc2 (Var f.1) tt) (λ v2 l5 p5.
      let b1 = left_insert l5.single e1 v1.1 in
      let b2 = left_trans b1 (left_insert b1.single e2 v2.1) in
      goes_from b2 (
      goes _ (h _ b2.single c x1.1 x2.1) (λ n l6 p6.
      maybe (get n.0 f.1)
      (goes _ (bind_tvar_goes n.0 l6.single loc2 f.1 n.1) (λ k l7 p7.
      either k.1 (λ t. e_ok (left_refl l7.single, l7.kept _ (l6.kept _ (b2.kept _ (p5 refl))))) (λ t.
      goes _ (shown_goes k.0 l7.single x1.1 id1) (λ y1 l8 p8. goes _ (shown_goes y1.0 l8.single x2.1 id2) (λ y2 l9 p9. e_err l9.single)))))
      (λ t. e_err l6.single)))))))))

  types_goes : (s : State) → Single s → (c : TypingCase) (ls rs : List ℕ) → Goes s Unasked (join_impl_types J s c ls rs)
  unfolding join_impl_types
  types_goes s i c [] rs = e_ok (left_refl i, tt)
  types_goes s i c (x ∷ ls) [] = e_ok (left_refl i, tt)
  types_goes s i c (x ∷ ls) (y ∷ rs) = goes _ (h s i c x y) (λ t l1 p1. goes _ (types_goes t.0 l1.single c ls rs) (λ ts l2 p2. e_ok (left_refl l2.single, tt)))

  module _ (s : State) (i : Single s) (c : TypingCase) (lhs rhs : ℕ) where
    -- the left type, the right type, or a node that is no reference
    gives_l : Goes s (Joined s lhs rhs) (ok (s, lhs))
    gives_l = e_ok (left_refl i, λ p q. p)

    gives_r : Goes s (Joined s lhs rhs) (ok (s, rhs))
    gives_r = e_ok (left_refl i, λ p q. q)

    gives_plain : {m : Result (State × ℕ)} → Goes s IsPlain m → Goes s (Joined s lhs rhs) m
    gives_plain g = goes_map (λ a l p x y. p) g

    refs_goes : (m1 : Bool) (t1 : ℕ) (m2 : Bool) (t2 : ℕ) → type_at s lhs ≡ Ref m1 t1 → type_at s rhs ≡ Ref m2 t2 → (o : Option Bool) → Goes s (Joined s lhs rhs) (join_refs J s c lhs rhs m1 t1 m2 t2 o)
    unfolding join_refs
    refs_goes m1 t1 m2 t2 e d None = e_err i
    refs_goes m1 t1 m2 t2 e d (Some m) =
        goes _ (h s i c t1 t2) (λ x l p. goes_map (λ a l p q r. plain_no_ref q m1 t1 e) (sp_goes x.0 l.single _ (Ref m x.1) (p (under i lhs m1 t1 e) (under i rhs m2 t2 d))))

    applies_goes : (k1 : AbilityMark) (n1 : TypeName) (tys1 : List ℕ) (k2 : AbilityMark) (n2 : TypeName) (tys2 : List ℕ) → Goes s IsPlain (join_applies J s c lhs rhs k1 n1 tys1 k2 n2 tys2)
    unfolding join_applies
    applies_goes k1 n1 tys1 k2 n2 tys2 =
        either (is_multiple n1 && is_multiple n2 && not (same_name n1 n2)) (λ t. e_err i) (λ t.
        either (not (same_name n1 n2)) (λ t. e_err i) (λ t.
        either (not (same_mark k1 k2)) (λ t. e_refused ten) (λ t.
        goes _ (types_goes s i c tys1 tys2) (λ x l p. goes_map (λ a l p. p refl) (sp_goes x.0 l.single _ (Apply k2 n2 x.1) tt)))))

    unbound_goes : (var id other : ℕ) → (Plain s lhs → Plain s rhs → Plain s var) → Goes s (Joined s lhs rhs) (join_unbound s lhs rhs var id other)
    unfolding join_unbound
    unbound_goes var id other f = goes _ (bind_tvar_goes s i (loc_of s var) id other) (λ x l p. either x.1 (λ t. e_ok (left_refl l.single, λ p q. l.kept var (f p q))) (λ t. e_err l.single))

    -- a variable that is bound to a type takes part in a merge: another stands for the other type
    merged_goes : {f : State × ℕ → Result (State × ℕ)} → ((x : State × ℕ) → Left s x.0 → Goes x.0 IsPlain (f x)) → Goes s (Joined s lhs rhs) (next_tvar s >>= f)
    merged_goes {f} g = gives_plain (goes f (tvar_goes s i) (λ x l p. g x l))

    arm_goes : {a : Arm} → Took (type_at s lhs) (type_at s rhs) a → Goes s (Joined s lhs rhs) (join_arm J s c lhs rhs a)
    unfolding join_arm
    arm_goes (took_any_l e) = gives_r
    arm_goes (took_any_r e) = gives_l
    arm_goes (took_units e d) = gives_r
    arm_goes (took_refs {m1 = m1} {m2 = m2} {t1 = t1} {t2 = t2} e d) = refs_goes m1 t1 m2 t2 e d (join_mut c m1 m2)
    arm_goes (took_params {id1 = x} {id2 = y} e d) = either (eqb x y) (λ t. gives_r) (λ t. e_err i)
    arm_goes (took_applies {k1 = k1} {k2 = k2} {n1 = n1} {n2 = n2} {tys1 = tys1} {tys2 = tys2} e d) = gives_plain (applies_goes k1 n1 tys1 k2 n2 tys2)
    arm_goes (took_vars {id1 = x} {id2 = y} e d) = either (eqb x y) (λ t. gives_r) (λ t. gives_plain (merge_goes s i c _ x _ y))
    arm_goes (took_var_l {id = id} e d) = maybe (get s id) (unbound_goes lhs id rhs (λ p q. p)) (λ t.
        merged_goes (λ x l. let b = left_insert l.single x.1 rhs in goes_from b (merge_goes _ b.single c _ id _ x.1)))
    arm_goes (took_var_r {id = id} e d) = maybe (get s id) (unbound_goes rhs id lhs (λ p q. q)) (λ t.
        merged_goes (λ x l. let b = left_insert l.single x.1 lhs in goes_from b (merge_goes _ b.single c _ x.1 _ id)))
    arm_goes (took_error_l e d) = gives_r
    arm_goes (took_error_r e d) = gives_l
    arm_goes took_others = e_err i

pub join_goes : (n : ℕ) (s : State) → Single s → (c : TypingCase) (lhs rhs : ℕ) → Goes s (Joined s lhs rhs) (join_impl n s c lhs rhs)
unfolding join_impl
join_goes zero s i c lhs rhs = e_refused eight
join_goes (suc n) s i c lhs rhs = arm_goes (λ s c l r. join_impl n s c l r) (λ s i c l r. join_goes n s i c l r) s i c lhs rhs (took (type_at s lhs) (type_at s rhs))
