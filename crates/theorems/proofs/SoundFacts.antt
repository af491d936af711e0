-- What the test for a sound state gives. Assumes nothing.
-- First laws of tests and of lists that pass a test; then, test by test, what a node, a constraint and a variable of a sound state are.
use mathlib.Core.Path.{◌≡◌, refl, sym, ap, ◌∙◌, subst}
use mathlib.Core.Bool.{Bool, true, false, not, ◌&&◌}
use mathlib.Core.List.{List, [], ◌∷◌, Memᴰ}
use mathlib.Core.Logic.{inl, inr}
use Rattle.std.specs.Prelude.{Option, None, Some}
use Prim.Native.Nat.{ℕ, zero, suc, ◌+◌, ◌≤◌, ◌<◌}
use native.Mathlib.Omega.{arith}
use lib.ListN.{length, get_or, drop, length-take, length-drop}
use lib.Dec.{T, leb, ltb, eqb, leb→le, ltb→lt, eqb→eq}
use Rattle.definition.specs.Types.{TypeName, AbilityMark, Shape, UnitType, Ref, Param, Apply, Var, Anything, UnresolvedError, Places, unbound, State, Constraint, AbilityConstraint, NumericConstraint, BitsConstraint, OrderedConstraint, BaseTypeConstraint, SingleTypeConstraint, Cell}
use Rattle.definition.specs.Store.{nowhere, count, taken, node, type_at, with_args, args_at, get, all_of, num_loc, need_of}
use Rattle.definition.specs.Subst.{is_anything, parts, next_of, forward_tvar}
use Rattle.definition.specs.Trees.{arity, mark_fits, is_mark, is_name}
use Rattle.definition.specs.Sound.{all_at, counts_fit, smaller_than, parts_smaller, is_u32, places_fit, shape_allowed, node_allowed, binding_allowed, numeric_allowed}
use Rattle.definition.specs.Sound.{cell_allowed, at_node, constraint_allowed, struct_allowed, fields_allowed, no_anything, no_binding_anything, chain_ends, chains_end, sound, need_allowed}
use Rattle.theorems.proofs.Laws.{PlacesIn, type_on, get_beyond, NeedsIn}
use Rattle.theorems.proofs.DemandTracks.{never}
use Rattle.theorems.proofs.DemandOrder.{All, Sound}
use mathlib.Core.List.Memᴰ

-- ---- tests

pub and_l : (a b : Bool) → a && b ≡ true → a ≡ true
and_l true b e = refl
and_l false b e = e

pub and_r : (a b : Bool) → a && b ≡ true → b ≡ true
and_r true b e = e
and_r false b e = never (cc)

pub test : {b : Bool} → b ≡ true → T b
test {b} e = subst (λ (x : Bool). T x) (sym e) tt

pub unnot : (b : Bool) → not b ≡ true → b ≡ false
unnot true e = never (cc)
unnot false e = refl

pub not_false : (b : Bool) → not b ≡ false → b ≡ true
not_false true e = refl
not_false false e = never (cc)

pub elim_l : (b c : Bool) → (elim b [ true ↦ c | false ↦ false ]) ≡ true → b ≡ true
elim_l true c e = refl
elim_l false c e = e

pub elim_r : (b c : Bool) → (elim b [ true ↦ c | false ↦ false ]) ≡ true → c ≡ true
elim_r true c e = e
elim_r false c e = never (cc)

module _ {A : Type 0} where
  pub of_member : (f : A → Bool) (l : List A) → all_of f l ≡ true → (a : A) → Memᴰ a l → f a ≡ true
  unfolding all_of
  of_member f [] e a m = absurd (Memᴰ.not-nil m)
  of_member f (x ∷ l) e a m = elim (Memᴰ.cases_cons m) [ inl d ↦ rw d (elim_l (f x) (all_of f l) e) | inr n ↦ of_member f l (elim_r (f x) (all_of f l) e) a n ]

  pub of_each : (f : A → Bool) (d : A) (l : List A) → all_of f l ≡ true → (i : ℕ) → i < length l → f (get_or l i d) ≡ true
  unfolding all_of
  of_each f d [] e i h = absurd (omega arith)
  of_each f d (a ∷ l) e zero h = elim_l (f a) (all_of f l) e
  of_each f d (a ∷ l) e (suc i) h = of_each f d l (elim_r (f a) (all_of f l) e) i (omega arith)

  pub at_each : (f : ℕ → A → Bool) (d : A) (k : ℕ) (l : List A) → all_at f k l ≡ true → (i : ℕ) → i < length l → f (k + i) (get_or l i d) ≡ true
  unfolding all_at
  at_each f d k [] e i h = absurd (omega arith)
  at_each f d k (a ∷ l) e zero h = let z : k + 0 ≡ k = omega arith in rw z (elim_l (f k a) (all_at f (suc k) l) e)
  at_each f d k (a ∷ l) e (suc i) h = let z : k + suc i ≡ suc k + i = omega arith in rw z (at_each f d (suc k) l (elim_r (f k a) (all_at f (suc k) l) e) i (omega arith))

  pub at_place : (f : ℕ → A → Bool) (d : A) (l : List A) → all_at f 0 l ≡ true → (i : ℕ) → i < length l → f i (get_or l i d) ≡ true
  at_place f d l e i h = let z : 0 + i ≡ i = omega arith in rw z at (at_each f d 0 l e i h)

pub all_below : (t : ℕ) (ps : List ℕ) → smaller_than t ps ≡ true → All (λ p. p < t) ps
unfolding smaller_than all_of
all_below t [] e = tt
all_below t (p ∷ ps) e = (ltb→lt p t (test (elim_l (ltb p t) (smaller_than t ps) e)), all_below t ps (elim_r (ltb p t) (smaller_than t ps) e))

-- ---- a node

pub length_args : (s : State) (p : Places) → p.first + p.many ≤ length s.args → length (args_at s p) ≡ p.many
unfolding args_at
length_args s p h = length-take p.many (drop p.first s.args) ∙ omega (arith, length-drop p.first s.args)

shape_places : (s : State) (x : Shape Places) → shape_allowed s x ≡ true → PlacesIn s x
unfolding shape_allowed places_fit
shape_places s UnitType e = tt
shape_places s (Ref m t) e = tt
shape_places s (Param id a) e = tt
shape_places s (Apply k n p) e = leb→le (p.first + p.many) (length s.args) (test (and_r (eqb p.many (arity s n)) _ (and_r (is_mark k && is_name s n && mark_fits k n) _ e)))
shape_places s (Var v) e = tt
shape_places s Anything e = tt
shape_places s UnresolvedError e = tt

shape_var : (s : State) (x : Shape Places) → shape_allowed s x ≡ true → (v : ℕ) → with_args s x ≡ Var v → v < taken s
unfolding shape_allowed with_args
shape_var s UnitType e v d = never (cc)
shape_var s (Ref m t) e v d = never (cc)
shape_var s (Param id a) e v d = never (cc)
shape_var s (Apply k n p) e v d = never (cc)
shape_var s (Var w) e v d = let c : w ≡ v = cc in omega (arith, ltb→lt w (taken s) (test e))
shape_var s Anything e v d = never (cc)
shape_var s UnresolvedError e v d = never (cc)

shape_arity : (s : State) (x : Shape Places) → shape_allowed s x ≡ true → (k : AbilityMark) (n : TypeName) (ps : List ℕ) → with_args s x ≡ Apply k n ps → length ps ≡ arity s n
unfolding shape_allowed places_fit with_args
shape_arity s UnitType e k n ps d = never (cc)
shape_arity s (Ref m t) e k n ps d = never (cc)
shape_arity s (Param id a) e k n ps d = never (cc)
shape_arity s (Apply k' n' p) e k n ps d =
    let fits = and_r (is_mark k' && is_name s n' && mark_fits k' n') _ e in
    let many : p.many ≡ arity s n' = eqb→eq p.many (arity s n') (test (and_l (eqb p.many (arity s n')) (leb (p.first + p.many) (length s.args)) fits)) in
    let len = length_args s p (leb→le (p.first + p.many) (length s.args) (test (and_r (eqb p.many (arity s n')) _ fits))) in
    let c : n' ≡ n = cc in
    let g : args_at s p ≡ ps = cc in
    sym (ap length g) ∙ len ∙ many ∙ ap (λ (m : TypeName). arity s m) c
shape_arity s (Var w) e k n ps d = never (cc)
shape_arity s Anything e k n ps d = never (cc)
shape_arity s UnresolvedError e k n ps d = never (cc)

-- ---- a constraint

on_node : (s : State) (c : Constraint) → constraint_allowed s c ≡ true → type_on c < count s
unfolding constraint_allowed at_node
on_node s c e = ltb→lt (type_on c) (count s) (test (go c e))
  where
    at : (loc ty : ℕ) → at_node s loc ty ≡ true → ltb ty (count s) ≡ true
    at loc ty e = and_r (is_u32 loc) _ e

    go : (c : Constraint) → constraint_allowed s c ≡ true → ltb (type_on c) (count s) ≡ true
    go (AbilityConstraint loc ty abilities) e = at loc ty (and_l _ _ e)
    go (NumericConstraint loc ty) e = at loc ty e
    go (BitsConstraint loc ty) e = at loc ty e
    go (OrderedConstraint loc ty) e = at loc ty e
    go (BaseTypeConstraint loc ty) e = at loc ty e
    go (SingleTypeConstraint loc ty) e = at loc ty e

-- ---- the whole

module _ (s : State) (h : sound s ≡ true) where
  pub smaller : parts_smaller s ≡ true
  unfolding sound
  smaller = and_r (counts_fit s) _ (and_l _ (fields_allowed s) (and_l _ (no_binding_anything s) (and_l _ (chains_end s) h)))

  pub fields : fields_allowed s ≡ true
  unfolding sound
  fields = and_r (counts_fit s && parts_smaller s) _ (and_l _ (no_binding_anything s) (and_l _ (chains_end s) h))

  pub bindings : no_binding_anything s ≡ true
  unfolding sound
  bindings = and_r (counts_fit s && parts_smaller s && fields_allowed s) _ (and_l _ (chains_end s) h)

  pub ends : chains_end s ≡ true
  unfolding sound
  ends = and_r (counts_fit s && parts_smaller s && fields_allowed s && no_binding_anything s) _ h

  pub shape : (i : ℕ) → i < count s → shape_allowed s (node s i).value ≡ true
  unfolding fields_allowed node_allowed node
  shape i l = and_r (is_u32 (node s i).loc) _ (of_each (λ n. node_allowed s n) nowhere s.nodes
      (and_l _ (all_of (λ c. cell_allowed s c) s.vars) (and_l _ (all_of (λ c. constraint_allowed s c) s.constraints) (and_l _ (all_of (λ d. struct_allowed d) s.structs) fields))) i l)

  pub cell : (v : ℕ) → v < taken s → cell_allowed s (get_or s.vars v unbound) ≡ true
  unfolding fields_allowed
  cell v l = of_each (λ c. cell_allowed s c) unbound s.vars
      (and_r (all_of (λ n. node_allowed s n) s.nodes) _ (and_l _ (all_of (λ c. constraint_allowed s c) s.constraints) (and_l _ (all_of (λ d. struct_allowed d) s.structs) fields))) v l

  pub bound_taken : (v t : ℕ) → get s v ≡ Some t → v < taken s
  bound_taken v t e = elim (native.Mathlib.Decide.dec_lt v (taken s)) [ yes l ↦ l | no l ↦ never (let g = get_beyond s v (omega arith) in cc) ]

  pub in_nodes : (o : Option ℕ) (t : ℕ) → o ≡ Some t → binding_allowed s o ≡ true → t < count s
  unfolding binding_allowed
  in_nodes None t e b = never (cc)
  in_nodes (Some u) t e b = let c : u ≡ t = cc in omega (arith, ltb→lt u (count s) (test b))

  pub not_any : (o : Option ℕ) (t : ℕ) → o ≡ Some t → no_anything s o ≡ true → is_anything (type_at s t) ≡ false
  unfolding no_anything
  not_any None t e b = never (cc)
  not_any (Some u) t e b = let c : u ≡ t = cc in rw c at (unnot (is_anything (type_at s u)) b)

  pub stops : (v : ℕ) (o : Option ℕ) → next_of s (forward_tvar s v) ≡ o → chain_ends s v ≡ true → next_of s (forward_tvar s v) ≡ None
  unfolding chain_ends
  stops v None e b = e
  stops v (Some w) e b = never (let c : false ≡ true = rw (e, chain_ends) at b in cc)

  pub need_in : (v : ℕ) → need_allowed (num_loc s v) (need_of s v) ≡ true
  unfolding cell_allowed need_allowed num_loc need_of
  need_in v = elim (native.Mathlib.Decide.dec_lt v (taken s)) [
    | yes l ↦ and_r (binding_allowed s (get_or s.vars v unbound).binding && numeric_allowed (get_or s.vars v unbound).numeric) _ (cell v l)
    | no l ↦ let e = lib.ListN.get_or-eq_default s.vars unbound {n = v} (omega arith) in ap (λ (c : Cell). need_allowed c.numeric c.need) e
  ]

  needs : NeedsIn s
  unfolding NeedsIn
  needs = need_in

  pub facts : Sound (arity s) s
  unfolding parts_smaller fields_allowed no_binding_anything chains_end cell_allowed get type_at node
  facts = record {
    places_in = λ i l. shape_places s (node s i).value (shape i l);
    parts_below = λ i l. all_below i (parts (type_at s i)) (at_place (λ t n. smaller_than t (parts (with_args s n.value))) nowhere s.nodes smaller i l);
    var_in = λ i v l e. shape_var s (node s i).value (shape i l) v e;
    arity = λ i k n ps l e. shape_arity s (node s i).value (shape i l) k n ps e;
    bind_in = λ v t e. in_nodes (get s v) t e (and_l _ (numeric_allowed (get_or s.vars v unbound).numeric) (and_l _ (need_allowed (get_or s.vars v unbound).numeric (get_or s.vars v unbound).need) (cell v (bound_taken v t e))));
    bind_known = λ v t e. not_any (get s v) t e (of_each (λ c. no_anything s c.binding) unbound s.vars bindings v (bound_taken v t e));
    chains = λ v l. stops v (next_of s (forward_tvar s v)) refl (at_place (λ v c. chain_ends s v) unbound s.vars ends v l);
    constraints_on = record { on = λ c m. on_node s c (of_member (λ c. constraint_allowed s c) s.constraints (and_r (all_of (λ n. node_allowed s n) s.nodes && all_of (λ c. cell_allowed s c) s.vars) _ (and_l _ (all_of (λ d. struct_allowed d) s.structs) fields)) c m) };
    needs_in = needs;
  }
