-- The test for a sound state passes just where the state is sound. Assumes nothing.
-- `IsSound` says it in words. One way each test gives its field, the other each field passes its test; the lists by their members.
use mathlib.Core.Path.{◌≡◌, refl, sym, ap, ◌∙◌}
use mathlib.Core.Logic.{◌≢◌, ◌↔◌}
use mathlib.Core.Bool.{Bool, true, false, not, ◌&&◌}
use mathlib.Core.List.{List, [], ◌∷◌, Memᴰ}
use Rattle.std.specs.Prelude.{Option, None, Some}
use Prim.Native.Nat.{ℕ, suc, ◌+◌, ◌≤◌, ◌<◌}
use native.Mathlib.Omega.{arith}
use lib.ListN.{length, get_or}
use lib.Dec.{T, leb, ltb, leb→le, le→leb, lt→ltb, eqb→eq}
use Rattle.definition.specs.Types.{Anything, UnitType, Ref, Param, Apply, Var, UnresolvedError, TypeValue, Cell, unbound, State, max_nodes, max_args, max_vars, max_constraints, max_structs, Constraint, Struct}
use Rattle.definition.specs.Store.{nowhere, count, taken, node, type_at, with_args, get, num_loc, all_of, need_of}
use Rattle.definition.specs.Subst.{is_anything, parts, next_of, forward_tvar}
use Rattle.definition.specs.Sound.{all_at, counts_fit, smaller_than, parts_smaller, is_u32, node_allowed, binding_allowed, numeric_allowed, cell_allowed, constraint_allowed, struct_allowed, fields_allowed, no_anything, no_binding_anything, chain_ends, chains_end, sound, need_allowed}
use Rattle.theorems.proofs.DemandTracks.{never}
use Rattle.theorems.proofs.TotalFinite.{all_at as at_member}
use Rattle.theorems.proofs.SoundFacts.{and_l, and_r, test, of_member, of_each, at_place, all_below, smaller, fields, bindings, ends, cell, bound_taken, in_nodes, not_any, stops, need_in}

-- ---- a sound state in words

pub record IsSound (s : State) : Type 0 where
  -- counts within limits
  pub few_nodes : count s ≤ max_nodes
  pub few_args : length s.args ≤ max_args
  pub few_vars : taken s ≤ max_vars
  pub few_constraints : length s.constraints ≤ max_constraints
  pub few_structs : length s.structs ≤ max_structs
  -- each node's parts have smaller numbers
  pub smaller_parts : (t p : ℕ) → t < count s → Memᴰ p (parts (type_at s t)) → p < t
  -- fields are as a record allows
  pub node_fields : (t : ℕ) → t < count s → node_allowed s (node s t) ≡ true
  pub binding_fields : (v t : ℕ) → get s v ≡ Some t → t < count s
  pub numeric_fields : (v loc : ℕ) → num_loc s v ≡ Some loc → is_u32 loc ≡ true
  -- a mark needs 256 bits at most; without a mark none is needed
  pub need_fields : (v loc : ℕ) → num_loc s v ≡ Some loc → need_of s v ≤ 256
  pub no_need_fields : (v : ℕ) → num_loc s v ≡ None → need_of s v ≡ 0
  pub constraint_fields : (c : Constraint) → Memᴰ c s.constraints → constraint_allowed s c ≡ true
  pub struct_fields : (d : Struct) → Memᴰ d s.structs → struct_allowed d ≡ true
  -- no binding is `_`
  pub bindings_not_anything : (v t : ℕ) → get s v ≡ Some t → type_at s t ≢ Anything
  -- following bindings from variable to variable always ends
  pub ending_chains : (v : ℕ) → v < taken s → next_of s (forward_tvar s v) ≡ None

-- ---- tests

pub untest : {b : Bool} → T b → b ≡ true
untest {b = true} t = refl
untest {b = false} t = absurd t

pub and : {a b : Bool} → a ≡ true → b ≡ true → a && b ≡ true
and {a} {b} p q = rw (p, q) refl

pub elim_and : (b c : Bool) → b ≡ true → c ≡ true → (elim b [ true ↦ c | false ↦ false ]) ≡ true
elim_and true c p q = q
elim_and false c p q = p

pub le_test : (m n : ℕ) → m ≤ n → leb m n ≡ true
le_test m n h = untest (le→leb m n h)

pub lt_test : (m n : ℕ) → m < n → ltb m n ≡ true
lt_test m n h = untest (lt→ltb m n h)

module _ {A : Type 0} where
  members : (f : A → Bool) (l : List A) → ((a : A) → Memᴰ a l → f a ≡ true) → all_of f l ≡ true
  unfolding all_of
  members f [] h = refl
  members f (x ∷ l) h = elim_and (f x) (all_of f l) (h x (Memᴰ.head refl)) (members f l (λ a m. h a (Memᴰ.tail m)))

  each_of : (f : A → Bool) (d : A) (l : List A) → ((i : ℕ) → i < length l → f (get_or l i d) ≡ true) → all_of f l ≡ true
  unfolding all_of
  each_of f d [] h = refl
  each_of f d (x ∷ l) h = elim_and (f x) (all_of f l) (h 0 (omega arith)) (each_of f d l (λ i j. h (suc i) (omega arith)))

  each_from : (f : ℕ → A → Bool) (d : A) (k : ℕ) (l : List A) → ((i : ℕ) → i < length l → f (k + i) (get_or l i d) ≡ true) → all_at f k l ≡ true
  unfolding all_at
  each_from f d k [] h = refl
  each_from f d k (x ∷ l) h = elim_and (f k x) (all_at f (suc k) l) (let z : k + 0 ≡ k = omega arith in rw z at (h 0 (omega arith)))
      (each_from f d (suc k) l (λ i j. let z : suc k + i ≡ k + suc i = omega arith in rw z (h (suc i) (omega arith))))

  each_at : (f : ℕ → A → Bool) (d : A) (l : List A) → ((i : ℕ) → i < length l → f i (get_or l i d) ≡ true) → all_at f 0 l ≡ true
  each_at f d l h = each_from f d 0 l (λ i j. let z : 0 + i ≡ i = omega arith in rw z (h i j))

-- ---- from the test

pub not_anything : (L : TypeValue) → is_anything L ≡ false → L ≢ Anything
unfolding is_anything
not_anything L e d = never (let z : true ≡ false = rw d at e in cc)

pub numeric_u32 : (o : Option ℕ) (loc : ℕ) → o ≡ Some loc → numeric_allowed o ≡ true → is_u32 loc ≡ true
unfolding numeric_allowed
numeric_u32 None loc e b = never (cc)
numeric_u32 (Some u) loc e b = let c : u ≡ loc = cc in rw c at b

pub marked_need : (o : Option ℕ) (n loc : ℕ) → o ≡ Some loc → need_allowed o n ≡ true → n ≤ 256
unfolding need_allowed
marked_need None n loc e b = never (cc)
marked_need (Some u) n loc e b = leb→le n 256 (test b)

pub unmarked_need : (o : Option ℕ) (n : ℕ) → o ≡ None → need_allowed o n ≡ true → n ≡ 0
unfolding need_allowed
unmarked_need None n e b = eqb→eq n 0 (test b)
unmarked_need (Some u) n e b = never (cc)

module _ (s : State) (h : sound s ≡ true) where
  counts : counts_fit s ≡ true
  unfolding sound
  counts = and_l _ (parts_smaller s) (and_l _ (fields_allowed s) (and_l _ (no_binding_anything s) (and_l _ (chains_end s) h)))

  num_taken : (v loc : ℕ) → num_loc s v ≡ Some loc → v < taken s
  unfolding num_loc
  num_taken v loc e = elim (native.Mathlib.Decide.dec_lt v (taken s)) [ yes l ↦ l | no l ↦ never (let g = lib.ListN.get_or-eq_default s.vars unbound {n = v} (omega arith) in let z : None ≡ Some loc = sym (ap (λ (c : Cell). c.numeric) g) ∙ e in cc) ]

  says : IsSound s
  unfolding counts_fit parts_smaller fields_allowed cell_allowed no_binding_anything chains_end get num_loc need_of type_at node
  says = record {
    few_nodes = leb→le (count s) max_nodes (test (and_l (leb (count s) max_nodes) (leb (length s.args) max_args) c3));
    few_args = leb→le (length s.args) max_args (test (and_r (leb (count s) max_nodes) _ c3));
    few_vars = leb→le (taken s) max_vars (test (and_r (leb (count s) max_nodes && leb (length s.args) max_args) _ c2));
    few_constraints = leb→le (length s.constraints) max_constraints (test (and_r (leb (count s) max_nodes && leb (length s.args) max_args && leb (taken s) max_vars) _ c1));
    few_structs = leb→le (length s.structs) max_structs (test (and_r (leb (count s) max_nodes && leb (length s.args) max_args && leb (taken s) max_vars && leb (length s.constraints) max_constraints) _ counts));
    smaller_parts = λ t p i m. at_member (λ q. q < t) (parts (type_at s t)) (all_below t (parts (type_at s t)) (at_place (λ t n. smaller_than t (parts (with_args s n.value))) nowhere s.nodes (smaller s h) t i)) p m;
    node_fields = λ t i. of_each (λ n. node_allowed s n) nowhere s.nodes f_nodes t i;
    binding_fields = λ v t e. in_nodes s h (get s v) t e (and_l _ (numeric_allowed (get_or s.vars v unbound).numeric) (and_l _ (need_allowed (get_or s.vars v unbound).numeric (get_or s.vars v unbound).need) (cell s h v (bound_taken s h v t e))));
    numeric_fields = λ v loc e. numeric_u32 (num_loc s v) loc e (and_r (binding_allowed s (get_or s.vars v unbound).binding) _ (and_l _ (need_allowed (get_or s.vars v unbound).numeric (get_or s.vars v unbound).need) (cell s h v (num_taken v loc e))));
    need_fields = λ v loc e. marked_need (num_loc s v) (need_of s v) loc e (need_in s h v);
    no_need_fields = λ v e. unmarked_need (num_loc s v) (need_of s v) e (need_in s h v);
    constraint_fields = of_member (λ c. constraint_allowed s c) s.constraints f_constraints;
    struct_fields = of_member (λ d. struct_allowed d) s.structs f_structs;
    bindings_not_anything = λ v t e. not_anything (type_at s t) (not_any s h (get s v) t e (of_each (λ c. no_anything s c.binding) unbound s.vars (bindings s h) v (bound_taken s h v t e)));
    ending_chains = λ v l. stops s h v (next_of s (forward_tvar s v)) refl (at_place (λ v c. chain_ends s v) unbound s.vars (ends s h) v l);
  }
    where
      c1 : leb (count s) max_nodes && leb (length s.args) max_args && leb (taken s) max_vars && leb (length s.constraints) max_constraints ≡ true
      c1 = and_l _ (leb (length s.structs) max_structs) counts

      c2 : leb (count s) max_nodes && leb (length s.args) max_args && leb (taken s) max_vars ≡ true
      c2 = and_l _ (leb (length s.constraints) max_constraints) c1

      c3 : leb (count s) max_nodes && leb (length s.args) max_args ≡ true
      c3 = and_l _ (leb (taken s) max_vars) c2

      f_nodes : all_of (λ n. node_allowed s n) s.nodes ≡ true
      f_nodes = and_l _ (all_of (λ c. cell_allowed s c) s.vars) (and_l _ (all_of (λ c. constraint_allowed s c) s.constraints) (and_l _ (all_of (λ d. struct_allowed d) s.structs) (fields s h)))

      f_constraints : all_of (λ c. constraint_allowed s c) s.constraints ≡ true
      f_constraints = and_r (all_of (λ n. node_allowed s n) s.nodes && all_of (λ c. cell_allowed s c) s.vars) _ (and_l _ (all_of (λ d. struct_allowed d) s.structs) (fields s h))

      f_structs : all_of (λ d. struct_allowed d) s.structs ≡ true
      f_structs = and_r (all_of (λ n. node_allowed s n) s.nodes && all_of (λ c. cell_allowed s c) s.vars && all_of (λ c. constraint_allowed s c) s.constraints) _ (fields s h)

-- ---- to the test

module _ (s : State) (h : IsSound s) where
  binding_test : (v : ℕ) (o : Option ℕ) → get s v ≡ o → binding_allowed s o ≡ true
  unfolding binding_allowed
  binding_test v None e = refl
  binding_test v (Some t) e = lt_test t (count s) (h.binding_fields v t e)

  numeric_test : (v : ℕ) (o : Option ℕ) → num_loc s v ≡ o → numeric_allowed o ≡ true
  unfolding numeric_allowed
  numeric_test v None e = refl
  numeric_test v (Some loc) e = h.numeric_fields v loc e

  need_test : (v : ℕ) (o : Option ℕ) → num_loc s v ≡ o → need_allowed o (need_of s v) ≡ true
  unfolding need_allowed
  need_test v None e = rw (h.no_need_fields v e) refl
  need_test v (Some loc) e = le_test (need_of s v) 256 (h.need_fields v loc e)

  anything_test : (L : TypeValue) → L ≢ Anything → not (is_anything L) ≡ true
  unfolding is_anything
  anything_test UnitType d = refl
  anything_test (Ref m t) d = refl
  anything_test (Param id a) d = refl
  anything_test (Apply k n ts) d = refl
  anything_test (Var v) d = refl
  anything_test Anything d = absurd (d refl)
  anything_test UnresolvedError d = refl

  known_test : (v : ℕ) (o : Option ℕ) → get s v ≡ o → no_anything s o ≡ true
  unfolding no_anything
  known_test v None e = refl
  known_test v (Some t) e = anything_test (type_at s t) (h.bindings_not_anything v t e)

  smaller_test : (t : ℕ) (ps : List ℕ) → ((p : ℕ) → Memᴰ p ps → p < t) → smaller_than t ps ≡ true
  unfolding smaller_than
  smaller_test t ps f = members (λ p. ltb p t) ps (λ p m. lt_test p t (f p m))

  chain_test : (v : ℕ) → next_of s (forward_tvar s v) ≡ None → chain_ends s v ≡ true
  unfolding chain_ends
  chain_test v e = rw (e, chain_ends) refl

  passes : sound s ≡ true
  unfolding sound counts_fit parts_smaller fields_allowed cell_allowed no_binding_anything chains_end get num_loc need_of type_at node
  passes = and (and (and (and
      (and (and (and (and (le_test (count s) max_nodes h.few_nodes)
      (le_test (length s.args) max_args h.few_args))
      (le_test (taken s) max_vars h.few_vars))
      (le_test (length s.constraints) max_constraints h.few_constraints))
      (le_test (length s.structs) max_structs h.few_structs))
      (each_at (λ t n. smaller_than t (parts (with_args s n.value))) nowhere s.nodes (λ t i. smaller_test t (parts (type_at s t)) (λ p m. h.smaller_parts t p i m))))
      (and (and (and (each_of (λ n. node_allowed s n) nowhere s.nodes (λ t i. h.node_fields t i))
      (each_of (λ c. cell_allowed s c) unbound s.vars (λ v i. and (and (binding_test v (get s v) refl) (numeric_test v (num_loc s v) refl)) (need_test v (num_loc s v) refl))))
      (members (λ c. constraint_allowed s c) s.constraints h.constraint_fields))
      (members (λ d. struct_allowed d) s.structs h.struct_fields)))
      (each_of (λ c. no_anything s c.binding) unbound s.vars (λ v i. known_test v (get s v) refl)))
      (each_at (λ v c. chain_ends s v) unbound s.vars (λ v i. chain_test v (h.ending_chains v i)))

pub sound_is : (s : State) → (sound s ≡ true) ↔ IsSound s
sound_is s = (λ h. says s h, λ h. passes s h)
