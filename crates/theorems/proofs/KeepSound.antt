-- R-11: KP leaves a sound state (`cleared_sound`). Assumes nothing.
-- Field by field of IsSound, each row traced back to the kept one that it is (`nothing_else`).
use mathlib.Core.Path.{◌≡◌, refl, sym, ap, ◌∙◌, subst}
use mathlib.Core.Bool.{true, ◌&&◌}
use mathlib.Core.List.Memᴰ
use mathlib.Core.List.{List, map, Memᴰ}
use Rattle.std.specs.Prelude.{Option, None, Some}
use Prim.Native.Nat.{ℕ, ◌+◌, ◌≤◌, ◌<◌}
use native.Mathlib.Omega.{arith}
use native.Mathlib.Decide.{dec_lt}
use lib.ListN.{length, length-map, get_or-eq_default}
use lib.Dec.{eqb, leb→le}
use Rattle.definition.specs.Types.{TypeName, Multiple, Builtin, ModuleType, Shape, UnitType, Ref, Param, Apply, Var, Anything, UnresolvedError, TypeValue, Places, Cell, unbound, State}
use Rattle.definition.specs.Types.{Constraint, AbilityConstraint, NumericConstraint, BitsConstraint, OrderedConstraint, BaseTypeConstraint, SingleTypeConstraint}
use Rattle.definition.specs.Store.{count, taken, node, with_args, type_at, get, num_loc, need_of}
use Rattle.definition.specs.Subst.{parts, as_var, next_in, next_of, forward_tvar}
use Rattle.definition.specs.Instantiate.{struct_tparams}
use Rattle.definition.specs.Trees.{is_mark, is_name, mark_fits, arity}
use Rattle.definition.specs.Sound.{is_u32, places_fit, shape_allowed, node_allowed, at_node, constraint_allowed, sound}
use Rattle.definition.specs.Keep.{constraint_type, of_type, a_node, a_variable, Kept, of_a_constraint, its_binding, its_part, its_variable, slid, slid_shape, cleared}
use Rattle.theorems.proofs.DemandTracks.{never}
use Rattle.theorems.proofs.Laws.{get_beyond}
use Rattle.theorems.proofs.LawsChains.{Within, w_here, w_hop}
use Rattle.theorems.proofs.DemandOrder.{next_bound, chain_within}
use Rattle.theorems.proofs.DemandSteps.{chains_from}
use Rattle.theorems.proofs.SoundFacts.{facts, test, and_l, and_r}
use Rattle.theorems.proofs.Soundness.{IsSound, sound_is, and, le_test, lt_test}
use Rattle.theorems.proofs.KeepLists.{slid_run, slid_few}
use Rattle.theorems.proofs.KeepReach.{ranged, few_nodes as few_kept, few_vars as few_kept_vars, TakenAll}
use Rattle.theorems.proofs.KeepSame.{through, nodes_of, vars_of, places_of, new_node, new_var, new_binding, Same, NothingElse, cleared_same, nothing_else, node_listed, kept_below, kept_var_below, few_kept_places, row_left, places_risen, place_kept, has_its, count_left, taken_left, places_left, structs_left, constraints_left}
use Rattle.theorems.proofs.TotalChains.{chains_few}

pub parts_through : (f g : ℕ → ℕ) (x : TypeValue) → parts (through f g x) ≡ map g (parts x)
unfolding parts through
parts_through f g UnitType = refl
parts_through f g (Ref m t) = refl
parts_through f g (Param id a) = refl
parts_through f g (Apply k n ts) = refl
parts_through f g (Var v) = refl
parts_through f g Anything = refl
parts_through f g UnresolvedError = refl

not_any_through : (f g : ℕ → ℕ) (x : TypeValue) → through f g x ≡ Anything → x ≡ Anything
unfolding through
not_any_through f g UnitType e = never (cc)
not_any_through f g (Ref m t) e = never (cc)
not_any_through f g (Param id a) e = never (cc)
not_any_through f g (Apply k n ts) e = never (cc)
not_any_through f g (Var v) e = never (cc)
not_any_through f g Anything e = refl
not_any_through f g UnresolvedError e = never (cc)

unfoldable pub mapped : (ℕ → ℕ) → Option ℕ → Option ℕ
mapped f o = elim o [ None ↦ None | Some w ↦ Some (f w) ]

var_through : (f g : ℕ → ℕ) (x : TypeValue) → as_var (through f g x) ≡ mapped f (as_var x)
unfolding as_var through mapped
var_through f g UnitType = refl
var_through f g (Ref m t) = refl
var_through f g (Param id a) = refl
var_through f g (Apply k n ts) = refl
var_through f g (Var v) = refl
var_through f g Anything = refl
var_through f g UnresolvedError = refl

module _ (s : State) (listed : List ℕ) where
  name_left : (n : TypeName) → is_name (cleared s listed) n ≡ is_name s n
  unfolding is_name
  name_left (Multiple len) = refl
  name_left (Builtin b) = refl
  name_left (ModuleType m) = rw (structs_left s listed) refl

  arity_left : (n : TypeName) → arity (cleared s listed) n ≡ arity s n
  unfolding arity struct_tparams
  arity_left (Multiple len) = refl
  arity_left (Builtin b) = refl
  arity_left (ModuleType m) = rw (structs_left s listed) refl

  pub few_nodes_left : count (cleared s listed) ≤ count s
  unfolding nodes_of
  few_nodes_left = omega (arith, count_left s listed, few_kept s (ranged s listed))

  pub few_vars_left : taken (cleared s listed) ≤ taken s
  unfolding vars_of
  few_vars_left = omega (arith, taken_left s listed, few_kept_vars s (ranged s listed))

  pub few_places_left : length (cleared s listed).args ≤ length s.args
  few_places_left = omega (arith, places_left s listed, few_kept_places s listed)

module _ (s : State) (h : sound s ≡ true) (listed : List ℕ) (known : TakenAll s listed) where
  same : Same s listed
  same = cleared_same s h listed known

  only : NothingElse s listed
  only = nothing_else s h listed known

  was : IsSound s
  was = (sound_is s).0 h

  -- ---- nodes

  smaller : (t p : ℕ) → t < count (cleared s listed) → Memᴰ p (parts (type_at (cleared s listed) t)) → p < t
  smaller t p l m =
      let a = only.a_kept_node t l in
      let e : parts (type_at (cleared s listed) t) ≡ map (λ t. new_node s listed t) (parts (type_at s a.0)) =
      ap (λ u. parts (type_at (cleared s listed) u)) (sym a.2) ∙ ap parts (same.type_same a.0 a.1) ∙ parts_through (λ v. new_var s listed v) (λ t. new_node s listed t) (type_at s a.0) in
      let b = Memᴰ.of_map (λ t. new_node s listed t) (parts (type_at s a.0)) (subst (λ ps. Memᴰ p ps) e m) in
      let c = same.node_order b.0 a.0 (its_part a.1 b.1) (was.smaller_parts a.0 b.0 (kept_below s h listed known a.1) b.1) in
      omega (arith, a.2, b.2)

  shape_ok : (t : ℕ) → Kept s listed (a_node t) → (x : Shape Places) → (node s t).value ≡ x → shape_allowed s x ≡ true → shape_allowed (cleared s listed) (slid_shape (nodes_of s listed) (places_of s listed) (vars_of s listed) x) ≡ true
  unfolding shape_allowed slid_shape places_fit new_var type_at with_args
  shape_ok t k UnitType d e = refl
  shape_ok t k (Ref m p) d e = refl
  shape_ok t k (Param id a) d e = e
  shape_ok t k (Apply mk n p) d e =
      let e3 = and_l (is_mark mk && is_name s n && mark_fits mk n) (places_fit s n p) e in
      let e2 = and_l (is_mark mk && is_name s n) (mark_fits mk n) e3 in
      let f = and_r (is_mark mk && is_name s n && mark_fits mk n) (places_fit s n p) e in
      let l = leb→le (p.first + p.many) (length s.args) (test (and_r (eqb p.many (arity s n)) _ f)) in
      let r = slid_run (places_of s listed) (places_risen s listed) p.many p.first (λ i a b. place_kept s listed t i (node_listed s h listed known k) (omega arith) (has_its s listed t i mk n p d a b)) in
      and (and (and (and_l (is_mark mk) (is_name s n) e2) (name_left s listed n ∙ and_r (is_mark mk) (is_name s n) e2)) (and_r (is_mark mk && is_name s n) (mark_fits mk n) e3))
      (and (ap (λ m. eqb p.many m) (arity_left s listed n) ∙ and_l (eqb p.many (arity s n)) _ f)
      (le_test (slid (places_of s listed) p.first + p.many) (length (cleared s listed).args) (omega (arith, r, places_left s listed, slid_few (places_of s listed) (p.first + p.many)))))
  shape_ok t k (Var v) d e = lt_test (new_var s listed v) (taken (cleared s listed)) (same.var_in v (its_variable {t = t} k (ap (λ x. with_args s x) d)))
  shape_ok t k Anything d e = refl
  shape_ok t k UnresolvedError d e = refl

  node_ok : (t : ℕ) → t < count (cleared s listed) → node_allowed (cleared s listed) (node (cleared s listed) t) ≡ true
  unfolding node_allowed
  node_ok t l =
      let a = only.a_kept_node t l in
      let f = was.node_fields a.0 (kept_below s h listed known a.1) in
      let e : node (cleared s listed) t ≡ record { loc = (node s a.0).loc; value = slid_shape (nodes_of s listed) (places_of s listed) (vars_of s listed) (node s a.0).value } =
      ap (λ u. node (cleared s listed) u) (sym a.2) ∙ row_left s listed a.0 (node_listed s h listed known a.1) in
      rw e (and (and_l (is_u32 (node s a.0).loc) _ f) (shape_ok a.0 a.1 (node s a.0).value refl (and_r (is_u32 (node s a.0).loc) _ f)))

  -- ---- variables

  pub bound_taken : (v t : ℕ) → get (cleared s listed) v ≡ Some t → v < taken (cleared s listed)
  bound_taken v t e = elim (dec_lt v (taken (cleared s listed))) [ yes l ↦ l | no l ↦ never (let g = get_beyond (cleared s listed) v (omega arith) in cc) ]

  -- what a variable is bound to is a kept node at its new number
  bound_back : (v t : ℕ) → get (cleared s listed) v ≡ Some t → (w : ℕ) × (u : ℕ) × (get s w ≡ Some u) × Kept s listed (a_node u) × (new_node s listed u ≡ t)
  unfolding new_binding
  bound_back v t e = let a = only.a_kept_var v (bound_taken v t e) in go a.0 a.1 (get s a.0) refl (sym (same.binding_same a.0 a.1) ∙ ap (λ u. get (cleared s listed) u) a.2 ∙ e)
    where
      go : (w : ℕ) → Kept s listed (a_variable w) → (o : Option ℕ) → get s w ≡ o → new_binding s listed (get s w) ≡ Some t → (w : ℕ) × (u : ℕ) × (get s w ≡ Some u) × Kept s listed (a_node u) × (new_node s listed u ≡ t)
      go w k None d f = never (let z : new_binding s listed None ≡ Some t = rw d at f in cc)
      go w k (Some u) d f = let z : new_binding s listed (Some u) ≡ Some t = rw d at f in (w, u, d, its_binding k d, cc)

  num_taken : (v loc : ℕ) → num_loc (cleared s listed) v ≡ Some loc → v < taken (cleared s listed)
  unfolding num_loc
  num_taken v loc e = elim (dec_lt v (taken (cleared s listed))) [ yes l ↦ l | no l ↦ never (let g = get_or-eq_default (cleared s listed).vars unbound {n = v} (omega arith) in let z : None ≡ Some loc = sym (ap (λ (c : Cell). c.numeric) g) ∙ e in cc) ]

  numeric_ok : (v loc : ℕ) → num_loc (cleared s listed) v ≡ Some loc → is_u32 loc ≡ true
  numeric_ok v loc e = let a = only.a_kept_var v (num_taken v loc e) in was.numeric_fields a.0 loc (sym (same.mark_same a.0 a.1) ∙ ap (λ u. num_loc (cleared s listed) u) a.2 ∙ e)

  pub need_back : (v : ℕ) (a : (w : ℕ) × Kept s listed (a_variable w) × (new_var s listed w ≡ v)) → need_of (cleared s listed) v ≡ need_of s a.0
  need_back v a = sym (ap (λ u. need_of (cleared s listed) u) a.2) ∙ same.need_same a.0 a.1

  need_ok : (v loc : ℕ) → num_loc (cleared s listed) v ≡ Some loc → need_of (cleared s listed) v ≤ 256
  need_ok v loc e =
      let a = only.a_kept_var v (num_taken v loc e) in
      let l = was.need_fields a.0 loc (sym (same.mark_same a.0 a.1) ∙ ap (λ u. num_loc (cleared s listed) u) a.2 ∙ e) in
      omega (arith, l, need_back v a)

  no_need_ok : (v : ℕ) → num_loc (cleared s listed) v ≡ None → need_of (cleared s listed) v ≡ 0
  unfolding need_of
  no_need_ok v e = elim (dec_lt v (taken (cleared s listed))) [
    | yes l ↦ (
        let a = only.a_kept_var v l in
        need_back v a ∙ was.no_need_fields a.0 (sym (same.mark_same a.0 a.1) ∙ ap (λ u. num_loc (cleared s listed) u) a.2 ∙ e))
    | no l ↦ ap (λ (c : Cell). c.need) (get_or-eq_default (cleared s listed).vars unbound {n = v} (omega arith))
  ]

  pub next_left : (v : ℕ) → Kept s listed (a_variable v) → next_of (cleared s listed) (new_var s listed v) ≡ mapped (λ w. new_var s listed w) (next_of s v)
  unfolding next_of next_in new_binding mapped
  next_left v k = ap (λ (o : Option ℕ). next_in (cleared s listed) o) (same.binding_same v k) ∙ go (get s v) refl
    where
      go : (o : Option ℕ) → get s v ≡ o → next_in (cleared s listed) (new_binding s listed (get s v)) ≡ mapped (λ w. new_var s listed w) (next_in s (get s v))
      go None e = rw e refl
      go (Some t) e = rw e (ap as_var (same.type_same t (its_binding k e)) ∙ var_through (λ v. new_var s listed v) (λ t. new_node s listed t) (type_at s t))

  pub next_kept : (v w : ℕ) → Kept s listed (a_variable v) → next_of s v ≡ Some w → Kept s listed (a_variable w)
  next_kept v w k e = let b = next_bound s v w e in its_variable (its_binding k b.1) b.2

  chain_left : {n v : ℕ} → Within s n v → Kept s listed (a_variable v) → Within (cleared s listed) n (new_var s listed v)
  unfolding mapped
  chain_left {v = v} (w_here e) k = w_here (next_left v k ∙ ap (λ o. mapped (λ w. new_var s listed w) o) e)
  chain_left {v = v} (w_hop {w = w} e d) k = w_hop (next_left v k ∙ ap (λ o. mapped (λ w. new_var s listed w) o) e) (chain_left d (next_kept v w k e))

  in_var : {w : ℕ} (u : ℕ) → Kept s listed (a_node u) → (x : TypeValue) → type_at s u ≡ x → through (λ v. new_var s listed v) (λ t. new_node s listed t) x ≡ Var w → w < taken (cleared s listed)
  unfolding through
  in_var u k UnitType d e = never (cc)
  in_var u k (Ref m t) d e = never (cc)
  in_var u k (Param id a) d e = never (cc)
  in_var u k (Apply mk n ts) d e = never (cc)
  in_var {w} u k (Var v) d e = let c : new_var s listed v ≡ w = cc in omega (arith, same.var_in v (its_variable k d))
  in_var u k Anything d e = never (cc)
  in_var u k UnresolvedError d e = never (cc)

  var_back : (v w : ℕ) → next_of (cleared s listed) v ≡ Some w → w < taken (cleared s listed)
  var_back v w e =
      let b = next_bound (cleared s listed) v w e in
      let c = bound_back v b.0 b.1 in
      go c.1 c.3 (type_at s c.1) refl (sym (same.type_same c.1 c.3) ∙ ap (λ t. type_at (cleared s listed) t) c.4 ∙ b.2)
    where
      go : (u : ℕ) → Kept s listed (a_node u) → (x : TypeValue) → type_at s u ≡ x → through (λ v. new_var s listed v) (λ t. new_node s listed t) (type_at s u) ≡ Var w → w < taken (cleared s listed)
      go u k x d e = in_var u k x d (rw d at e)

  chains_ok : (v : ℕ) → v < taken (cleared s listed) → next_of (cleared s listed) (forward_tvar (cleared s listed) v) ≡ None
  chains_ok v l = chains_from (cleared s listed) (taken (cleared s listed)) (omega arith) (chains_few (cleared s listed) (taken s) each var_back) v l
    where
      each : (v : ℕ) → v < taken (cleared s listed) → Within (cleared s listed) (taken s) v
      each v l =
          let a = only.a_kept_var v l in
          subst (λ (u : ℕ). Within (cleared s listed) (taken s) u) a.2 (chain_left (chain_within (facts s h) a.0 (kept_var_below s h listed known a.1)) a.1)

  -- ---- constraints

  at_ok : (loc ty : ℕ) → Kept s listed (a_node ty) → at_node s loc ty ≡ true → at_node (cleared s listed) loc (new_node s listed ty) ≡ true
  unfolding at_node
  at_ok loc ty k e = and (and_l (is_u32 loc) _ e) (lt_test (new_node s listed ty) (count (cleared s listed)) (same.node_in ty k))

  constraint_ok : (c : Constraint) → Kept s listed (a_node (constraint_type c)) → constraint_allowed s c ≡ true → constraint_allowed (cleared s listed) (of_type (λ t. new_node s listed t) c) ≡ true
  unfolding constraint_allowed of_type constraint_type
  constraint_ok (AbilityConstraint loc ty abilities) k e = and (at_ok loc ty k (and_l (at_node s loc ty) _ e)) (and_r (at_node s loc ty) _ e)
  constraint_ok (NumericConstraint loc ty) k e = at_ok loc ty k e
  constraint_ok (BitsConstraint loc ty) k e = at_ok loc ty k e
  constraint_ok (OrderedConstraint loc ty) k e = at_ok loc ty k e
  constraint_ok (BaseTypeConstraint loc ty) k e = at_ok loc ty k e
  constraint_ok (SingleTypeConstraint loc ty) k e = at_ok loc ty k e

  constraints_ok : (c : Constraint) → Memᴰ c (cleared s listed).constraints → constraint_allowed (cleared s listed) c ≡ true
  constraints_ok c m =
      let b = Memᴰ.of_map (λ c. of_type (λ t. new_node s listed t) c) s.constraints (subst (λ l. Memᴰ c l) (constraints_left s listed) m) in
      subst (λ (d : Constraint). constraint_allowed (cleared s listed) d ≡ true) b.2 (constraint_ok b.0 (of_a_constraint b.1) (was.constraint_fields b.0 b.1))

  -- ---- the whole

  is_sound : IsSound (cleared s listed)
  is_sound = record {
    few_nodes = omega (arith, was.few_nodes, few_nodes_left s listed);
    few_args = omega (arith, was.few_args, few_places_left s listed);
    few_vars = omega (arith, was.few_vars, few_vars_left s listed);
    few_constraints = let e : length (cleared s listed).constraints ≡ length s.constraints = ap length (constraints_left s listed) ∙ length-map s.constraints (λ c. of_type (λ t. new_node s listed t) c) in omega (arith, was.few_constraints);
    few_structs = rw (structs_left s listed) was.few_structs;
    smaller_parts = smaller;
    node_fields = node_ok;
    binding_fields = λ v t e. let c = bound_back v t e in let l = same.node_in c.1 c.3 in omega (arith, c.4);
    numeric_fields = numeric_ok;
    need_fields = need_ok;
    no_need_fields = no_need_ok;
    constraint_fields = constraints_ok;
    struct_fields = λ d m. was.struct_fields d (subst (λ l. Memᴰ d l) (structs_left s listed) m);
    bindings_not_anything = λ v t e z. let c = bound_back v t e in was.bindings_not_anything c.0 c.1 c.2
        (not_any_through (λ v. new_var s listed v) (λ t. new_node s listed t) (type_at s c.1) (sym (same.type_same c.1 c.3) ∙ ap (λ t. type_at (cleared s listed) t) c.4 ∙ z));
    ending_chains = chains_ok;
  }

  -- KP keeps soundness
  pub cleared_sound : sound (cleared s listed) ≡ true
  cleared_sound = (sound_is (cleared s listed)).1 is_sound
