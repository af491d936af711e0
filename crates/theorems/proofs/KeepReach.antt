-- R-11: what `reach` lists is what KP keeps in words, and no more (`kept_is`). Assumes nothing.
-- Each round is a list of those below; it adds something or is the last; what is listed is kept; what is kept is listed, rule by rule.
use mathlib.Core.Path.{◌≡◌, refl, sym, ap, ◌∙◌, subst}
use mathlib.Core.Logic.{◌⊎◌, inl, inr, ◌↔◌}
use mathlib.Core.Bool.{Bool, true, false, ◌||◌}
use mathlib.Core.List.Memᴰ
use mathlib.Core.List.{List, map, Memᴰ}
use Rattle.std.specs.Prelude.{Option, None, Some}
use Prim.Native.Nat.{ℕ, zero, suc, ◌+◌, ◌≤◌, ◌<◌}
use native.Mathlib.Omega.{arith}
use lib.ListN.{length}
use lib.Dec.{eqb}
use Rattle.definition.specs.Types.{TypeValue, UnitType, Ref, Param, Apply, Var, Anything, UnresolvedError, State, Constraint, AbilityConstraint, NumericConstraint, BitsConstraint, OrderedConstraint, BaseTypeConstraint, SingleTypeConstraint}
use Rattle.definition.specs.Store.{count, taken, type_at, get, any_of}
use Rattle.definition.specs.Subst.{as_var, parts}
use Rattle.definition.specs.Join.{is_var}
use Rattle.definition.specs.Sound.{sound}
use Rattle.definition.specs.Keep.{constraint_type, Thing, a_node, a_variable, Kept, a_listed_one, of_a_constraint, its_binding, its_part, its_variable, Reach, those_below, one_of, bound_to, round, rounds, reach}
use Rattle.theorems.proofs.DemandTracks.{never}
use Rattle.theorems.proofs.Laws.{type_on}
use Rattle.theorems.proofs.TotalFinite.{all_at}
use Rattle.theorems.proofs.SoundFacts.{facts}
use Rattle.theorems.proofs.KeepLists.{or_l, or_r, or_cases, mem_any, any_mem, mem_one, one_mem, eqb_self, eqb_is, mem_those, those_mem, those_more, those_few, From, those_rise}

-- ---- tests of one step

pub bound_is : (s : State) (t v : ℕ) → bound_to s t v ≡ true → get s v ≡ Some t
unfolding bound_to
bound_is s t v e = go (get s v) refl e
  where
    go : (o : Option ℕ) → get s v ≡ o → (elim o [ None ↦ false | Some b ↦ eqb b t ]) ≡ true → get s v ≡ Some t
    go None d h = never (cc)
    go (Some b) d h = d ∙ ap (λ (x : ℕ). Some x) (eqb_is b t h)

pub is_bound : (s : State) (t v : ℕ) → get s v ≡ Some t → bound_to s t v ≡ true
unfolding bound_to
is_bound s t v e = rw (e, bound_to) (eqb_self t)

pub var_is : (v : ℕ) (x : TypeValue) → is_var v x ≡ true → x ≡ Var v
unfolding is_var as_var
var_is v UnitType e = never (cc)
var_is v (Ref m t) e = never (cc)
var_is v (Param id a) e = never (cc)
var_is v (Apply k n ts) e = never (cc)
var_is v (Var w) e = ap (λ (x : ℕ). Var x) (eqb_is w v e)
var_is v Anything e = never (cc)
var_is v UnresolvedError e = never (cc)

pub is_this_var : (v : ℕ) (x : TypeValue) → x ≡ Var v → is_var v x ≡ true
unfolding is_var as_var
is_this_var v x e = rw e (eqb_self v)

-- ---- rounds

-- each list is of those below
pub record Ranged (s : State) (r : Reach) : Type 0 where
  pub of_nodes : ℕ → Bool
  pub of_vars : ℕ → Bool
  pub nodes_are : r.nodes ≡ those_below (count s) of_nodes
  pub vars_are : r.vars ≡ those_below (taken s) of_vars

module _ (s : State) where
  node_test : Reach → ℕ → Bool
  node_test r t = one_of r.nodes t || any_of (λ v. bound_to s t v) r.vars || any_of (λ p. one_of (parts (type_at s p)) t) r.nodes

  var_test : Reach → ℕ → Bool
  var_test r v = one_of r.vars v || any_of (λ t. is_var v (type_at s t)) r.nodes

  round_nodes : (r : Reach) → (round s r).nodes ≡ those_below (count s) (node_test r)
  unfolding round node_test
  round_nodes r = refl

  round_vars : (r : Reach) → (round s r).vars ≡ those_below (taken s) (var_test r)
  unfolding round var_test
  round_vars r = refl

  round_ranged : (r : Reach) → Ranged s (round s r)
  round_ranged r = record { of_nodes = node_test r; of_vars = var_test r; nodes_are = round_nodes r; vars_are = round_vars r }

  pub rounds_ranged : (n : ℕ) (r : Reach) → Ranged s r → Ranged s (rounds n s r)
  unfolding rounds
  rounds_ranged zero r g = g
  rounds_ranged (suc n) r g = rounds_ranged n (round s r) (round_ranged r)

  module _ {r : Reach} (g : Ranged s r) where
    pub node_below : {t : ℕ} → Memᴰ t r.nodes → t < count s
    node_below {t} m = (those_mem (count s) g.of_nodes t (subst (λ l. Memᴰ t l) g.nodes_are m)).0

    pub var_below : {v : ℕ} → Memᴰ v r.vars → v < taken s
    var_below {v} m = (those_mem (taken s) g.of_vars v (subst (λ l. Memᴰ v l) g.vars_are m)).0

    pub nodes_rise : From 0 r.nodes
    nodes_rise = rw g.nodes_are (those_rise (count s) g.of_nodes)

    pub vars_rise : From 0 r.vars
    vars_rise = rw g.vars_are (those_rise (taken s) g.of_vars)

    pub few_nodes : length r.nodes ≤ count s
    few_nodes = rw g.nodes_are (those_few (count s) g.of_nodes)

    pub few_vars : length r.vars ≤ taken s
    few_vars = rw g.vars_are (those_few (taken s) g.of_vars)

  -- what one round has, by the three and the two ways into it
  in_nodes : (r : Reach) (t : ℕ) → t < count s → node_test r t ≡ true → Memᴰ t (round s r).nodes
  in_nodes r t h e = rw (round_nodes r) (mem_those (count s) (node_test r) t h e)

  in_vars : (r : Reach) (v : ℕ) → v < taken s → var_test r v ≡ true → Memᴰ v (round s r).vars
  in_vars r v h e = rw (round_vars r) (mem_those (taken s) (var_test r) v h e)

  node_stays : (r : Reach) (t : ℕ) → Memᴰ t r.nodes → node_test r t ≡ true
  unfolding node_test
  node_stays r t m = or_l _ (any_of (λ p. one_of (parts (type_at s p)) t) r.nodes) (or_l (one_of r.nodes t) (any_of (λ v. bound_to s t v) r.vars) (mem_one r.nodes t m))

  var_stays : (r : Reach) (v : ℕ) → Memᴰ v r.vars → var_test r v ≡ true
  unfolding var_test
  var_stays r v m = or_l (one_of r.vars v) (any_of (λ t. is_var v (type_at s t)) r.nodes) (mem_one r.vars v m)

  binding_in : (r : Reach) (v t : ℕ) → Memᴰ v r.vars → get s v ≡ Some t → node_test r t ≡ true
  unfolding node_test
  binding_in r v t m e = or_l _ (any_of (λ p. one_of (parts (type_at s p)) t) r.nodes) (or_r (one_of r.nodes t) (any_of (λ v. bound_to s t v) r.vars) (mem_any (λ v. bound_to s t v) r.vars v m (is_bound s t v e)))

  part_in : (r : Reach) (t p : ℕ) → Memᴰ t r.nodes → Memᴰ p (parts (type_at s t)) → node_test r p ≡ true
  unfolding node_test
  part_in r t p m k = or_r (one_of r.nodes p || any_of (λ v. bound_to s p v) r.vars) _ (mem_any (λ q. one_of (parts (type_at s q)) p) r.nodes t m (mem_one (parts (type_at s t)) p k))

  variable_in : (r : Reach) (t v : ℕ) → Memᴰ t r.nodes → type_at s t ≡ Var v → var_test r v ≡ true
  unfolding var_test
  variable_in r t v m e = or_r (one_of r.vars v) _ (mem_any (λ t. is_var v (type_at s t)) r.nodes t m (is_this_var v (type_at s t) e))

  node_ways : (r : Reach) (t : ℕ) → node_test r t ≡ true → ((one_of r.nodes t ≡ true) ⊎ (any_of (λ v. bound_to s t v) r.vars ≡ true)) ⊎ (any_of (λ p. one_of (parts (type_at s p)) t) r.nodes ≡ true)
  unfolding node_test
  node_ways r t e = go (or_cases (one_of r.nodes t || any_of (λ v. bound_to s t v) r.vars) _ e)
    where
      go : ((one_of r.nodes t || any_of (λ v. bound_to s t v) r.vars) ≡ true) ⊎ (any_of (λ p. one_of (parts (type_at s p)) t) r.nodes ≡ true)
          → ((one_of r.nodes t ≡ true) ⊎ (any_of (λ v. bound_to s t v) r.vars ≡ true)) ⊎ (any_of (λ p. one_of (parts (type_at s p)) t) r.nodes ≡ true)
      go (inl a) = inl (or_cases (one_of r.nodes t) _ a)
      go (inr b) = inr b

  var_ways : (r : Reach) (v : ℕ) → var_test r v ≡ true → (one_of r.vars v ≡ true) ⊎ (any_of (λ t. is_var v (type_at s t)) r.nodes ≡ true)
  unfolding var_test
  var_ways r v e = or_cases (one_of r.vars v) _ e

  -- nothing is lost
  pub rounds_keep_node : (n : ℕ) (r : Reach) → Ranged s r → (t : ℕ) → Memᴰ t r.nodes → Memᴰ t (rounds n s r).nodes
  unfolding rounds
  rounds_keep_node zero r g t m = m
  rounds_keep_node (suc n) r g t m = rounds_keep_node n (round s r) (round_ranged r) t (in_nodes r t (node_below g m) (node_stays r t m))

  pub rounds_keep_var : (n : ℕ) (r : Reach) → Ranged s r → (v : ℕ) → Memᴰ v r.vars → Memᴰ v (rounds n s r).vars
  unfolding rounds
  rounds_keep_var zero r g v m = m
  rounds_keep_var (suc n) r g v m = rounds_keep_var n (round s r) (round_ranged r) v (in_vars r v (var_below g m) (var_stays r v m))

  -- ---- rounds enough: a round that adds nothing is the last

  size : Reach → ℕ
  size r = length r.nodes + length r.vars

  -- nothing more is reached from r
  pub Closed : Reach → Type 0
  Closed r = ((round s r).nodes ≡ r.nodes) × ((round s r).vars ≡ r.vars)

  same_round : (r : Reach) → ((round s r).nodes ≡ r.nodes) → ((round s r).vars ≡ r.vars) → round s r ≡ r
  same_round r e d = record_eq (round s r).nodes r.nodes (round s r).vars r.vars e d
    where
      record_eq : (a b c d : List ℕ) → a ≡ b → c ≡ d → ◌≡◌ {A = Reach} (record { nodes = a; vars = c }) (record { nodes = b; vars = d })
      record_eq a b c d e f = rw (e, f) refl

  more : (r : Reach) → Ranged s r → Closed r ⊎ (size r < size (round s r))
  unfolding size Closed
  more r g = go
      (those_more (count s) g.of_nodes (node_test r) (λ t h e. node_stays r t (rw g.nodes_are (mem_those (count s) g.of_nodes t h e))))
      (those_more (taken s) g.of_vars (var_test r) (λ v h e. var_stays r v (rw g.vars_are (mem_those (taken s) g.of_vars v h e))))
    where
      n_len : length r.nodes ≡ length (those_below (count s) g.of_nodes)
      n_len = ap length g.nodes_are

      v_len : length r.vars ≡ length (those_below (taken s) g.of_vars)
      v_len = ap length g.vars_are

      n_len' : length (round s r).nodes ≡ length (those_below (count s) (node_test r))
      n_len' = ap length (round_nodes r)

      v_len' : length (round s r).vars ≡ length (those_below (taken s) (var_test r))
      v_len' = ap length (round_vars r)

      go : (those_below (count s) g.of_nodes ≡ those_below (count s) (node_test r)) ⊎ (length (those_below (count s) g.of_nodes) < length (those_below (count s) (node_test r)))
          → (those_below (taken s) g.of_vars ≡ those_below (taken s) (var_test r)) ⊎ (length (those_below (taken s) g.of_vars) < length (those_below (taken s) (var_test r)))
          → (((round s r).nodes ≡ r.nodes) × ((round s r).vars ≡ r.vars)) ⊎ (length r.nodes + length r.vars < length (round s r).nodes + length (round s r).vars)
      go (inl e) (inl d) = inl (round_nodes r ∙ sym e ∙ sym g.nodes_are, round_vars r ∙ sym d ∙ sym g.vars_are)
      go (inl e) (inr l) = inr (omega (arith, ap length e, n_len, v_len, n_len', v_len'))
      go (inr l) (inl d) = inr (omega (arith, ap length d, n_len, v_len, n_len', v_len'))
      go (inr l) (inr k) = inr (omega (arith, n_len, v_len, n_len', v_len'))

  rest : (n : ℕ) (r : Reach) → round s r ≡ r → rounds n s r ≡ r
  unfolding rounds
  rest zero r e = refl
  rest (suc n) r e = rw e (rest n r e)

  enough : (n : ℕ) (r : Reach) → Ranged s r → Closed (rounds n s r) ⊎ (n + size r ≤ size (rounds n s r))
  unfolding rounds Closed
  enough zero r g = inr (omega arith)
  enough (suc n) r g = go (more r g) (enough n (round s r) (round_ranged r))
    where
      go : Closed r ⊎ (size r < size (round s r)) → Closed (rounds n s (round s r)) ⊎ (n + size (round s r) ≤ size (rounds n s (round s r)))
          → Closed (rounds n s (round s r)) ⊎ (suc n + size r ≤ size (rounds n s (round s r)))
      go a (inl c) = inl c
      go (inl c) (inr l) = inl (let q : round s r ≡ r = same_round r c.0 c.1 in let z : rounds n s (round s r) ≡ r = ap (λ x. rounds n s x) q ∙ rest n r q in rw z c)
      go (inr k) (inr l) = inr (omega arith)

  at_most : (r : Reach) → Ranged s r → size r ≤ count s + taken s
  unfolding size
  at_most r g = omega (arith, few_nodes g, few_vars g)

  pub closed : (r : Reach) → Ranged s r → Closed (rounds (count s + taken s) s r)
  closed r g = go (enough (count s + taken s) r g)
    where
      go : Closed (rounds (count s + taken s) s r) ⊎ (count s + taken s + size r ≤ size (rounds (count s + taken s) s r)) → Closed (rounds (count s + taken s) s r)
      go (inl c) = c
      go (inr l) = elim (more (rounds (count s + taken s) s r) (rounds_ranged (count s + taken s) r g)) [
        | inl c ↦ c
        | inr k ↦ absurd (omega (arith, at_most (round s (rounds (count s + taken s) s r)) (round_ranged (rounds (count s + taken s) s r))))
      ]

-- ---- the start, and the whole

unfoldable pub start : State → List ℕ → Reach
start s listed = record {
  nodes = those_below (count s) (λ t. any_of (λ ty. eqb t ty) (map (λ c. constraint_type c) s.constraints));
  vars = those_below (taken s) (λ v. one_of listed v);
}

module _ (s : State) (listed : List ℕ) where
  pub reach_is : reach s listed ≡ rounds (count s + taken s) s (start s listed)
  unfolding reach start
  reach_is = refl

  start_ranged : Ranged s (start s listed)
  unfolding start
  start_ranged = record { of_nodes = λ t. any_of (λ ty. eqb t ty) (map (λ c. constraint_type c) s.constraints); of_vars = λ v. one_of listed v; nodes_are = refl; vars_are = refl }

  pub ranged : Ranged s (reach s listed)
  ranged = rw reach_is (rounds_ranged s (count s + taken s) (start s listed) start_ranged)

  -- ---- what is listed is kept

  pub record AllKept (r : Reach) : Type 0 where
    pub kept_node : (t : ℕ) → Memᴰ t r.nodes → Kept s listed (a_node t)
    pub kept_var : (v : ℕ) → Memᴰ v r.vars → Kept s listed (a_variable v)

  start_node : (t : ℕ) → Memᴰ t (start s listed).nodes → Kept s listed (a_node t)
  unfolding start
  start_node t m =
      let a = those_mem (count s) (λ t. any_of (λ ty. eqb t ty) (map (λ c. constraint_type c) s.constraints)) t m in
      let b = any_mem (λ ty. eqb t ty) (map (λ c. constraint_type c) s.constraints) a.1 in
      let c = Memᴰ.of_map (λ c. constraint_type c) s.constraints b.1 in
      let e : t ≡ constraint_type c.0 = eqb_is t b.0 b.2 ∙ sym c.2 in
      rw e (of_a_constraint c.1)

  start_var : (v : ℕ) → Memᴰ v (start s listed).vars → Kept s listed (a_variable v)
  unfolding start
  start_var v m = a_listed_one (one_mem listed v (those_mem (taken s) (λ v. one_of listed v) v m).1)

  round_kept : (r : Reach) → AllKept r → AllKept (round s r)
  round_kept r k = record { kept_node = λ t m. of_node t m; kept_var = λ v m. of_var v m }
    where
      by_part : (t : ℕ) → any_of (λ p. one_of (parts (type_at s p)) t) r.nodes ≡ true → Kept s listed (a_node t)
      by_part t e = let a = any_mem (λ p. one_of (parts (type_at s p)) t) r.nodes e in its_part (k.kept_node a.0 a.1) (one_mem (parts (type_at s a.0)) t a.2)

      by_binding : (t : ℕ) → any_of (λ v. bound_to s t v) r.vars ≡ true → Kept s listed (a_node t)
      by_binding t e = let a = any_mem (λ v. bound_to s t v) r.vars e in its_binding (k.kept_var a.0 a.1) (bound_is s t a.0 a.2)

      by_node : (v : ℕ) → any_of (λ t. is_var v (type_at s t)) r.nodes ≡ true → Kept s listed (a_variable v)
      by_node v e = let a = any_mem (λ t. is_var v (type_at s t)) r.nodes e in its_variable (k.kept_node a.0 a.1) (var_is v (type_at s a.0) a.2)

      of_node : (t : ℕ) → Memᴰ t (round s r).nodes → Kept s listed (a_node t)
      of_node t m = elim (node_ways s r t (those_mem (count s) (node_test s r) t (subst (λ l. Memᴰ t l) (round_nodes s r) m)).1) [
        | inl a ↦ elim a [ inl b ↦ k.kept_node t (one_mem r.nodes t b) | inr b ↦ by_binding t b ]
        | inr a ↦ by_part t a
      ]

      of_var : (v : ℕ) → Memᴰ v (round s r).vars → Kept s listed (a_variable v)
      of_var v m = elim (var_ways s r v (those_mem (taken s) (var_test s r) v (subst (λ l. Memᴰ v l) (round_vars s r) m)).1) [
        | inl a ↦ k.kept_var v (one_mem r.vars v a)
        | inr a ↦ by_node v a
      ]

  rounds_kept : (n : ℕ) (r : Reach) → AllKept r → AllKept (rounds n s r)
  unfolding rounds
  rounds_kept zero r k = k
  rounds_kept (suc n) r k = rounds_kept n (round s r) (round_kept r k)

  listed_is_kept : AllKept (reach s listed)
  listed_is_kept = rw reach_is (rounds_kept (count s + taken s) (start s listed) (record { kept_node = start_node; kept_var = start_var }))

  -- ---- what is kept is listed

  abbrev pub Listed : Thing → Type 0
  Listed (a_node t) = Memᴰ t (reach s listed).nodes
  Listed (a_variable v) = Memᴰ v (reach s listed).vars

  at_rest : Closed s (reach s listed)
  at_rest = rw reach_is (closed s (start s listed) start_ranged)

  add_node : (t : ℕ) → t < count s → node_test s (reach s listed) t ≡ true → Memᴰ t (reach s listed).nodes
  unfolding Closed
  add_node t h e = subst (λ l. Memᴰ t l) at_rest.0 (in_nodes s (reach s listed) t h e)

  add_var : (v : ℕ) → v < taken s → var_test s (reach s listed) v ≡ true → Memᴰ v (reach s listed).vars
  unfolding Closed
  add_var v h e = subst (λ l. Memᴰ v l) at_rest.1 (in_vars s (reach s listed) v h e)

  from_start_node : (t : ℕ) → Memᴰ t (start s listed).nodes → Memᴰ t (reach s listed).nodes
  from_start_node t m = rw reach_is (rounds_keep_node s (count s + taken s) (start s listed) start_ranged t m)

  from_start_var : (v : ℕ) → Memᴰ v (start s listed).vars → Memᴰ v (reach s listed).vars
  from_start_var v m = rw reach_is (rounds_keep_var s (count s + taken s) (start s listed) start_ranged v m)

  in_start_node : (c : Constraint) → Memᴰ c s.constraints → constraint_type c < count s → Memᴰ (constraint_type c) (start s listed).nodes
  unfolding start
  in_start_node c m h = mem_those (count s) (λ t. any_of (λ ty. eqb t ty) (map (λ c. constraint_type c) s.constraints)) (constraint_type c) h
      (mem_any (λ ty. eqb (constraint_type c) ty) (map (λ c. constraint_type c) s.constraints) (constraint_type c) (Memᴰ.map (λ c. constraint_type c) m) (eqb_self (constraint_type c)))

  in_start_var : (v : ℕ) → Memᴰ v listed → v < taken s → Memᴰ v (start s listed).vars
  unfolding start
  in_start_var v m h = mem_those (taken s) (λ v. one_of listed v) v h (mem_one listed v m)

pub type_of_constraint : (c : Constraint) → constraint_type c ≡ type_on c
unfolding constraint_type
type_of_constraint (AbilityConstraint loc ty abilities) = refl
type_of_constraint (NumericConstraint loc ty) = refl
type_of_constraint (BitsConstraint loc ty) = refl
type_of_constraint (OrderedConstraint loc ty) = refl
type_of_constraint (BaseTypeConstraint loc ty) = refl
type_of_constraint (SingleTypeConstraint loc ty) = refl

-- the listed variables are taken: KP's reader refuses any other with 6
abbrev pub TakenAll : State → List ℕ → Type 0
TakenAll s listed = (v : ℕ) → Memᴰ v listed → v < taken s

module _ (s : State) (h : sound s ≡ true) (listed : List ℕ) (known : TakenAll s listed) where
  kept_is_listed : {x : Thing} → Kept s listed x → Listed s listed x
  kept_is_listed (a_listed_one {v = v} m) = from_start_var s listed v (in_start_var s listed v m (known v m))
  kept_is_listed (of_a_constraint {c = c} m) = from_start_node s listed (constraint_type c) (in_start_node s listed c m (rw (type_of_constraint c) ((facts s h).constraints_on.on c m)))
  kept_is_listed (its_binding {v = v} {t = t} k e) = add_node s listed t ((facts s h).bind_in v t e) (binding_in s (reach s listed) v t (kept_is_listed k) e)
  kept_is_listed (its_part {t = t} {p = p} k m) =
      let i = kept_is_listed k in
      let l : t < count s = node_below s (ranged s listed) i in
      let b : p < t = all_at (λ q. q < t) (parts (type_at s t)) ((facts s h).parts_below t l) p m in
      add_node s listed p (omega arith) (part_in s (reach s listed) t p i m)
  kept_is_listed (its_variable {t = t} {v = v} k e) =
      let i = kept_is_listed k in
      add_var s listed v ((facts s h).var_in t v (node_below s (ranged s listed) i) e) (variable_in s (reach s listed) t v i e)

  listed_kept : (x : Thing) → Listed s listed x → Kept s listed x
  listed_kept (a_node t) m = (listed_is_kept s listed).kept_node t m
  listed_kept (a_variable v) m = (listed_is_kept s listed).kept_var v m

  -- a node or variable is in `reach` exactly if KP keeps it
  pub kept_is : (x : Thing) → Listed s listed x ↔ Kept s listed x
  kept_is x = (listed_kept x, λ k. kept_is_listed k)
