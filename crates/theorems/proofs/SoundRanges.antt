-- Counts within limits and fields in range: the part of soundness that no type's structure needs. Each change of the state keeps it. Assumes nothing.
-- First lists, then the fields of nodes, variables, constraints and declarations, then `Ranges` of a state and one law for each change of it.
use mathlib.Core.Path.{◌≡◌, refl, ap, ◌∙◌}
use mathlib.Core.Bool.{Bool, true, ◌&&◌}
use mathlib.Core.List.{List, [], ◌∷◌, ◌++◌, append_assoc}
use Rattle.std.specs.Prelude.{Option, None, Some}
use Prim.Native.Nat.{ℕ, zero, suc, ◌+◌, ◌≤◌, ◌<◌, ◌-◌}
use native.Mathlib.Omega.{arith}
use lib.ListN.{length, get_or, set, length-append, length-set, replicate, length-replicate}
use Rattle.definition.specs.Types.{TypeName, AbilityMark, Shape, UnitType, Ref, Param, Apply, Var, Anything, UnresolvedError, TypeValue, Places, Node, Cell, unbound, Struct, State, max_nodes, max_args, max_vars, max_constraints, max_structs, Multiple, Builtin, ModuleType}
use Rattle.definition.specs.Types.{Constraint, AbilityConstraint, NumericConstraint, BitsConstraint, OrderedConstraint, BaseTypeConstraint, SingleTypeConstraint}
use Rattle.definition.specs.Store.{nowhere, count, taken, with_args, node, type_at, loc_of, num_loc, with_vars, with_constraints, with_structs, insert, args_of, stored, with_node, with_var, all_of, need_of, with_need}
use Rattle.definition.specs.Subst.{next_of, or_insert, mark_one, mark_chain, set_num_var}
use Rattle.definition.specs.Trees.{mark_fits, is_set, is_mark, is_name}
use Rattle.definition.specs.Join.{merge_num}
use Rattle.definition.specs.Sound.{is_u32, numeric_allowed, struct_allowed, need_allowed}
use Rattle.definition.specs.Step.{put_back}
use Rattle.theorems.proofs.DemandOrder.{All}
use Rattle.theorems.proofs.Soundness.{elim_and}
use lib.Dec.{leb}
use Rattle.theorems.proofs.Laws.{NeedsIn, needs_most, num_marks, num_set_self, allowed_of}

-- ---- lists

module _ {A : Type 0} (P : A → Type 0) where
  pub all_append : (l m : List A) → All P l → All P m → All P (l ++ m)
  all_append [] m p q = q
  all_append (x ∷ l) m p q = (p.0, all_append l m p.1 q)

  pub all_set : (l : List A) (i : ℕ) (a : A) → All P l → (i < length l → P a) → All P (set l i a)
  all_set [] i a p q = tt
  all_set (x ∷ l) zero a p q = (q (omega arith), p.1)
  all_set (x ∷ l) (suc i) a p q = (p.0, all_set l i a p.1 (λ h. q (omega arith)))

  pub all_get : (d : A) (l : List A) → All P l → P d → (i : ℕ) → P (get_or l i d)
  all_get d [] p q i = q
  all_get d (x ∷ l) p q zero = p.0
  all_get d (x ∷ l) p q (suc i) = all_get d l p.1 q i

pub all_test : {A : Type 0} (f : A → Bool) (l : List A) → All (λ a. f a ≡ true) l → all_of f l ≡ true
unfolding all_of
all_test f [] h = refl
all_test f (x ∷ l) h = elim_and (f x) (all_of f l) h.0 (all_test f l h.1)

-- ---- fields

abbrev pub U32 : ℕ → Type 0
U32 x = is_u32 x ≡ true

-- equal declarations
pub name_known : (s s' : State) → s.structs ≡ s'.structs → (n : TypeName) → is_name s n ≡ is_name s' n
unfolding is_name
name_known s s' e (Multiple m) = refl
name_known s s' e (Builtin b) = refl
name_known s s' e (ModuleType m) = rw e refl

-- a name with its mark, by the declarations of s
abbrev pub Named : State → AbilityMark → TypeName → Type 0
Named s k n = is_mark k && is_name s n && mark_fits k n ≡ true

abbrev pub ShapeIn : {A : Type 0} → State → Shape A → Type 0
ShapeIn s UnitType = Unit {0}
ShapeIn s (Ref m t) = Unit {0}
ShapeIn s (Param id a) = is_u32 id && is_set a ≡ true
ShapeIn s (Apply k n p) = Named s k n
ShapeIn s (Var v) = Unit {0}
ShapeIn s Anything = Unit {0}
ShapeIn s UnresolvedError = Unit {0}

pub record NodeIn (s : State) (n : Node) : Type 0 where
  pub loc_in : U32 n.loc
  pub shape_in : ShapeIn s n.value

pub record CellIn (c : Cell) : Type 0 where
  pub mark_in : numeric_allowed c.numeric ≡ true
  pub need_in : need_allowed c.numeric c.need ≡ true

abbrev pub ConstraintIn : Constraint → Type 0
ConstraintIn (AbilityConstraint loc ty abilities) = U32 loc × (is_set abilities ≡ true)
ConstraintIn (NumericConstraint loc ty) = U32 loc
ConstraintIn (BitsConstraint loc ty) = U32 loc
ConstraintIn (OrderedConstraint loc ty) = U32 loc
ConstraintIn (BaseTypeConstraint loc ty) = U32 loc
ConstraintIn (SingleTypeConstraint loc ty) = U32 loc

pub record StructIn (d : Struct) : Type 0 where
  pub struct_in : struct_allowed d ≡ true

-- the names are those of `base`, whose declarations s has, and perhaps more
pub record Ranges (base s : State) : Type 0 where
  pub few_nodes : count s ≤ max_nodes
  pub few_args : length s.args ≤ max_args
  pub few_vars : taken s ≤ max_vars
  pub few_constraints : length s.constraints ≤ max_constraints
  pub few_structs : length s.structs ≤ max_structs
  pub extra : List Struct
  pub declared : s.structs ≡ base.structs ++ extra
  pub nodes_in : All (NodeIn base) s.nodes
  pub cells_in : All CellIn s.vars
  pub constraints_in : All ConstraintIn s.constraints
  pub structs_in : All StructIn s.structs

-- ---- what is read

nowhere_in : (b : State) → NodeIn b nowhere
unfolding is_u32
nowhere_in b = record { loc_in = refl; shape_in = tt }

pub unbound_in : CellIn unbound
unfolding numeric_allowed need_allowed
unbound_in = record { mark_in = refl; need_in = refl }

read_in : (b s : State) (x : Shape Places) → ShapeIn b x → ShapeIn b (with_args s x)
unfolding with_args
read_in b s UnitType h = tt
read_in b s (Ref m t) h = tt
read_in b s (Param id a) h = h
read_in b s (Apply k n p) h = h
read_in b s (Var v) h = tt
read_in b s Anything h = tt
read_in b s UnresolvedError h = tt

stored_in : (b : State) (first : ℕ) (x : TypeValue) → ShapeIn b x → ShapeIn b (stored first x)
unfolding stored
stored_in b first UnitType h = tt
stored_in b first (Ref m t) h = tt
stored_in b first (Param id a) h = h
stored_in b first (Apply k n p) h = h
stored_in b first (Var v) h = tt
stored_in b first Anything h = tt
stored_in b first UnresolvedError h = tt

module _ {b s : State} (r : Ranges b s) where
  pub node_in : (t : ℕ) → NodeIn b (node s t)
  unfolding node
  node_in t = all_get (NodeIn b) nowhere s.nodes r.nodes_in (nowhere_in b) t

  pub loc_of_in : (t : ℕ) → U32 (loc_of s t)
  unfolding loc_of
  loc_of_in t = (node_in t).loc_in

  pub value_in : (t : ℕ) → ShapeIn b (type_at s t)
  unfolding type_at
  value_in t = read_in b s (node s t).value (node_in t).shape_in

  pub name_in : (t : ℕ) (k : AbilityMark) (n : TypeName) (ts : List ℕ) → type_at s t ≡ Apply k n ts → Named b k n
  name_in t k n ts e = let h = value_in t in rw e at h

  pub cell_in : (v : ℕ) → numeric_allowed (num_loc s v) ≡ true
  unfolding num_loc
  cell_in v = (all_get CellIn unbound s.vars r.cells_in unbound_in v).mark_in

  pub needs_of : NeedsIn s
  unfolding NeedsIn num_loc need_of
  needs_of v = (all_get CellIn unbound s.vars r.cells_in unbound_in v).need_in

  pub need_cell : (v : ℕ) → need_allowed (num_loc s v) (need_of s v) ≡ true
  unfolding num_loc need_of
  need_cell v = (all_get CellIn unbound s.vars r.cells_in unbound_in v).need_in

  -- ---- what is changed

  pub node_ranges : (l : ℕ) (x : TypeValue) → U32 l → ShapeIn b x → count s < max_nodes → length s.args + length (args_of x) ≤ max_args → Ranges b (with_node s l x)
  unfolding with_node
  node_ranges l x u h c a = record {
    few_nodes = omega (arith, length-append s.nodes (record { loc = l; value = stored (length s.args) x } ∷ []));
    few_args = omega (arith, length-append s.args (args_of x));
    few_vars = r.few_vars;
    few_constraints = r.few_constraints;
    few_structs = r.few_structs;
    extra = r.extra;
    declared = r.declared;
    nodes_in = all_append (NodeIn b) s.nodes _ r.nodes_in (record { loc_in = u; shape_in = stored_in b (length s.args) x h }, tt);
    cells_in = r.cells_in;
    constraints_in = r.constraints_in;
    structs_in = r.structs_in;
  }

  pub vars_ranges : (vs : List Cell) → length vs ≤ max_vars → All CellIn vs → Ranges b (with_vars s vs)
  unfolding with_vars
  vars_ranges vs c h = record {
    few_nodes = r.few_nodes;
    few_args = r.few_args;
    few_vars = c;
    few_constraints = r.few_constraints;
    few_structs = r.few_structs;
    extra = r.extra;
    declared = r.declared;
    nodes_in = r.nodes_in;
    cells_in = h;
    constraints_in = r.constraints_in;
    structs_in = r.structs_in;
  }

  pub var_ranges : taken s < max_vars → Ranges b (with_var s)
  unfolding with_var
  var_ranges c = vars_ranges _ (omega (arith, length-append s.vars (unbound ∷ []))) (all_append CellIn s.vars _ r.cells_in (unbound_in, tt))

  set_ranges : (v : ℕ) (c : Cell) → (v < taken s → CellIn c) → Ranges b (with_vars s (set s.vars v c))
  set_ranges v c h = vars_ranges _ (omega (arith, r.few_vars, length-set s.vars v c)) (all_set CellIn s.vars v c r.cells_in h)

  pub insert_ranges : (v t : ℕ) → Ranges b (insert s v t)
  unfolding insert
  insert_ranges v t = set_ranges v _ (λ h. record { mark_in = cell_in v; need_in = need_cell v })

  or_insert_in : (o : Option ℕ) (loc : ℕ) → numeric_allowed o ≡ true → U32 loc → U32 (or_insert o loc)
  unfolding or_insert numeric_allowed
  or_insert_in None loc h u = u
  or_insert_in (Some x) loc h u = h

  mark_ranges : (v loc : ℕ) → U32 loc → Ranges b (mark_one s v loc)
  unfolding mark_one numeric_allowed need_allowed
  mark_ranges v loc u = set_ranges v _ (λ h. record { mark_in = or_insert_in (num_loc s v) loc (cell_in v) u; need_in = needs_most s needs_of v })

  need_ranges : (v n : ℕ) → (v < taken s → need_allowed (num_loc s v) n ≡ true) → Ranges b (with_need s v n)
  unfolding with_need
  need_ranges v n k = set_ranges v _ (λ h. record { mark_in = cell_in v; need_in = k h })

  pub constraints_ranges : (cs : List Constraint) → length cs ≤ max_constraints → All ConstraintIn cs → Ranges b (with_constraints s cs)
  unfolding with_constraints
  constraints_ranges cs c h = record {
    few_nodes = r.few_nodes;
    few_args = r.few_args;
    few_vars = r.few_vars;
    few_constraints = c;
    few_structs = r.few_structs;
    extra = r.extra;
    declared = r.declared;
    nodes_in = r.nodes_in;
    cells_in = r.cells_in;
    constraints_in = h;
    structs_in = r.structs_in;
  }

  pub declare_ranges : (d : Struct) → StructIn d → length s.structs < max_structs → Ranges b (with_structs s (s.structs ++ (d ∷ [])))
  unfolding with_structs
  declare_ranges d h l = record {
    few_nodes = r.few_nodes;
    few_args = r.few_args;
    few_vars = r.few_vars;
    few_constraints = r.few_constraints;
    few_structs = omega (arith, length-append s.structs (d ∷ []));
    extra = r.extra ++ (d ∷ []);
    declared = ap (λ ds. ds ++ (d ∷ [])) r.declared ∙ append_assoc b.structs r.extra (d ∷ []);
    nodes_in = r.nodes_in;
    cells_in = r.cells_in;
    constraints_in = r.constraints_in;
    structs_in = all_append StructIn s.structs _ r.structs_in (h, tt);
  }

  pub add_ranges : (c : Constraint) → ConstraintIn c → length s.constraints < max_constraints → Ranges b (with_constraints s (s.constraints ++ (c ∷ [])))
  add_ranges c h l = constraints_ranges _ (omega (arith, length-append s.constraints (c ∷ []))) (all_append ConstraintIn s.constraints _ r.constraints_in (h, tt))

chain_ranges : (n : ℕ) {b s : State} → Ranges b s → (v loc : ℕ) → U32 loc → Ranges b (mark_chain n s v loc)
unfolding mark_chain
chain_ranges zero r v loc u = r
chain_ranges (suc n) {b} {s} r v loc u = go (next_of s v) (λ next. chain_ranges n (mark_ranges r v loc u) next loc u)
  where
    go : (o : Option ℕ) → ((next : ℕ) → Ranges b (mark_chain n (mark_one s v loc) next loc)) → Ranges b (elim o [ None ↦ mark_one s v loc | Some next ↦ mark_chain n (mark_one s v loc) next loc ])
    go None f = mark_ranges r v loc u
    go (Some next) f = f next

pub num_var_ranges : {b s : State} → Ranges b s → (v loc : ℕ) → U32 loc → Ranges b (set_num_var s v loc)
unfolding set_num_var
num_var_ranges r v loc u = chain_ranges _ r v loc u

pub literal_ranges : {b s : State} → Ranges b s → (v loc n : ℕ) → U32 loc → leb n 256 ≡ true → Ranges b (with_need (set_num_var s v loc) v n)
literal_ranges {s = s} r v loc n u k = need_ranges (num_var_ranges r v loc u) v n (λ h. allowed_of (set_num_var s v loc) v n (num_set_self s v loc (omega (arith, (num_marks s v loc).m_taken))) k)

pub merge_ranges : {b s : State} → Ranges b s → (x y : Option ℕ) → numeric_allowed x ≡ true → numeric_allowed y ≡ true → (n : ℕ) → leb n 256 ≡ true → (v : ℕ) → Ranges b (merge_num s x y n v)
unfolding merge_num numeric_allowed
merge_ranges r x (Some l) hx hy n k v = literal_ranges r v l n hy k
merge_ranges r (Some l) None hx hy n k v = literal_ranges r v l n hx k
merge_ranges r None None hx hy n k v = r

pub cleared_ranges : {b s : State} → Ranges b s → Ranges b (with_constraints s [])
cleared_ranges r = constraints_ranges r [] (omega arith) tt

pub put_back_ranges : {b s s' : State} → Ranges b s → Ranges b s' → Ranges b (put_back s s')
unfolding put_back
put_back_ranges {b} {s} {s'} r r' =
    vars_ranges r' _ (omega (arith, r.few_vars, r'.few_vars, length-append s.vars (replicate (taken s' - taken s) unbound), length-replicate (taken s' - taken s) unbound)) (all_append CellIn s.vars _ r.cells_in (unbounds (taken s' - taken s)))
  where
    unbounds : (n : ℕ) → All CellIn (replicate n unbound)
    unbounds zero = tt
    unbounds (suc n) = (unbound_in, unbounds n)
