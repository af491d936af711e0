-- R-11: what KP leaves is what was kept, through the two renumberings (`cleared_same`), and nothing else (`nothing_else`). Assumes nothing.
-- First the state that KP leaves, table by table; then the rows of a kept node, place and variable; then that every row is a kept one's.
use mathlib.Core.Path.{◌≡◌, refl, sym, ap, ◌∙◌}
use mathlib.Core.Bool.{true}
use mathlib.Core.List.{List, map, Memᴰ, map-map}
use Rattle.std.specs.Prelude.{Option, None, Some}
use Prim.Native.Nat.{ℕ, ◌+◌, ◌≤◌, ◌<◌}
use native.Mathlib.Omega.{arith}
use lib.ListN.{length, get_or, drop, length-map}
use Rattle.definition.specs.Types.{Shape, UnitType, Ref, Param, Apply, Var, Anything, UnresolvedError, TypeName, TypeValue, Places, Node, Cell, unbound, State}
use Rattle.definition.specs.Store.{nowhere, count, taken, node, args_at, with_args, type_at, loc_of, get, num_loc, need_of, any_of}
use Rattle.definition.specs.Sound.{sound}
use Rattle.definition.specs.Keep.{of_type, a_node, a_variable, Kept, reach, slid, has_place, kept_places, slid_shape, slid_binding, clear_all, cleared}
use Rattle.theorems.proofs.Laws.{PlacesIn}
use Rattle.theorems.proofs.SoundFacts.{facts}
use Rattle.theorems.proofs.Soundness.{and, le_test, lt_test}
use Rattle.theorems.proofs.KeepLists.{mem_any, any_mem, mem_those, those_mem, From, those_rise, those_few, slid_at, slid_row, slid_lt, slid_one, mem_at, get_d_map, row, upto, map_take, map_drop, run_of, slice_is}
use Rattle.theorems.proofs.KeepReach.{ranged, nodes_rise, vars_rise, node_below, var_below, TakenAll, kept_is}

-- a type with its parts through g and its variable through f
unfoldable pub through : (ℕ → ℕ) → (ℕ → ℕ) → TypeValue → TypeValue
through f g UnitType = UnitType
through f g (Ref m t) = Ref m (g t)
through f g (Param id a) = Param id a
through f g (Apply k n ts) = Apply k n (map g ts)
through f g (Var v) = Var (f v)
through f g Anything = Anything
through f g UnresolvedError = UnresolvedError

module _ (s : State) (listed : List ℕ) where
  -- the kept nodes, variables and places, by rising number
  unfoldable pub nodes_of : List ℕ
  nodes_of = (reach s listed).nodes

  unfoldable pub vars_of : List ℕ
  vars_of = (reach s listed).vars

  unfoldable pub places_of : List ℕ
  places_of = kept_places s (reach s listed)

  -- the new numbers
  unfoldable pub new_node : ℕ → ℕ
  new_node t = slid nodes_of t

  unfoldable pub new_var : ℕ → ℕ
  new_var v = slid vars_of v

  unfoldable pub new_place : ℕ → ℕ
  new_place i = slid places_of i

  pub nodes_risen : From 0 nodes_of
  unfolding nodes_of
  nodes_risen = nodes_rise s (ranged s listed)

  pub vars_risen : From 0 vars_of
  unfolding vars_of
  vars_risen = vars_rise s (ranged s listed)

  pub places_risen : From 0 places_of
  unfolding places_of kept_places
  places_risen = those_rise (length s.args) _

  pub few_kept_places : length places_of ≤ length s.args
  unfolding places_of kept_places
  few_kept_places = those_few (length s.args) _

  -- ---- the tables that KP leaves

  unfoldable new_row : ℕ → Node
  new_row t = record { loc = (node s t).loc; value = slid_shape nodes_of places_of vars_of (node s t).value }

  unfoldable new_cell : ℕ → Cell
  new_cell v = record { binding = slid_binding nodes_of (get s v); numeric = num_loc s v; need = need_of s v }

  unfoldable new_arg : ℕ → ℕ
  new_arg i = new_node (get_or s.args i 0)

  nodes_left : (cleared s listed).nodes ≡ map new_row nodes_of
  unfolding cleared clear_all nodes_of places_of vars_of new_row
  nodes_left = refl

  args_left : (cleared s listed).args ≡ map new_arg places_of
  unfolding cleared clear_all nodes_of places_of new_arg new_node
  args_left = refl

  vars_left : (cleared s listed).vars ≡ map new_cell vars_of
  unfolding cleared clear_all nodes_of vars_of new_cell get num_loc need_of
  vars_left = refl

  pub constraints_left : (cleared s listed).constraints ≡ map (λ c. of_type (λ t. new_node t) c) s.constraints
  unfolding cleared clear_all nodes_of new_node
  constraints_left = refl

  pub structs_left : (cleared s listed).structs ≡ s.structs
  unfolding cleared clear_all
  structs_left = refl

  pub count_left : count (cleared s listed) ≡ length nodes_of
  count_left = ap length nodes_left ∙ length-map nodes_of new_row

  pub taken_left : taken (cleared s listed) ≡ length vars_of
  taken_left = ap length vars_left ∙ length-map vars_of new_cell

  pub places_left : length (cleared s listed).args ≡ length places_of
  places_left = ap length args_left ∙ length-map places_of new_arg

  -- ---- the row of a kept one

  node_left : (t : ℕ) → Memᴰ t nodes_of → node (cleared s listed) (new_node t) ≡ new_row t
  unfolding node new_node
  node_left t m = rw nodes_left (row new_row 0 nodes_of nodes_risen t m nowhere)

  pub row_left : (t : ℕ) → Memᴰ t nodes_of → node (cleared s listed) (new_node t) ≡ record { loc = (node s t).loc; value = slid_shape nodes_of places_of vars_of (node s t).value }
  unfolding new_row
  row_left t m = node_left t m

  cell_left : (v : ℕ) → Memᴰ v vars_of → get_or (cleared s listed).vars (new_var v) unbound ≡ new_cell v
  unfolding new_var
  cell_left v m = rw vars_left (row new_cell 0 vars_of vars_risen v m unbound)

  -- the places of a kept node are kept
  pub place_kept : (t i : ℕ) → Memᴰ t nodes_of → i < length s.args → has_place s i t ≡ true → Memᴰ i places_of
  unfolding places_of kept_places nodes_of
  place_kept t i m l e = mem_those (length s.args) (λ i. any_of (λ t. has_place s i t) (reach s listed).nodes) i l (mem_any (λ t. has_place s i t) (reach s listed).nodes t m e)

  pub has_its : (t i : ℕ) (k : Option ℕ) (n : TypeName) (p : Places) → (node s t).value ≡ Apply k n p → p.first ≤ i → i < p.first + p.many → has_place s i t ≡ true
  unfolding has_place
  has_its t i k n p e l h = rw (e, has_place) (and (le_test p.first i l) (lt_test i (p.first + p.many) h))

  split_args : (l : List ℕ) → map new_arg l ≡ map (λ t. new_node t) (map (λ i. get_or s.args i 0) l)
  unfolding new_arg
  split_args l = sym (map-map (λ t. new_node t) (λ i. get_or s.args i 0) l)

  args_kept : (t : ℕ) (k : Option ℕ) (n : TypeName) (p : Places) → Memᴰ t nodes_of → (node s t).value ≡ Apply k n p → p.first + p.many ≤ length s.args
      → args_at (cleared s listed) (record { first = slid places_of p.first; many = p.many }) ≡ map (λ t. new_node t) (args_at s p)
  unfolding args_at
  args_kept t k n p m e h =
      rw (
        args_left,
        map_drop new_arg (slid places_of p.first) places_of,
        map_take new_arg p.many (drop (slid places_of p.first) places_of),
        run_of places_of places_risen p.many p.first (λ i a b. place_kept t i m (omega arith) (has_its t i k n p e a b)),
        split_args (upto p.first p.many),
        slice_is s.args p.many p.first h,
      ) refl

  shape_left : (t : ℕ) → Memᴰ t nodes_of → (x : Shape Places) → (node s t).value ≡ x → PlacesIn s x
      → with_args (cleared s listed) (slid_shape nodes_of places_of vars_of x) ≡ through (λ v. new_var v) (λ t. new_node t) (with_args s x)
  unfolding with_args slid_shape through new_node new_var
  shape_left t m UnitType e h = refl
  shape_left t m (Ref mut p) e h = refl
  shape_left t m (Param id a) e h = refl
  shape_left t m (Apply k n p) e h = ap (λ (l : List ℕ). Apply k n l) (args_kept t k n p m e h)
  shape_left t m (Var v) e h = refl
  shape_left t m Anything e h = refl
  shape_left t m UnresolvedError e h = refl

  shaped : (t : ℕ) → Memᴰ t nodes_of → PlacesIn s (node s t).value → with_args (cleared s listed) (new_row t).value ≡ through (λ v. new_var v) (λ t. new_node t) (with_args s (node s t).value)
  unfolding new_row
  shaped t m h = shape_left t m (node s t).value refl h

  arg_left : (i : ℕ) → i < length places_of → get_or (cleared s listed).args i 0 ≡ new_node (get_or s.args (get_or places_of i 0) 0)
  unfolding new_arg
  arg_left i h = rw args_left (get_d_map new_arg places_of i 0 h)

  type_left : (t : ℕ) → Memᴰ t nodes_of → PlacesIn s (node s t).value → type_at (cleared s listed) (new_node t) ≡ through (λ v. new_var v) (λ t. new_node t) (type_at s t)
  unfolding type_at
  type_left t m h = ap (λ (n : Node). with_args (cleared s listed) n.value) (node_left t m) ∙ of_row
    where
      of_row : with_args (cleared s listed) (new_row t).value ≡ through (λ v. new_var v) (λ t. new_node t) (with_args s (node s t).value)
      of_row = shaped t m h

  loc_left : (t : ℕ) → Memᴰ t nodes_of → loc_of (cleared s listed) (new_node t) ≡ loc_of s t
  unfolding loc_of new_row
  loc_left t m = ap (λ (n : Node). n.loc) (node_left t m)

  -- a binding, through the renumbering of nodes
  unfoldable pub new_binding : Option ℕ → Option ℕ
  new_binding b = elim b [ None ↦ None | Some t ↦ Some (new_node t) ]

  get_left : (v : ℕ) → Memᴰ v vars_of → get (cleared s listed) (new_var v) ≡ new_binding (get s v)
  unfolding get new_cell new_binding new_node slid_binding
  get_left v m = ap (λ (c : Cell). c.binding) (cell_left v m)

  num_left : (v : ℕ) → Memᴰ v vars_of → num_loc (cleared s listed) (new_var v) ≡ num_loc s v
  unfolding num_loc new_cell
  num_left v m = ap (λ (c : Cell). c.numeric) (cell_left v m)

  need_left : (v : ℕ) → Memᴰ v vars_of → need_of (cleared s listed) (new_var v) ≡ need_of s v
  unfolding need_of new_cell
  need_left v m = ap (λ (c : Cell). c.need) (cell_left v m)

  -- a place is kept if it is one of a kept node's
  pub record KeptPlace (i : ℕ) : Type 0 where
    pub of_node : ℕ
    pub node_kept : Kept s listed (a_node of_node)
    pub its_place : has_place s i of_node ≡ true
    pub in_use : i < length s.args

-- what KP leaves, through the renumberings
pub record Same (s : State) (listed : List ℕ) : Type 0 where
  -- kept ones, at their new numbers
  pub type_same : (t : ℕ) → Kept s listed (a_node t) → type_at (cleared s listed) (new_node s listed t) ≡ through (λ v. new_var s listed v) (λ t. new_node s listed t) (type_at s t)
  pub loc_same : (t : ℕ) → Kept s listed (a_node t) → loc_of (cleared s listed) (new_node s listed t) ≡ loc_of s t
  pub binding_same : (v : ℕ) → Kept s listed (a_variable v) → get (cleared s listed) (new_var s listed v) ≡ new_binding s listed (get s v)
  pub mark_same : (v : ℕ) → Kept s listed (a_variable v) → num_loc (cleared s listed) (new_var s listed v) ≡ num_loc s v
  pub need_same : (v : ℕ) → Kept s listed (a_variable v) → need_of (cleared s listed) (new_var s listed v) ≡ need_of s v
  pub constraints_same : (cleared s listed).constraints ≡ map (λ c. of_type (λ t. new_node s listed t) c) s.constraints
  pub structs_same : (cleared s listed).structs ≡ s.structs
  -- the renumberings: within the counts, in order, one to one
  pub node_in : (t : ℕ) → Kept s listed (a_node t) → new_node s listed t < count (cleared s listed)
  pub var_in : (v : ℕ) → Kept s listed (a_variable v) → new_var s listed v < taken (cleared s listed)
  pub node_order : (t u : ℕ) → Kept s listed (a_node t) → t < u → new_node s listed t < new_node s listed u
  pub var_order : (v w : ℕ) → Kept s listed (a_variable v) → v < w → new_var s listed v < new_var s listed w
  pub node_one : (t u : ℕ) → Kept s listed (a_node t) → Kept s listed (a_node u) → new_node s listed t ≡ new_node s listed u → t ≡ u
  pub var_one : (v w : ℕ) → Kept s listed (a_variable v) → Kept s listed (a_variable w) → new_var s listed v ≡ new_var s listed w → v ≡ w

-- the counts are the numbers of kept ones, and every row below them is a kept one's
pub record NothingElse (s : State) (listed : List ℕ) : Type 0 where
  pub nodes_count : count (cleared s listed) ≡ length (nodes_of s listed)
  pub vars_count : taken (cleared s listed) ≡ length (vars_of s listed)
  pub places_count : length (cleared s listed).args ≡ length (places_of s listed)
  pub a_kept_node : (i : ℕ) → i < count (cleared s listed) → (t : ℕ) × Kept s listed (a_node t) × (new_node s listed t ≡ i)
  pub a_kept_var : (i : ℕ) → i < taken (cleared s listed) → (v : ℕ) × Kept s listed (a_variable v) × (new_var s listed v ≡ i)
  pub a_kept_place : (i : ℕ) → i < length (cleared s listed).args → (p : ℕ) × KeptPlace s listed p × (new_place s listed p ≡ i) × (get_or (cleared s listed).args i 0 ≡ new_node s listed (get_or s.args p 0))

module _ (s : State) (h : sound s ≡ true) (listed : List ℕ) (known : TakenAll s listed) where
  pub node_listed : {t : ℕ} → Kept s listed (a_node t) → Memᴰ t (nodes_of s listed)
  unfolding nodes_of
  node_listed {t} k = (kept_is s h listed known (a_node t)).1 k

  pub var_listed : {v : ℕ} → Kept s listed (a_variable v) → Memᴰ v (vars_of s listed)
  unfolding vars_of
  var_listed {v} k = (kept_is s h listed known (a_variable v)).1 k

  pub node_kept : {t : ℕ} → Memᴰ t (nodes_of s listed) → Kept s listed (a_node t)
  unfolding nodes_of
  node_kept {t} k = (kept_is s h listed known (a_node t)).0 k

  pub var_kept : {v : ℕ} → Memᴰ v (vars_of s listed) → Kept s listed (a_variable v)
  unfolding vars_of
  var_kept {v} k = (kept_is s h listed known (a_variable v)).0 k

  pub kept_below : {t : ℕ} → Kept s listed (a_node t) → t < count s
  unfolding nodes_of
  kept_below {t} k = node_below s (ranged s listed) ((kept_is s h listed known (a_node t)).1 k)

  pub kept_var_below : {v : ℕ} → Kept s listed (a_variable v) → v < taken s
  unfolding vars_of
  kept_var_below {v} k = var_below s (ranged s listed) ((kept_is s h listed known (a_variable v)).1 k)

  pub cleared_same : Same s listed
  unfolding new_node new_var
  cleared_same = record {
    type_same = λ t k. type_left s listed t (node_listed k) ((facts s h).places_in t (kept_below k));
    loc_same = λ t k. loc_left s listed t (node_listed k);
    binding_same = λ v k. get_left s listed v (var_listed k);
    mark_same = λ v k. num_left s listed v (var_listed k);
    need_same = λ v k. need_left s listed v (var_listed k);
    constraints_same = constraints_left s listed;
    structs_same = structs_left s listed;
    node_in = λ t k. omega (arith, count_left s listed, (slid_at 0 (nodes_of s listed) (nodes_risen s listed) t (node_listed k)).0);
    var_in = λ v k. omega (arith, taken_left s listed, (slid_at 0 (vars_of s listed) (vars_risen s listed) v (var_listed k)).0);
    node_order = λ t u k l. slid_lt (nodes_of s listed) t u (node_listed k) l;
    var_order = λ v w k l. slid_lt (vars_of s listed) v w (var_listed k) l;
    node_one = λ t u k l e. slid_one (nodes_of s listed) t u (node_listed k) (node_listed l) e;
    var_one = λ v w k l e. slid_one (vars_of s listed) v w (var_listed k) (var_listed l) e;
  }

  place_is_kept : (p : ℕ) → Memᴰ p (places_of s listed) → KeptPlace s listed p
  unfolding places_of kept_places nodes_of
  place_is_kept p m =
      let a = those_mem (length s.args) (λ i. any_of (λ t. has_place s i t) (reach s listed).nodes) p m in
      let b = any_mem (λ t. has_place s p t) (reach s listed).nodes a.1 in
      record { of_node = b.0; node_kept = node_kept b.1; its_place = b.2; in_use = a.0 }

  pub nothing_else : NothingElse s listed
  unfolding new_node new_var new_place
  nothing_else = record {
    nodes_count = count_left s listed;
    vars_count = taken_left s listed;
    places_count = places_left s listed;
    a_kept_node = λ i l. let j : i < length (nodes_of s listed) = omega (arith, count_left s listed) in (get_or (nodes_of s listed) i 0, node_kept (mem_at (nodes_of s listed) i j), slid_row 0 (nodes_of s listed) (nodes_risen s listed) i j);
    a_kept_var = λ i l. let j : i < length (vars_of s listed) = omega (arith, taken_left s listed) in (get_or (vars_of s listed) i 0, var_kept (mem_at (vars_of s listed) i j), slid_row 0 (vars_of s listed) (vars_risen s listed) i j);
    a_kept_place = λ i l. let j : i < length (places_of s listed) = omega (arith, places_left s listed) in (get_or (places_of s listed) i 0, place_is_kept (get_or (places_of s listed) i 0) (mem_at (places_of s listed) i j), slid_row 0 (places_of s listed) (places_risen s listed) i j, arg_left s listed i j);
  }
