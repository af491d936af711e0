-- R-11: KP of all survivors changes nothing, and shows each number with itself (`clear_again`). Assumes nothing.
-- First sliding over all numbers below n; then that all nodes, places and variables that KP left are kept again; then table by table.
use mathlib.Core.Path.{◌≡◌, refl, sym, ap, ◌∙◌, subst}
use mathlib.Core.Bool.{Bool, true, false, ◌&&◌}
use mathlib.Core.List.Memᴰ
use mathlib.Core.List.{List, [], ◌∷◌, ◌++◌, map, Memᴰ}
use Rattle.std.specs.Prelude.{Option, None, Some}
use Prim.Native.Nat.{ℕ, zero, suc, ◌+◌, ◌-◌, ◌≤◌, ◌<◌}
use native.Mathlib.Omega.{arith}
use lib.ListN.{length, get_or, take, drop, length-append, length-take, length-drop}
use lib.Seq.{ext_get_or, get_or-take, get_or-drop}
use lib.Dec.{leb, ltb, eqb, leb→le, ltb→lt}
use Rattle.definition.specs.Types.{TypeName, Shape, UnitType, Ref, Param, Apply, Var, Anything, UnresolvedError, Places, Node, Cell, unbound, State, Struct}
use Rattle.definition.specs.Types.{Constraint, AbilityConstraint, NumericConstraint, BitsConstraint, OrderedConstraint, BaseTypeConstraint, SingleTypeConstraint}
use Rattle.definition.specs.Store.{nowhere, count, taken, node, args_at, with_args, type_at, get, num_loc, need_of, any_of}
use Rattle.definition.specs.Subst.{parts}
use Rattle.definition.specs.Trees.{is_mark, is_name, mark_fits, arity}
use Rattle.definition.specs.Sound.{is_u32, places_fit, shape_allowed, node_allowed, sound}
use Rattle.definition.specs.Write.{Bytes, u16, each}
use Rattle.definition.specs.Keep.{constraint_type, of_type, Thing, a_node, a_variable, Kept, a_listed_one, of_a_constraint, its_binding, its_part, its_variable, those_below, reach, slid, has_place, kept_places, slid_shape, cleared, survivors}
use Rattle.theorems.proofs.DemandTracks.{never}
use Rattle.theorems.proofs.Laws.{PlacesIn}
use Rattle.theorems.proofs.SoundFacts.{facts, test, and_l, and_r}
use Rattle.theorems.proofs.Soundness.{IsSound, sound_is}
use Rattle.theorems.proofs.KeepLists.{mem_at, mem_those, those_mem, those_same, those_rise, From, slid_none, slid_le, slid_lt, slid_run}
use Rattle.theorems.proofs.KeepReach.{ranged, TakenAll, kept_is}
use Rattle.theorems.proofs.KeepSame.{nodes_of, vars_of, places_of, new_node, new_var, new_place, new_binding, Same, NothingElse, cleared_same, nothing_else, node_listed, kept_below, row_left, places_risen, place_kept, has_its, count_left, taken_left, places_left, structs_left, constraints_left}
use Rattle.theorems.proofs.KeepSound.{parts_through, cleared_sound}

-- ---- all numbers below n

unfoldable pub all_below : ℕ → List ℕ
all_below n = those_below n (λ x. true)

length_all : (n : ℕ) → length (all_below n) ≡ n
unfolding all_below those_below
length_all zero = refl
length_all (suc n) = length-append (those_below n (λ x. true)) (n ∷ []) ∙ omega (arith, length_all n)

mem_all : (n x : ℕ) → x < n → Memᴰ x (all_below n)
unfolding all_below
mem_all n x h = mem_those n (λ x. true) x h refl

all_rise : (n : ℕ) → From 0 (all_below n)
unfolding all_below
all_rise n = those_rise n (λ x. true)

-- nothing slides
slid_all : (n x : ℕ) → x ≤ n → slid (all_below n) x ≡ x
slid_all n x h =
    let z : x ≡ 0 + x = omega arith in
    let a : slid (all_below n) (0 + x) ≡ slid (all_below n) 0 + x = slid_run (all_below n) (all_rise n) x 0 (λ i a b. mem_all n i (omega arith)) in
    let b : slid (all_below n) 0 ≡ 0 = slid_none 0 (all_below n) (all_rise n) 0 (omega arith) in
    ap (λ y. slid (all_below n) y) z ∙ a ∙ omega arith

those_all : (n : ℕ) (f : ℕ → Bool) → ((x : ℕ) → x < n → Memᴰ x (those_below n f)) → those_below n f ≡ all_below n
unfolding all_below
those_all n f h = those_same n f (λ x. true) (λ x l. (those_mem n f x (h x l)).1)

type_moved : (g : ℕ → ℕ) (c : Constraint) → constraint_type (of_type g c) ≡ g (constraint_type c)
unfolding constraint_type of_type
type_moved g (AbilityConstraint loc ty abilities) = refl
type_moved g (NumericConstraint loc ty) = refl
type_moved g (BitsConstraint loc ty) = refl
type_moved g (OrderedConstraint loc ty) = refl
type_moved g (BaseTypeConstraint loc ty) = refl
type_moved g (SingleTypeConstraint loc ty) = refl

type_stays : (g : ℕ → ℕ) (c : Constraint) → g (constraint_type c) ≡ constraint_type c → of_type g c ≡ c
unfolding constraint_type of_type
type_stays g (AbilityConstraint loc ty abilities) e = rw e refl
type_stays g (NumericConstraint loc ty) e = rw e refl
type_stays g (BitsConstraint loc ty) e = rw e refl
type_stays g (OrderedConstraint loc ty) e = rw e refl
type_stays g (BaseTypeConstraint loc ty) e = rw e refl
type_stays g (SingleTypeConstraint loc ty) e = rw e refl

map_stays : {A : Type 0} (f : A → A) (l : List A) → ((a : A) → Memᴰ a l → f a ≡ a) → map f l ≡ l
map_stays f [] h = refl
map_stays f (a ∷ l) h = rw (h a (Memᴰ.head refl), map_stays f l (λ b m. h b (Memᴰ.tail m))) refl

-- a place of a node is one of its parts
has_shape : (s : State) (i t : ℕ) → has_place s i t ≡ true → (k : Option ℕ) × (n : TypeName) × (p : Places) × ((node s t).value ≡ Apply k n p) × (p.first ≤ i) × (i < p.first + p.many)
unfolding has_place
has_shape s i t e = go (node s t).value refl e
  where
    go : (x : Shape Places) → (node s t).value ≡ x → (elim x [
      | UnitType ↦ false
      | Ref m p ↦ false
      | Param id a ↦ false
      | Apply k n p ↦ leb p.first i && ltb i (p.first + p.many)
      | Var v ↦ false
      | Anything ↦ false
      | UnresolvedError ↦ false
    ]) ≡ true → (k : Option ℕ) × (n : TypeName) × (p : Places) × ((node s t).value ≡ Apply k n p) × (p.first ≤ i) × (i < p.first + p.many)
    go UnitType d e = never (cc)
    go (Ref m p) d e = never (cc)
    go (Param id a) d e = never (cc)
    go (Apply k n p) d e = (k, n, p, d, leb→le p.first i (test (and_l (leb p.first i) (ltb i (p.first + p.many)) e)), ltb→lt i (p.first + p.many) (test (and_r (leb p.first i) (ltb i (p.first + p.many)) e)))
    go (Var v) d e = never (cc)
    go Anything d e = never (cc)
    go UnresolvedError d e = never (cc)

part_at : (s : State) (i t : ℕ) → i < length s.args → has_place s i t ≡ true → Memᴰ (get_or s.args i 0) (parts (type_at s t))
unfolding parts type_at with_args args_at
part_at s i t l e =
    let a = has_shape s i t e in
    let p : Places = a.2 in
    let j : i - p.first < length (take p.many (drop p.first s.args)) = omega (arith, length-take p.many (drop p.first s.args), length-drop p.first s.args, a.4, a.5) in
    let z : p.first + (i - p.first) ≡ i = omega (arith, a.4) in
    let d : get_or (take p.many (drop p.first s.args)) (i - p.first) 0 ≡ get_or s.args i 0 =
    get_or-take p.many (drop p.first s.args) (i - p.first) 0 (omega (arith, a.4, a.5)) ∙ get_or-drop p.first s.args (i - p.first) 0 ∙ ap (λ x. get_or s.args x 0) z in
    rw a.3 (mathlib.Core.List.Memᴰ.cast (sym d) (mem_at (take p.many (drop p.first s.args)) (i - p.first) j))

in_use : (s : State) (t : ℕ) (k : Option ℕ) (n : TypeName) (p : Places) → (node s t).value ≡ Apply k n p → PlacesIn s (node s t).value → p.first + p.many ≤ length s.args
in_use s t k n p e h = let q : PlacesIn s (Apply k n p) = rw e at h in q

-- ---- all that a state has, kept: KP changes nothing
module _ (s : State) (h : sound s ≡ true) (listed : List ℕ) (known : TakenAll s listed)
    (all_vars : (v : ℕ) → v < taken s → Memᴰ v listed)
    (all_nodes : (t : ℕ) → t < count s → Kept s listed (a_node t))
    (all_places : (i : ℕ) → i < length s.args → (t : ℕ) × (t < count s) × (has_place s i t ≡ true)) where
  was : IsSound s
  was = (sound_is s).0 h

  same : Same s listed
  same = cleared_same s h listed known

  only : NothingElse s listed
  only = nothing_else s h listed known

  nodes_all : nodes_of s listed ≡ all_below (count s)
  unfolding nodes_of
  nodes_all = let g = ranged s listed in g.nodes_are ∙ those_all (count s) g.of_nodes (λ t l. subst (λ xs. Memᴰ t xs) g.nodes_are ((kept_is s h listed known (a_node t)).1 (all_nodes t l)))

  vars_all : vars_of s listed ≡ all_below (taken s)
  unfolding vars_of
  vars_all = let g = ranged s listed in g.vars_are ∙ those_all (taken s) g.of_vars (λ v l. subst (λ xs. Memᴰ v xs) g.vars_are ((kept_is s h listed known (a_variable v)).1 (a_listed_one (all_vars v l))))

  node_in : (t : ℕ) → t < count s → Memᴰ t (nodes_of s listed)
  node_in t l = rw nodes_all (mem_all (count s) t l)

  place_in : (i t : ℕ) → t < count s → i < length s.args → has_place s i t ≡ true → Memᴰ i (places_of s listed)
  place_in i t l j e = place_kept s listed t i (node_in t l) j e

  places_all : places_of s listed ≡ all_below (length s.args)
  unfolding places_of kept_places
  places_all = those_all (length s.args) (λ i. any_of (λ t. has_place s i t) (reach s listed).nodes) (λ i l. let a = all_places i l in place_in i a.0 a.1 l a.2)

  node_stays : (t : ℕ) → t ≤ count s → new_node s listed t ≡ t
  unfolding new_node
  node_stays t l = ap (λ xs. slid xs t) nodes_all ∙ slid_all (count s) t l

  var_stays : (v : ℕ) → v ≤ taken s → new_var s listed v ≡ v
  unfolding new_var
  var_stays v l = ap (λ xs. slid xs v) vars_all ∙ slid_all (taken s) v l

  place_stays : (i : ℕ) → i ≤ length s.args → new_place s listed i ≡ i
  unfolding new_place
  place_stays i l = ap (λ xs. slid xs i) places_all ∙ slid_all (length s.args) i l

  -- ---- nodes

  shape_stays : (t : ℕ) → t < count s → (x : Shape Places) → (node s t).value ≡ x → slid_shape (nodes_of s listed) (places_of s listed) (vars_of s listed) x ≡ x
  unfolding slid_shape new_node new_var new_place type_at with_args parts shape_allowed places_fit node_allowed
  shape_stays t l UnitType e = refl
  shape_stays t l (Ref m p) e =
      let b : p < t = was.smaller_parts t p l (rw e (Memᴰ.head refl)) in
      ap (λ q. Ref m q) (node_stays p (omega arith))
  shape_stays t l (Param id a) e = refl
  shape_stays t l (Apply k n p) e =
      let f : shape_allowed s (Apply k n p) ≡ true = ap (λ x. shape_allowed s x) (sym e) ∙ and_r (is_u32 (node s t).loc) _ (was.node_fields t l) in
      let b = leb→le (p.first + p.many) (length s.args) (test (and_r (eqb p.many (arity s n)) _ (and_r (is_mark k && is_name s n && mark_fits k n) (places_fit s n p) f))) in
      ap (λ q. Apply k n (record { first = q; many = p.many })) (place_stays p.first (omega arith))
  shape_stays t l (Var v) e =
      let f : ltb v (taken s) ≡ true = ap (λ x. shape_allowed s x) (sym e) ∙ and_r (is_u32 (node s t).loc) _ (was.node_fields t l) in
      let b = ltb→lt v (taken s) (test f) in
      ap (λ w. Var w) (var_stays v (omega arith))
  shape_stays t l Anything e = refl
  shape_stays t l UnresolvedError e = refl

  count_stays : count (cleared s listed) ≡ count s
  count_stays = count_left s listed ∙ ap length nodes_all ∙ length_all (count s)

  taken_stays : taken (cleared s listed) ≡ taken s
  taken_stays = taken_left s listed ∙ ap length vars_all ∙ length_all (taken s)

  args_stay_length : length (cleared s listed).args ≡ length s.args
  args_stay_length = places_left s listed ∙ ap length places_all ∙ length_all (length s.args)

  node_eq : {a b : ℕ} {x y : Shape Places} → a ≡ b → x ≡ y → ◌≡◌ {A = Node} (record { loc = a; value = x }) (record { loc = b; value = y })
  node_eq e f = rw (e, f) refl

  nodes_stay : (cleared s listed).nodes ≡ s.nodes
  unfolding node
  nodes_stay = ext_get_or nowhere (cleared s listed).nodes s.nodes count_stays (λ t l.
      let j : t < count s = omega (arith, count_stays) in
      ap (λ u. node (cleared s listed) u) (sym (node_stays t (omega arith))) ∙ row_left s listed t (node_in t j) ∙ node_eq refl (shape_stays t j (node s t).value refl))

  -- ---- places

  args_stay : (cleared s listed).args ≡ s.args
  args_stay = ext_get_or 0 (cleared s listed).args s.args args_stay_length (λ i l.
      let b = only.a_kept_place i l in
      let c : b.0 ≡ i = sym (place_stays b.0 (omega (arith, b.1.in_use))) ∙ b.2 in
      let k : get_or s.args b.0 0 < b.1.of_node = was.smaller_parts b.1.of_node (get_or s.args b.0 0) (kept_below s h listed known b.1.node_kept) (part_at s b.0 b.1.of_node b.1.in_use b.1.its_place) in
      b.3 ∙ node_stays (get_or s.args b.0 0) (omega (arith, kept_below s h listed known b.1.node_kept)) ∙ ap (λ j. get_or s.args j 0) c)

  -- ---- variables

  binding_stays : (v : ℕ) (o : Option ℕ) → get s v ≡ o → new_binding s listed o ≡ o
  unfolding new_binding
  binding_stays v None e = refl
  binding_stays v (Some t) e = ap (λ (u : ℕ). Some u) (node_stays t (omega (arith, was.binding_fields v t e)))

  cell_eq : (a b : Cell) → a.binding ≡ b.binding → a.numeric ≡ b.numeric → a.need ≡ b.need → a ≡ b
  cell_eq a b e f g = parts_eq e f g
    where
      parts_eq : {x y z w : Option ℕ} {m n : ℕ} → x ≡ y → z ≡ w → m ≡ n → ◌≡◌ {A = Cell} (record { binding = x; numeric = z; need = m }) (record { binding = y; numeric = w; need = n })
      parts_eq e f g = rw (e, f, g) refl

  vars_stay : (cleared s listed).vars ≡ s.vars
  unfolding get num_loc need_of
  vars_stay = ext_get_or unbound (cleared s listed).vars s.vars taken_stays (λ v l.
      let j : v < taken s = omega (arith, taken_stays) in
      let k : Kept s listed (a_variable v) = a_listed_one (all_vars v j) in
      let e = var_stays v (omega arith) in
      cell_eq (get_or (cleared s listed).vars v unbound) (get_or s.vars v unbound)
      (ap (λ u. get (cleared s listed) u) (sym e) ∙ same.binding_same v k ∙ binding_stays v (get s v) refl)
      (ap (λ u. num_loc (cleared s listed) u) (sym e) ∙ same.mark_same v k)
      (ap (λ u. need_of (cleared s listed) u) (sym e) ∙ same.need_same v k))

  -- ---- constraints, and the whole

  constraints_stay : (cleared s listed).constraints ≡ s.constraints
  constraints_stay = constraints_left s listed ∙ map_stays (λ c. of_type (λ t. new_node s listed t) c) s.constraints
      (λ c m. type_stays (λ t. new_node s listed t) c (node_stays (constraint_type c) (omega (arith, kept_below s h listed known (of_a_constraint m)))))

  state_eq : (a b : State) → a.nodes ≡ b.nodes → a.args ≡ b.args → a.vars ≡ b.vars → a.constraints ≡ b.constraints → a.structs ≡ b.structs → a ≡ b
  state_eq a b d e f g h = parts_eq d e f g h
    where
      parts_eq : {n n' : List Node} {p p' : List ℕ} {v v' : List Cell} {c c' : List Constraint} {d d' : List Struct} → n ≡ n' → p ≡ p' → v ≡ v' → c ≡ c' → d ≡ d'
          → ◌≡◌ {A = State} (record { nodes = n; args = p; vars = v; constraints = c; structs = d }) (record { nodes = n'; args = p'; vars = v'; constraints = c'; structs = d' })
      parts_eq d e f g h = rw (d, e, f, g, h) refl

  pub nothing_goes : cleared s listed ≡ s
  nothing_goes = state_eq (cleared s listed) s nodes_stay args_stay vars_stay constraints_stay (structs_left s listed)

  each_same : (f g : ℕ → Bytes) (l : List ℕ) → ((x : ℕ) → Memᴰ x l → f x ≡ g x) → each f l ≡ each g l
  unfolding each
  each_same f g [] e = refl
  each_same f g (x ∷ l) e = rw (e x (Memᴰ.head refl), each_same f g l (λ y m. e y (Memᴰ.tail m))) refl

  pub shows_itself : survivors (reach s listed).vars ≡ each (λ v. u16 v ++ u16 v) (all_below (taken s))
  unfolding survivors vars_of all_below
  shows_itself =
      let e : (reach s listed).vars ≡ those_below (taken s) (λ x. true) = vars_all in
      rw e (each_same (λ v. u16 v ++ u16 (slid (those_below (taken s) (λ x. true)) v)) (λ v. u16 v ++ u16 v) (those_below (taken s) (λ x. true))
      (λ v m. ap (λ w. u16 v ++ u16 w) (slid_all (taken s) v (let l = (those_mem (taken s) (λ x. true) v m).0 in omega arith))))

-- ---- after a KP

module _ (s : State) (h : sound s ≡ true) (listed : List ℕ) (known : TakenAll s listed) where
  first : Same s listed
  first = cleared_same s h listed known

  rows : NothingElse s listed
  rows = nothing_else s h listed known

  -- the places of a kept node, at their new numbers, are places of it at its new number
  place_left : (i t : ℕ) → Kept s listed (a_node t) → i < length s.args → has_place s i t ≡ true → has_place (cleared s listed) (new_place s listed i) (new_node s listed t) ≡ true
  unfolding new_place slid_shape
  place_left i t k l e =
      let a = has_shape s i t e in
      let p : Places = a.2 in
      let m = node_listed s h listed known k in
      let b = (facts s h).places_in t (kept_below s h listed known k) in
      let q : p.first + p.many ≤ length s.args = in_use s t a.0 a.1 p a.3 b in
      let r = slid_run (places_of s listed) (places_risen s listed) p.many p.first (λ j x y. place_kept s listed t j m (omega arith) (has_its s listed t j a.0 a.1 p a.3 x y)) in
      let v : (node (cleared s listed) (new_node s listed t)).value ≡ Apply a.0 a.1 (record { first = slid (places_of s listed) p.first; many = p.many }) =
      ap (λ (n : Node). n.value) (row_left s listed t m) ∙ ap (λ x. slid_shape (nodes_of s listed) (places_of s listed) (vars_of s listed) x) a.3 in
      has_its (cleared s listed) listed (new_node s listed t) (slid (places_of s listed) i) a.0 a.1 (record { first = slid (places_of s listed) p.first; many = p.many }) v
      (slid_le (places_of s listed) p.first i a.4)
      (omega (arith, r, slid_lt (places_of s listed) i (p.first + p.many) (place_kept s listed t i m l e) a.5))

  module _ (all : List ℕ) (taken_all : TakenAll (cleared s listed) all) (every : (v : ℕ) → v < taken (cleared s listed) → Memᴰ v all) where
    abbrev Image : Thing → Type 0
    Image (a_node t) = Kept (cleared s listed) all (a_node (new_node s listed t))
    Image (a_variable v) = Kept (cleared s listed) all (a_variable (new_var s listed v))

    var_again : {v : ℕ} → Kept s listed (a_variable v) → Kept (cleared s listed) all (a_variable (new_var s listed v))
    var_again {v} k = a_listed_one (every (new_var s listed v) (first.var_in v k))

    kept_again : {x : Thing} → Kept s listed x → Image x
    unfolding new_binding
    kept_again (a_listed_one m) = var_again (a_listed_one m)
    kept_again (of_a_constraint {c = c} m) =
        subst (λ (t : ℕ). Kept (cleared s listed) all (a_node t)) (type_moved (λ t. new_node s listed t) c) (of_a_constraint (subst (λ l. Memᴰ (of_type (λ t. new_node s listed t) c) l) (sym (constraints_left s listed)) (Memᴰ.map (λ c. of_type (λ t. new_node s listed t) c) m)))
    kept_again (its_binding {v = v} {t = t} k e) = its_binding (var_again k) (first.binding_same v k ∙ ap (λ o. new_binding s listed o) e)
    kept_again (its_part {t = t} {p = p} k m) =
        let e = ap parts (first.type_same t k) ∙ parts_through (λ v. new_var s listed v) (λ t. new_node s listed t) (type_at s t) in
        its_part (kept_again k) (subst (λ l. Memᴰ (new_node s listed p) l) (sym e) (Memᴰ.map (λ t. new_node s listed t) m))
    kept_again (its_variable k e) = var_again (its_variable k e)

    every_node : (t : ℕ) → t < count (cleared s listed) → Kept (cleared s listed) all (a_node t)
    every_node t l = let a = rows.a_kept_node t l in subst (λ (u : ℕ). Kept (cleared s listed) all (a_node u)) a.2 (kept_again a.1)

    every_place : (i : ℕ) → i < length (cleared s listed).args → (t : ℕ) × (t < count (cleared s listed)) × (has_place (cleared s listed) i t ≡ true)
    every_place i l =
        let a = rows.a_kept_place i l in
        let k = a.1.node_kept in
        (new_node s listed a.1.of_node, first.node_in a.1.of_node k, subst (λ (j : ℕ). has_place (cleared s listed) j (new_node s listed a.1.of_node) ≡ true) a.2 (place_left a.0 a.1.of_node k a.1.in_use a.1.its_place))

    -- KP of all survivors: the state is as it was, and each number is shown with itself
    pub clear_again : (cleared (cleared s listed) all ≡ cleared s listed) × (survivors (reach (cleared s listed) all).vars ≡ each (λ v. u16 v ++ u16 v) (all_below (taken (cleared s listed))))
    clear_again = (nothing_goes (cleared s listed) (cleared_sound s h listed known) all taken_all every every_node every_place, shows_itself (cleared s listed) (cleared_sound s h listed known) all taken_all every every_node every_place)
