-- The rows that slid down are the state that KP leaves, table by table. Assumes nothing.
use mathlib.Core.Path.{◌≡◌, refl, sym, ap, subst, ◌∙◌}
use mathlib.Core.Logic.{◌⊎◌, inl, inr}
use mathlib.Core.Bool.{Bool, true}
use mathlib.Core.List.{List, map, Memᴰ}
use Prim.Native.Nat.{ℕ, ◌+◌, ◌*◌, ◌-◌, ◌≤◌, ◌<◌}
use native.Mathlib.Omega.{arith}
use lib.ListN.{length, get_or}
use lib.Dec.{leb, ltb, leb→le, ltb→lt}
use Rattle.std.specs.Prelude.{Option, None, Some}
use Rattle.std.proofs.lemmas.Bool.{false≢true}
use Rattle.definition.specs.Types as d
use Rattle.definition.specs.Types.{Struct, Places, unbound}
use Rattle.definition.specs.Store.{count, node, nowhere, type_at, with_args, get, with_structs}
use Rattle.definition.specs.Keep.{constraint_type, of_type, Reach, those_below, reach, slid, has_place, kept_places, slid_shape, slid_binding, clear_all, cleared}
use Rattle.theorems.proofs.SoundFacts.{test, and_l, and_r}
use Rattle.theorems.proofs.KeepLists.{those_mem, those_same, those_few, any_mem}
use Rattle.theorems.proofs.KeepSound.{cleared_sound}
use Rattle.table.specs.Rows.{Table, row, entries, read_node, read_arg, read_cell, read_constraint, node_table, arg_table, var_table, constraint_table, struct_table}
use Rattle.table.specs.State.{view, seen, Lay, Inside, Below}
use Rattle.table.specs.Did.{held, tables}
use Rattle.table.specs.declared.Used.{Used}
use Rattle.table.specs.declared.state.State.{State}
use Rattle.table.proofs.Tab.{tab_ext}
use Rattle.table.proofs.Rows.{entry_at, row_same, Same, same_entries, same_clean}
use Rattle.table.proofs.Pushed.{count_view, args_view, taken_view, constraints_view}
use Rattle.sound.proofs.Lays.{sound_inside}
use Rattle.keep.specs.Marked.{Reaching}
use Rattle.keep.specs.Slid.{Within, Slides, SlidDown}
use Rattle.keep.specs.Numbered.{among, new_shape, new_node, new_binding, new_cell, new_constraint}
use Rattle.keep.specs.Keeps.{Ready}
use Rattle.keep.specs.declared.marks.Marks.{Marks}
use Rattle.keep.specs.declared.numbers.Numbers.{Numbers}
use Rattle.keep.proofs.Numbering.{slid_those}
use Rattle.keep.proofs.Reaching.{entry_in}
use Rattle.keep.proofs.Placing.{in_shape}
use Rattle.keep.proofs.Clearing.{s₀, map_on, all_tab, map_tab, of_type_same, cleared_here, reaching, taken_all, nodes_marked, vars_marked}

-- ---- a table that the sliding of another leaves

apart : {A B : Type 0} (T : Table A) (U : Table B) {w w' : List ℕ} → ((i k : ℕ) → i < T.rows → k < T.width → (T.base + i * T.width + k < U.base) ⊎ (U.base + U.rows * U.width ≤ T.base + i * T.width + k)) → Within U w w' → Same T w w'
apart T U {w} {w'} f h = λ i p. row_same T w w' i (λ k q. h.there _ (f i k p q))

same_both : {A : Type 0} (T : Table A) (w w' w'' : List ℕ) → Same T w w' → Same T w' w'' → Same T w w''
same_both T w w' w'' a b = λ i p. b i p ∙ a i p

-- the place of a shape whose parts are below t
place_low : (args : List ℕ) (t i : ℕ) (x : d.Shape Places) → in_shape i x ≡ true → Below args t x → get_or args i 0 < t
unfolding in_shape
place_low args t i d.UnitType e b = absurd (false≢true e)
place_low args t i (d.Ref m p) e b = absurd (false≢true e)
place_low args t i (d.Param id a) e b = absurd (false≢true e)
place_low args t i (d.Apply k n p) e b =
    let low = leb→le p.first i (test (and_l (leb p.first i) (ltb i (p.first + p.many)) e)) in
    let high = ltb→lt i (p.first + p.many) (test (and_r (leb p.first i) (ltb i (p.first + p.many)) e)) in
    let z : p.first + (i - p.first) ≡ i = omega (arith, low) in
    subst (λ (j : ℕ). get_or args j 0 < t) z (b.1.1 (i - p.first) (omega (arith, low, high)))
place_low args t i (d.Var v) e b = absurd (false≢true e)
place_low args t i d.Anything e b = absurd (false≢true e)
place_low args t i d.UnresolvedError e b = absurd (false≢true e)

module _ {st : State} {listed : List ℕ} {m : Marks} {places : List Bool} {new : Numbers} (r : Ready st listed m places new) where
  abbrev w : List ℕ
  w = st.words.now

  abbrev u : Used
  u = st.used

  abbrev s : d.State
  s = tables st

  -- the nodes, the places and the variables that stay
  abbrev N : List ℕ
  N = those_below st.used.nodes (among m.nodes)

  abbrev P : List ℕ
  P = those_below st.used.args (among places)

  abbrev pub V : List ℕ
  V = those_below st.used.vars (among m.vars)

  reached : Reaching (tables st)
  reached = reaching st r.as_sound

  number_is : (t : ℕ) → t < st.used.nodes → get_or new.nodes t 0 ≡ slid N t
  number_is t h = let l = st.lay.nodes in r.numbered.nodes.each t (omega (arith, h, l)) ∙ sym (slid_those st.used.nodes (among m.nodes) t (omega (arith, h)))

  place_is : (i : ℕ) → i ≤ st.used.args → get_or new.places i 0 ≡ slid P i
  place_is i h = let l = st.lay.args in r.numbered.places.each i (omega (arith, h, l)) ∙ sym (slid_those st.used.args (among places) i h)

  pub var_is : (v : ℕ) → v < st.used.vars → get_or new.vars v 0 ≡ slid V v
  var_is v h = let l = st.lay.vars in r.numbered.vars.each v (omega (arith, h, l)) ∙ sym (slid_those st.used.vars (among m.vars) v (omega (arith, h)))

  below : (t : ℕ) → t < st.used.nodes → Below (tables st).args t (node (tables st) t).value
  below t h = st.lay.inside.parts t (rw (count_view st.words.now st.used) h)

  -- ---- a row with the new numbers

  shape_is : (t : ℕ) → t < st.used.nodes → (x : d.Shape Places) → (node (tables st) t).value ≡ x → new_shape new x ≡ slid_shape N P V x
  unfolding slid_shape type_at with_args
  shape_is t h d.UnitType e = refl
  shape_is t h (d.Ref m p) e = let b : p < t = rw e at (below t h) in ap (λ (y : ℕ). d.Ref m y) (number_is p (omega (arith, b, h)))
  shape_is t h (d.Param id a) e = refl
  shape_is t h (d.Apply k n p) e =
      let b : Below (tables st).args t (d.Apply k n p) = rw e at (below t h) in
      ap (λ (y : ℕ). d.Apply k n (record { first = y; many = p.many })) (place_is p.first (let l = b.1.0 in omega (arith, l, args_view st.words.now st.used)))
  shape_is t h (d.Var v) e = ap (λ (y : ℕ). d.Var y) (var_is v (let l = reached.vars t v (rw (count_view st.words.now st.used) h) (ap (λ (y : d.Shape Places). with_args (tables st) y) e) in omega (arith, l, taken_view st.words.now st.used)))
  shape_is t h d.Anything e = refl
  shape_is t h d.UnresolvedError e = refl

  node_is : (t : ℕ) → t < st.used.nodes → new_node new (read_node (row node_table st.words.now t)) ≡ record { loc = (node (tables st) t).loc; value = slid_shape N P V (node (tables st) t).value }
  unfolding node view
  node_is t h =
      ap (λ (x : d.Node). new_node new x) (sym (entry_at node_table st.words.now st.used.nodes t nowhere h))
      ∙ ap (λ (y : d.Shape Places). record { loc = (node (tables st) t).loc; value = y }) (shape_is t h (node (tables st) t).value refl)

  arg_low : (i : ℕ) → Memᴰ i P → get_or (tables st).args i 0 < st.used.nodes
  unfolding has_place in_shape
  arg_low i k =
      let e = sym (r.placed.each i) ∙ (those_mem st.used.args (among places) i k).1 in
      let t = any_mem (λ t. has_place (tables st) i t) N e in
      let h = (those_mem st.used.nodes (among m.nodes) t.0 t.1).0 in
      let l = place_low (tables st).args t.0 i (node (tables st) t.0).value t.2 (below t.0 h) in
      omega (arith, h, l)

  arg_is : (i : ℕ) → Memᴰ i P → get_or new.nodes (read_arg (row arg_table st.words.now i)) 0 ≡ slid N (get_or (tables st).args i 0)
  unfolding view
  arg_is i k = ap (λ (x : ℕ). get_or new.nodes x 0) (sym (entry_at arg_table st.words.now st.used.args i 0 (those_mem st.used.args (among places) i k).0)) ∙ number_is (get_or (tables st).args i 0) (arg_low i k)

  binding_is : (b : Option ℕ) → ((t : ℕ) → b ≡ Some t → t < st.used.nodes) → new_binding new b ≡ slid_binding N b
  unfolding slid_binding
  binding_is None h = refl
  binding_is (Some t) h = ap (λ (x : ℕ). Some x) (number_is t (h t refl))

  cell_is : (v : ℕ) → v < st.used.vars
      → new_cell new (read_cell (row var_table st.words.now v)) ≡ record { binding = slid_binding N (get_or (tables st).vars v unbound).binding; numeric = (get_or (tables st).vars v unbound).numeric; need = (get_or (tables st).vars v unbound).need }
  unfolding view get
  cell_is v h =
      ap (λ (x : d.Cell). new_cell new x) (sym (entry_at var_table st.words.now st.used.vars v unbound h))
      ∙ ap (λ (b : Option ℕ). record { binding = b; numeric = (get_or (tables st).vars v unbound).numeric; need = (get_or (tables st).vars v unbound).need })
      (binding_is (get_or (tables st).vars v unbound).binding (λ t e. let l = reached.bound v t e in omega (arith, l, count_view st.words.now st.used)))

  constraint_is : (i : ℕ) → i < st.used.constraints → new_constraint new (read_constraint (row constraint_table st.words.now i)) ≡ of_type (slid N) (read_constraint (row constraint_table st.words.now i))
  unfolding view
  constraint_is i h = of_type_same _ (slid N) (read_constraint (row constraint_table st.words.now i)) (number_is (constraint_type (read_constraint (row constraint_table st.words.now i))) (
      let e = entry_at constraint_table st.words.now st.used.constraints i constraint_table.blank h in
      let l = reached.constraints (get_or (tables st).constraints i constraint_table.blank) (entry_in constraint_table.blank (tables st).constraints i (rw (constraints_view st.words.now st.used) h)) in
      let k : constraint_type (read_constraint (row constraint_table st.words.now i)) < count (tables st) = subst (λ (c : d.Constraint). constraint_type c < count (tables st)) e l in
      omega (arith, k, count_view st.words.now st.used)))

  -- ---- what `cleared` makes of it

  pub reach_is : reach (tables st) listed ≡ record { nodes = N; vars = V }
  reach_is = λ i. record { nodes = nodes_marked st r.as_sound listed r.known m r.stays i; vars = vars_marked st r.as_sound listed r.known m r.stays i }

  places_are : kept_places (tables st) (record { nodes = N; vars = V }) ≡ P
  unfolding kept_places
  places_are = those_same (length (tables st).args) _ (among places) (λ i h. sym (r.placed.each i)) ∙ ap (λ (n : ℕ). those_below n (among places)) (args_view st.words.now st.used)

  cleared_is : cleared (tables st) listed ≡ clear_all (tables st) (record { nodes = N; vars = V }) P
  unfolding cleared
  cleared_is = ap (λ (x : Reach). clear_all (tables st) x (kept_places (tables st) x)) reach_is ∙ ap (λ (p : List ℕ). clear_all (tables st) (record { nodes = N; vars = V }) p) places_are

  -- ---- the words after each table

  module _ {w₁ : List ℕ} {k₁ : ℕ} (a : SlidDown node_table (among m.nodes) (λ t. new_node new (read_node (row node_table st.words.now t))) st.words.now st.used.nodes w₁ k₁) where
    args₁ : Same arg_table st.words.now w₁
    args₁ = apart arg_table node_table (λ i k p q. inr (omega arith)) a.within

    vars₁ : Same var_table st.words.now w₁
    vars₁ = apart var_table node_table (λ i k p q. inr (omega arith)) a.within

    constraints₁ : Same constraint_table st.words.now w₁
    constraints₁ = apart constraint_table node_table (λ i k p q. inr (omega arith)) a.within

    structs₁ : Same struct_table st.words.now w₁
    structs₁ = apart struct_table node_table (λ i k p q. inr (omega arith)) a.within

    pub slides_args : Slides arg_table w₁ st.used.args
    slides_args = record { size = a.within.size ∙ st.lay.size; few = st.lay.args; clean = same_clean arg_table st.words.now w₁ st.used.args args₁ st.lay.args st.lay.clean_args }

    module _ {w₂ : List ℕ} {k₂ : ℕ} (b : SlidDown arg_table (among places) (λ i. get_or new.nodes (read_arg (row arg_table w₁ i)) 0) w₁ st.used.args w₂ k₂) where
      vars₂ : Same var_table st.words.now w₂
      vars₂ = same_both var_table _ _ _ vars₁ (apart var_table arg_table (λ i k p q. inr (omega arith)) b.within)

      constraints₂ : Same constraint_table st.words.now w₂
      constraints₂ = same_both constraint_table _ _ _ constraints₁ (apart constraint_table arg_table (λ i k p q. inr (omega arith)) b.within)

      structs₂ : Same struct_table st.words.now w₂
      structs₂ = same_both struct_table _ _ _ structs₁ (apart struct_table arg_table (λ i k p q. inr (omega arith)) b.within)

      pub slides_vars : Slides var_table w₂ st.used.vars
      slides_vars = record { size = b.within.size ∙ a.within.size ∙ st.lay.size; few = st.lay.vars; clean = same_clean var_table st.words.now w₂ st.used.vars vars₂ st.lay.vars st.lay.clean_vars }

      module _ {w₃ : List ℕ} {k₃ : ℕ} (c : SlidDown var_table (among m.vars) (λ v. new_cell new (read_cell (row var_table w₂ v))) w₂ st.used.vars w₃ k₃) where
        constraints₃ : Same constraint_table st.words.now w₃
        constraints₃ = same_both constraint_table _ _ _ constraints₂ (apart constraint_table var_table (λ i k p q. inr (omega arith)) c.within)

        structs₃ : Same struct_table st.words.now w₃
        structs₃ = same_both struct_table _ _ _ structs₂ (apart struct_table var_table (λ i k p q. inr (omega arith)) c.within)

        pub slides_constraints : Slides constraint_table w₃ st.used.constraints
        slides_constraints = record { size = c.within.size ∙ b.within.size ∙ a.within.size ∙ st.lay.size; few = st.lay.constraints; clean = same_clean constraint_table st.words.now w₃ st.used.constraints constraints₃ st.lay.constraints st.lay.clean_constraints }

        module _ {w₄ : List ℕ} (e : SlidDown constraint_table (λ i. true) (λ i. new_constraint new (read_constraint (row constraint_table w₃ i))) w₃ st.used.constraints w₄ st.used.constraints) where
          structs₄ : Same struct_table st.words.now w₄
          structs₄ = same_both struct_table _ _ _ structs₃ (apart struct_table constraint_table (λ i k p q. inr (omega arith)) e.within)

          nodes₄ : Same node_table w₁ w₄
          nodes₄ = same_both node_table _ _ _ (apart node_table arg_table (λ i k p q. inl (omega (arith, p, q))) b.within) (same_both node_table _ _ _ (apart node_table var_table (λ i k p q. inl (omega (arith, p, q))) c.within) (apart node_table constraint_table (λ i k p q. inl (omega (arith, p, q))) e.within))

          args₄ : Same arg_table w₂ w₄
          args₄ = same_both arg_table _ _ _ (apart arg_table var_table (λ i k p q. inl (omega (arith, p, q))) c.within) (apart arg_table constraint_table (λ i k p q. inl (omega (arith, p, q))) e.within)

          vars₄ : Same var_table w₃ w₄
          vars₄ = apart var_table constraint_table (λ i k p q. inl (omega (arith, p, q))) e.within

          few_nodes : k₁ ≤ 2048
          few_nodes = let l = st.lay.nodes in omega (arith, a.many, those_few st.used.nodes (among m.nodes), l)

          few_args : k₂ ≤ 4096
          few_args = let l = st.lay.args in omega (arith, b.many, those_few st.used.args (among places), l)

          few_vars : k₃ ≤ 1024
          few_vars = let l = st.lay.vars in omega (arith, c.many, those_few st.used.vars (among m.vars), l)

          -- the rows in use then
          abbrev u' : Used
          u' = record { nodes = k₁; args = k₂; vars = k₃; constraints = st.used.constraints; structs = st.used.structs }

          nodes_are : entries node_table w₄ k₁ ≡ map (λ t. record { loc = (node (tables st) t).loc; value = slid_shape N P V (node (tables st) t).value }) N
          nodes_are = same_entries node_table w₁ w₄ k₁ nodes₄ few_nodes ∙ a.done ∙ map_on _ _ N (λ t h. node_is t (those_mem st.used.nodes (among m.nodes) t h).0)

          args_are : entries arg_table w₄ k₂ ≡ map (λ i. slid N (get_or (tables st).args i 0)) P
          args_are =
              same_entries arg_table w₂ w₄ k₂ args₄ few_args
              ∙ b.done
              ∙ map_on _ _ P (λ i h. ap (λ (x : List ℕ). get_or new.nodes (read_arg x) 0) (let l = st.lay.args in args₁ i (omega (arith, l, (those_mem st.used.args (among places) i h).0))) ∙ arg_is i h)

          vars_are : entries var_table w₄ k₃ ≡ map (λ v. record { binding = slid_binding N (get_or (tables st).vars v unbound).binding; numeric = (get_or (tables st).vars v unbound).numeric; need = (get_or (tables st).vars v unbound).need }) V
          vars_are =
              same_entries var_table w₃ w₄ k₃ vars₄ few_vars
              ∙ c.done
              ∙ map_on _ _ V (λ v h. let lt = (those_mem st.used.vars (among m.vars) v h).0 in ap (λ (x : List ℕ). new_cell new (read_cell x)) (let l = st.lay.vars in vars₂ v (omega (arith, l, lt))) ∙ cell_is v lt)

          constraints_are : entries constraint_table w₄ st.used.constraints ≡ map (λ x. of_type (slid N) x) (tables st).constraints
          unfolding view entries
          constraints_are =
              e.done
              ∙ all_tab _ st.used.constraints
              ∙ tab_ext st.used.constraints _ _ (λ i h. ap (λ (x : List ℕ). new_constraint new (read_constraint x)) (let l = st.lay.constraints in constraints₃ i (omega (arith, l, h))) ∙ constraint_is i h)
              ∙ sym (map_tab (λ x. of_type (slid N) x) (λ i. read_constraint (row constraint_table st.words.now i)) st.used.constraints)

          structs_are : entries struct_table w₄ st.used.structs ≡ (tables st).structs
          unfolding view
          structs_are = same_entries struct_table st.words.now w₄ st.used.structs structs₄ st.lay.structs

          pub left_view : view w₄ u' ≡ cleared (tables st) listed
          unfolding view clear_all
          left_view = (λ i. record { nodes = nodes_are i; args = args_are i; vars = vars_are i; constraints = constraints_are i; structs = structs_are i }) ∙ sym cleared_is

          left_inside : Inside (cleared (tables st) listed)
          unfolding with_structs node get seen s₀
          left_inside =
              let q = taken_all st r.as_sound listed r.known m r.stays in
              let i : Inside (with_structs (cleared (tables st) listed) r.as_sound.structs) = subst Inside (cleared_here (tables st) r.as_sound.structs listed) (sound_inside (cleared (held st r.as_sound.structs) listed) (cleared_sound (held st r.as_sound.structs) r.as_sound.is_sound listed q)) in
              record { parts = i.parts; bindings = i.bindings }

          pub left_lay : Lay w₄ u'
          left_lay = record {
            size = e.within.size ∙ c.within.size ∙ b.within.size ∙ a.within.size ∙ st.lay.size;
            nodes = few_nodes;
            args = few_args;
            vars = few_vars;
            constraints = st.lay.constraints;
            structs = st.lay.structs;
            clean_nodes = same_clean node_table w₁ w₄ k₁ nodes₄ few_nodes a.clean;
            clean_args = same_clean arg_table w₂ w₄ k₂ args₄ few_args b.clean;
            clean_vars = same_clean var_table w₃ w₄ k₃ vars₄ few_vars c.clean;
            clean_constraints = e.clean;
            clean_structs = same_clean struct_table st.words.now w₄ st.used.structs structs₄ st.lay.structs st.lay.clean_structs;
            inside = subst Inside (sym left_view) left_inside;
          }
