-- What a store does to the state that the words hold. Assumes nothing.
use mathlib.Core.Path.{◌≡◌, refl, sym, ap, ap₂, ◌∙◌, subst}
use mathlib.Core.List.{List, [], ◌∷◌, ◌++◌}
use Rattle.std.specs.Prelude.{Option, Some}
use Prim.Native.Nat.{ℕ, ◌+◌, ◌*◌, ◌-◌, ◌≤◌, ◌<◌}
use native.Mathlib.Omega.{arith}
use native.Mathlib.Decide.{dec_lt}
use borrow.Author.Tests.{lt-ltb, le-ltb}
use lib.ListN.{length, get_or, take, length-append, get_or-append, length-set, replicate, length-replicate}
use lib.Seq.{ext_get_or, get_or-append-add, get_or-take, length-take-le, set_out, get_or_at}
use Rattle.definition.specs.Types.{State, Struct, Shape, Places, Node, TypeValue, Cell, unbound, Constraint, ok}
use Rattle.definition.specs.Store.{count, taken, with_vars, with_var, with_constraints, with_structs, with_node, args_of, stored, sp, next_tvar, declare}
use Rattle.table.specs.Rows.{row, entries, Clean, Written, arg_words, read_arg, node_table, arg_table, var_table, constraint_table, struct_table}
use Rattle.table.specs.State.{view, seen, Below, Inside, Lay, Grown, Wrote, Changed, After, Stored, Declared, VarIn, one_var, outcome, cell, with_cell, pushed_constraint}
use Rattle.table.specs.declared.Used.{Used}
use Rattle.refusals.specs.declared.Refusal.TheVariants.{Full}
use Rattle.table.proofs.Rows.{length_entries, entry_at, entry_out, Same, same_entries, same_clean, apart, Put, put_row, put_push, put_push_clean, put_blank, put_set, put_set_clean}
use Rattle.table.proofs.Written.{node_long, cell_again, cell_long, constraint_long, struct_long}
use Rattle.table.proofs.Fields.{arg_row}
use Rattle.table.proofs.States.{sp_room, sp_no_node, sp_no_place, tvar_room, tvar_full, constraint_room, constraint_full, declare_room, declare_full, inside_node, inside_cell, inside_var, inside_constraints, inside_structs, grown_node, grown_vars, grown_constraint, grown_struct}
use Rattle.table.proofs.Steps.{grown_refl, refines_now, refines_by, after_now}
use Rattle.table.specs.declared.state.Stop.TheVariants.{Refused}
use Rattle.std.specs.Prelude.{Ok, Err}

-- ---- as many rows as are in use

module _ (w : List ℕ) (u : Used) where
  pub count_view : count (view w u) ≡ u.nodes
  unfolding view
  count_view = length_entries node_table w u.nodes

  pub args_view : length (view w u).args ≡ u.args
  unfolding view
  args_view = length_entries arg_table w u.args

  pub taken_view : taken (view w u) ≡ u.vars
  unfolding view
  taken_view = length_entries var_table w u.vars

  pub constraints_view : length (view w u).constraints ≡ u.constraints
  unfolding view
  constraints_view = length_entries constraint_table w u.constraints

  pub structs_view : length (view w u).structs ≡ u.structs
  unfolding view
  structs_view = length_entries struct_table w u.structs

  module _ (ds : List Struct) where
    pub count_seen : count (seen w u ds) ≡ u.nodes
    unfolding seen with_structs
    count_seen = count_view

    pub args_seen : length (seen w u ds).args ≡ u.args
    unfolding seen with_structs
    args_seen = args_view

    pub taken_seen : taken (seen w u ds) ≡ u.vars
    unfolding seen with_structs
    taken_seen = taken_view

    pub constraints_seen : length (seen w u ds).constraints ≡ u.constraints
    unfolding seen with_structs
    constraints_seen = constraints_view

-- ---- argument places

module _ (w : List ℕ) (m k : ℕ) (parts w' : List ℕ) (h : Wrote w (12293 + m) k parts w') where
  arg_at : (i : ℕ) → i < m + k → get_or (entries arg_table w' (m + k)) i 0 ≡ get_or w' (12293 + i) 0
  unfolding read_arg
  arg_at i lt = entry_at arg_table w' (m + k) i 0 lt ∙ ap read_arg (arg_row w' i)

  pub args_pushed : k ≤ length parts → entries arg_table w' (m + k) ≡ entries arg_table w m ++ take k parts
  unfolding read_arg
  args_pushed le =
      ext_get_or 0 _ _ (length_entries arg_table w' (m + k) ∙ sym (length-append (entries arg_table w m) (take k parts) ∙ ap₂ ◌+◌ (length_entries arg_table w m) (length-take-le k parts le))) (λ i p.
      let lt : i < m + k = rw (length_entries arg_table w' (m + k)) at p in
      arg_at i lt ∙ by i lt (dec_lt i m))
    where
      by : (i : ℕ) → i < m + k → Dec (i < m) → get_or w' (12293 + i) 0 ≡ get_or (entries arg_table w m ++ take k parts) i 0
      by i lt (yes p) =
          h.there (12293 + i) (λ j q e. omega arith)
          ∙ sym (get_or-append (entries arg_table w m) (take k parts) 0 i (rw (length_entries arg_table w m) p) ∙ entry_at arg_table w m i 0 p ∙ ap read_arg (arg_row w i))
      by i lt (no p) =
          let e : 12293 + m + (i - m) ≡ 12293 + i = omega arith in
          let f : length (entries arg_table w m) + (i - m) ≡ i = omega (arith, length_entries arg_table w m) in
          sym (ap (λ (x : ℕ). get_or w' x 0) e)
          ∙ h.here (i - m) (omega arith)
          ∙ sym (get_or-take k parts (i - m) 0 (omega arith))
          ∙ sym (get_or-append-add (entries arg_table w m) (take k parts) (i - m) 0)
          ∙ ap (λ (x : ℕ). get_or (entries arg_table w m ++ take k parts) x 0) f

  pub args_clean : Clean arg_table w m → Clean arg_table w' (m + k)
  unfolding Clean arg_words
  args_clean c i p = by (dec_lt i (m + k))
    where
      by : Dec (i < m + k) → row arg_table w' i ≡ get_or (entries arg_table w' (m + k)) i 0 ∷ []
      by (yes q) = arg_row w' i ∙ ap (λ (x : ℕ). x ∷ []) (sym (arg_at i q))
      by (no q) =
          arg_row w' i
          ∙ ap (λ (x : ℕ). x ∷ []) (h.there (12293 + i) (λ j r e. omega arith))
          ∙ sym (arg_row w i)
          ∙ c i p
          ∙ ap (λ (x : ℕ). x ∷ []) (entry_out arg_table w m i 0 (omega arith) ∙ sym (entry_out arg_table w' (m + k) i 0 (omega arith)))

-- ---- a node, with its arguments

module _ (w : List ℕ) (u : Used) (loc : ℕ) (v : TypeValue) (h : Lay w u) where
  pub node_full : 2048 ≤ u.nodes → After w u w (record { out = Err (Refused Full); used = u }) (λ s. sp s loc v)
  unfolding outcome
  node_full le = after_now h tt (λ ds k. sym (sp_no_node (seen w u ds) loc v (rw (count_seen w u ds) le)))

  pub places_full : u.nodes < 2048 → 4096 < u.args + length (args_of v) → After w u w (record { out = Err (Refused Full); used = u }) (λ s. sp s loc v)
  unfolding outcome
  places_full lt le = after_now h tt (λ ds k. sym (sp_no_place (seen w u ds) loc v (rw (count_seen w u ds) lt) (rw (args_seen w u ds) le)))

  module _ (parts : List ℕ) (n m : ℕ) (w₁ r w' : List ℕ) (sh : Shape Places)
      (lt : u.nodes < 2048) (room : u.args + n ≤ 4096) (long : n ≤ length parts) (many : m ≡ u.args + n)
      (args : args_of v ≡ take n parts) (is : stored u.args v ≡ sh)
      (first : Wrote w (12293 + u.args) n parts w₁) (second : Wrote w₁ (5 + u.nodes * 6) 6 r w') (node : Written node_table r (record { loc = loc; value = sh })) (below : Below ((view w u).args ++ args_of v) u.nodes sh) where
    abbrev a : Node
    a = record { loc = loc; value = sh }

    abbrev u' : Used
    u' = record { nodes = u.nodes + 1; args = m; vars = u.vars; constraints = u.constraints; structs = u.structs }

    put : Put node_table w₁ u.nodes a w'
    put = put_row node_table w₁ u.nodes r w' a second node (node_long a) (λ i k l ne p q e. ne (omega arith))

    same_nodes : Same node_table w w₁
    same_nodes = apart node_table w (12293 + u.args) n parts w₁ first (λ i k l p q s e. omega arith)

    same_args : Same arg_table w₁ w'
    same_args = apart arg_table w₁ (5 + u.nodes * 6) 6 r w' second (λ i k l p q s e. omega arith)

    same_vars : Same var_table w w'
    same_vars i p = apart var_table w₁ (5 + u.nodes * 6) 6 r w' second (λ i k l p q s e. omega arith) i p ∙ apart var_table w (12293 + u.args) n parts w₁ first (λ i k l p q s e. omega arith) i p

    same_constraints : Same constraint_table w w'
    same_constraints i p = apart constraint_table w₁ (5 + u.nodes * 6) 6 r w' second (λ i k l p q s e. omega arith) i p ∙ apart constraint_table w (12293 + u.args) n parts w₁ first (λ i k l p q s e. omega arith) i p

    same_structs : Same struct_table w w'
    same_structs i p = apart struct_table w₁ (5 + u.nodes * 6) 6 r w' second (λ i k l p q s e. omega arith) i p ∙ apart struct_table w (12293 + u.args) n parts w₁ first (λ i k l p q s e. omega arith) i p

    node_view : view w' u' ≡ with_node (view w u) loc v
    unfolding view with_node
    node_view =
        λ i. record {
          nodes =
              (put_push node_table w₁ u.nodes a w' put lt node.again
              ∙ ap₂ (λ (l : List Node) (x : Shape Places). l ++ (record { loc = loc; value = x } ∷ [])) (same_entries node_table w w₁ u.nodes same_nodes (omega arith)) (sym is ∙ ap (λ (x : ℕ). stored x v) (sym (args_view w u)))) i;
          args =
              (ap (entries arg_table w') many
              ∙ same_entries arg_table w₁ w' (u.args + n) same_args room
              ∙ args_pushed w u.args n parts w₁ first long
              ∙ ap (λ (l : List ℕ). entries arg_table w u.args ++ l) (sym args)) i;
          vars = same_entries var_table w w' u.vars same_vars h.vars i;
          constraints = same_entries constraint_table w w' u.constraints same_constraints h.constraints i;
          structs = same_entries struct_table w w' u.structs same_structs h.structs i;
        }

    node_lay : Lay w' u'
    node_lay =
        record {
          size = second.size ∙ first.size ∙ h.size;
          nodes = omega arith;
          args = omega arith;
          vars = h.vars;
          constraints = h.constraints;
          structs = h.structs;
          clean_nodes = put_push_clean node_table w₁ u.nodes a w' put lt node.again (same_clean node_table w w₁ u.nodes same_nodes (omega arith) h.clean_nodes);
          clean_args = subst (Clean arg_table w') (sym many) (same_clean arg_table w₁ w' (u.args + n) same_args room (args_clean w u.args n parts w₁ first h.clean_args));
          clean_vars = same_clean var_table w w' u.vars same_vars h.vars h.clean_vars;
          clean_constraints = same_clean constraint_table w w' u.constraints same_constraints h.constraints h.clean_constraints;
          clean_structs = same_clean struct_table w w' u.structs same_structs h.structs h.clean_structs;
          inside = subst Inside (sym node_view) (inside_node (view w u) loc v h.inside (rw (count_view w u, args_view w u, is) below));
        }

    node_room : (ds : List Struct) → outcome (Ok u.nodes) (with_structs (with_node (view w u) loc v) ds) ≡ sp (seen w u ds) loc v
    unfolding outcome seen with_structs with_node
    node_room ds =
        let few : length (args_of v) ≡ n = ap length args ∙ length-take-le n parts long in
        sym (sp_room (seen w u ds) loc v (rw (count_seen w u ds) lt) (rw (args_seen w u ds, few) room) ∙ ap (λ (x : ℕ). ok (with_node (seen w u ds) loc v, x)) (count_seen w u ds))

    pub node_pushed : After w u w' (record { out = Ok u.nodes; used = u' }) (λ s. sp s loc v)
    unfolding with_node
    node_pushed = record { changed = refines_by (with_node (view w u) loc v) node_lay node_view (grown_node (view w u) loc v) refl (λ ds k. node_room ds); inside = omega arith }

-- ---- a variable is taken: its row is blank already

module _ (w : List ℕ) (u : Used) (h : Lay w u) where
  var_full : 1024 ≤ u.vars → Changed w u w (record { out = Err (Refused Full); used = u }) (λ s. next_tvar s)
  unfolding outcome
  var_full le = refines_now h (λ ds k. sym (tvar_full (seen w u ds) (rw (taken_seen w u ds) le)))

  module _ (lt : u.vars < 1024) where
    abbrev one_more : Used
    one_more = record { nodes = u.nodes; args = u.args; vars = u.vars + 1; constraints = u.constraints; structs = u.structs }

    blank_row : Put var_table w u.vars unbound w
    blank_row = put_blank var_table w u.vars lt h.clean_vars

    var_view : view w one_more ≡ with_var (view w u)
    unfolding view with_var with_vars
    var_view =
        λ i. record {
          nodes = entries node_table w u.nodes;
          args = entries arg_table w u.args;
          vars = put_push var_table w u.vars unbound w blank_row lt (cell_again unbound) i;
          constraints = entries constraint_table w u.constraints;
          structs = entries struct_table w u.structs;
        }

    var_lay : Lay w one_more
    var_lay =
        record {
          size = h.size;
          nodes = h.nodes;
          args = h.args;
          vars = omega arith;
          constraints = h.constraints;
          structs = h.structs;
          clean_nodes = h.clean_nodes;
          clean_args = h.clean_args;
          clean_vars = put_push_clean var_table w u.vars unbound w blank_row lt (cell_again unbound) h.clean_vars;
          clean_constraints = h.clean_constraints;
          clean_structs = h.clean_structs;
          inside = subst Inside (sym var_view) (inside_var (view w u) h.inside);
        }

    var_room : (ds : List Struct) → outcome (Ok u.vars) (with_structs (with_var (view w u)) ds) ≡ next_tvar (seen w u ds)
    unfolding outcome seen with_structs with_var with_vars
    var_room ds = sym (tvar_room (seen w u ds) (rw (taken_seen w u ds) lt) ∙ ap (λ (x : ℕ). ok (with_var (seen w u ds), x)) (taken_seen w u ds))

    var_taken : Changed w u w (record { out = Ok u.vars; used = one_more }) (λ s. next_tvar s) × VarIn (u.vars + 1) (Ok u.vars)
    unfolding with_var with_vars
    var_taken = (refines_by (with_var (view w u)) var_lay var_view (grown_vars (view w u) _ (rw (length-append (view w u).vars (unbound ∷ [])) (omega arith))) refl (λ ds k. var_room ds), omega arith)

  pub var_stepped : Changed w u w (one_var u) (λ s. next_tvar s) × VarIn (one_var u).used.vars (one_var u).out
  unfolding one_var
  var_stepped = elim (dec_lt u.vars 1024) [ yes l ↦ rw (lt-ltb _ _ l) (var_taken l) | no l ↦ let g : 1024 ≤ u.vars = omega arith in rw (le-ltb _ _ g) (var_full g, tt) ]

-- ---- a variable's row is written

module _ (w : List ℕ) (u : Used) (v : ℕ) (b m : Option ℕ) (n : ℕ) (h : Lay w u) (node : (t : ℕ) → b ≡ Some t → t < u.nodes) where
  abbrev c : Cell
  c = cell b m n

  cell_grown : Grown (view w u) (with_cell v b m n (view w u))
  unfolding with_cell
  cell_grown = grown_vars (view w u) _ (rw (length-set (view w u).vars v c) (omega arith))

  cell_inside : Inside (with_cell v b m n (view w u))
  cell_inside = inside_cell (view w u) v b m n h.inside (λ t e. rw (count_view w u) (node t e))

  cell_seen : (ds : List Struct) → with_structs (with_cell v b m n (view w u)) ds ≡ with_cell v b m n (seen w u ds)
  unfolding seen with_structs with_cell with_vars
  cell_seen ds = refl

  cell_structs : (with_cell v b m n (view w u)).structs ≡ (view w u).structs
  unfolding with_cell with_vars
  cell_structs = refl

  -- past the variables in use nothing is written
  none_view : u.vars ≤ v → view w u ≡ with_cell v b m n (view w u)
  unfolding with_cell with_vars
  none_view le =
      λ i. record {
        nodes = (view w u).nodes;
        args = (view w u).args;
        vars = sym (set_out (view w u).vars v c (rw (taken_view w u) le)) i;
        constraints = (view w u).constraints;
        structs = (view w u).structs;
      }

  pub cell_none : u.vars ≤ v → Stored w u w (with_cell v b m n)
  cell_none le = refines_by (with_cell v b m n (view w u)) h (none_view le) cell_grown cell_structs (λ ds k. cell_seen ds)

  module _ (r w' : List ℕ) (lt : v < u.vars) (wrote : Wrote w (16389 + v * 5) 5 r w') (q : Written var_table r c) where
    put_c : Put var_table w v c w'
    put_c = put_row var_table w v r w' c wrote q (cell_long c) (λ i k l ne p q e. ne (omega arith))

    kept_nodes : Same node_table w w'
    kept_nodes = apart node_table w (16389 + v * 5) 5 r w' wrote (λ i k l p q s e. omega arith)

    kept_args : Same arg_table w w'
    kept_args = apart arg_table w (16389 + v * 5) 5 r w' wrote (λ i k l p q s e. omega arith)

    kept_constraints : Same constraint_table w w'
    kept_constraints = apart constraint_table w (16389 + v * 5) 5 r w' wrote (λ i k l p q s e. let x = h.vars in omega arith)

    kept_structs : Same struct_table w w'
    kept_structs = apart struct_table w (16389 + v * 5) 5 r w' wrote (λ i k l p q s e. let x = h.vars in omega arith)

    cell_view : view w' u ≡ with_cell v b m n (view w u)
    unfolding view with_cell with_vars
    cell_view =
        λ i. record {
          nodes = same_entries node_table w w' u.nodes kept_nodes h.nodes i;
          args = same_entries arg_table w w' u.args kept_args h.args i;
          vars = put_set var_table w u.vars v c w' put_c lt h.vars q.again i;
          constraints = same_entries constraint_table w w' u.constraints kept_constraints h.constraints i;
          structs = same_entries struct_table w w' u.structs kept_structs h.structs i;
        }

    cell_lay : Lay w' u
    cell_lay =
        record {
          size = wrote.size ∙ h.size;
          nodes = h.nodes;
          args = h.args;
          vars = h.vars;
          constraints = h.constraints;
          structs = h.structs;
          clean_nodes = same_clean node_table w w' u.nodes kept_nodes h.nodes h.clean_nodes;
          clean_args = same_clean arg_table w w' u.args kept_args h.args h.clean_args;
          clean_vars = put_set_clean var_table w u.vars v c w' put_c lt h.vars q.again h.clean_vars;
          clean_constraints = same_clean constraint_table w w' u.constraints kept_constraints h.constraints h.clean_constraints;
          clean_structs = same_clean struct_table w w' u.structs kept_structs h.structs h.clean_structs;
          inside = subst Inside (sym cell_view) cell_inside;
        }

    pub cell_put : Stored w u w' (with_cell v b m n)
    cell_put = refines_by (with_cell v b m n (view w u)) cell_lay cell_view cell_grown cell_structs (λ ds k. cell_seen ds)

-- ---- a constraint is listed

module _ (w : List ℕ) (u : Used) (x : Constraint) (h : Lay w u) where
  pub constraints_full : 512 ≤ u.constraints → Changed w u w (record { out = Err (Refused Full); used = u }) (pushed_constraint x)
  unfolding outcome
  constraints_full le = refines_now h (λ ds k. sym (constraint_full (seen w u ds) x (rw (constraints_seen w u ds) le)))

  module _ (r w' : List ℕ) (lt : u.constraints < 512) (wrote : Wrote w (21509 + u.constraints * 4) 4 r w') (q : Written constraint_table r x) where
    abbrev listed : Used
    listed = record { nodes = u.nodes; args = u.args; vars = u.vars; constraints = u.constraints + 1; structs = u.structs }

    put_x : Put constraint_table w u.constraints x w'
    put_x = put_row constraint_table w u.constraints r w' x wrote q (constraint_long x) (λ i k l ne p q e. ne (omega arith))

    c_nodes : Same node_table w w'
    c_nodes = apart node_table w (21509 + u.constraints * 4) 4 r w' wrote (λ i k l p q s e. omega arith)

    c_args : Same arg_table w w'
    c_args = apart arg_table w (21509 + u.constraints * 4) 4 r w' wrote (λ i k l p q s e. omega arith)

    c_vars : Same var_table w w'
    c_vars = apart var_table w (21509 + u.constraints * 4) 4 r w' wrote (λ i k l p q s e. omega arith)

    c_structs : Same struct_table w w'
    c_structs = apart struct_table w (21509 + u.constraints * 4) 4 r w' wrote (λ i k l p q s e. omega arith)

    constraint_view : view w' listed ≡ with_constraints (view w u) ((view w u).constraints ++ (x ∷ []))
    unfolding view with_constraints
    constraint_view =
        λ i. record {
          nodes = same_entries node_table w w' u.nodes c_nodes h.nodes i;
          args = same_entries arg_table w w' u.args c_args h.args i;
          vars = same_entries var_table w w' u.vars c_vars h.vars i;
          constraints = put_push constraint_table w u.constraints x w' put_x lt q.again i;
          structs = same_entries struct_table w w' u.structs c_structs h.structs i;
        }

    constraint_lay : Lay w' listed
    constraint_lay =
        record {
          size = wrote.size ∙ h.size;
          nodes = h.nodes;
          args = h.args;
          vars = h.vars;
          constraints = omega arith;
          structs = h.structs;
          clean_nodes = same_clean node_table w w' u.nodes c_nodes h.nodes h.clean_nodes;
          clean_args = same_clean arg_table w w' u.args c_args h.args h.clean_args;
          clean_vars = same_clean var_table w w' u.vars c_vars h.vars h.clean_vars;
          clean_constraints = put_push_clean constraint_table w u.constraints x w' put_x lt q.again h.clean_constraints;
          clean_structs = same_clean struct_table w w' u.structs c_structs h.structs h.clean_structs;
          inside = subst Inside (sym constraint_view) (inside_constraints (view w u) _ h.inside);
        }

    listed_room : (ds : List Struct) → outcome (Ok 0) (with_structs (with_constraints (view w u) ((view w u).constraints ++ (x ∷ []))) ds) ≡ pushed_constraint x (seen w u ds)
    unfolding outcome seen with_structs with_constraints
    listed_room ds = sym (constraint_room (seen w u ds) x (rw (constraints_seen w u ds) lt))

    pub constraint_pushed : Changed w u w' (record { out = Ok 0; used = listed }) (pushed_constraint x)
    unfolding with_constraints
    constraint_pushed = refines_by (with_constraints (view w u) ((view w u).constraints ++ (x ∷ []))) constraint_lay constraint_view (grown_constraint (view w u) x) refl (λ ds k. listed_room ds)

-- ---- a struct is declared

module _ (w : List ℕ) (u : Used) (abilities params : ℕ) (h : Lay w u) where
  pub structs_full : 256 ≤ u.structs → Declared w u w (record { out = Err (Refused Full); used = u }) abilities params
  unfolding outcome seen with_structs
  structs_full le =
      record {
        lay = h;
        grown = grown_refl (view w u);
        is = λ ds ps e. sym (declare_full (seen w u ds) abilities ps (rw e le));
        declares = λ ds ps q e. q;
      }

  abbrev zeroed : Struct
  zeroed = record { abilities = abilities; params = replicate params 0 }

  module _ (r w' : List ℕ) (lt : u.structs < 256) (wrote : Wrote w (23557 + u.structs * 2) 2 r w') (q : Written struct_table r zeroed) where
    abbrev declared : Used
    declared = record { nodes = u.nodes; args = u.args; vars = u.vars; constraints = u.constraints; structs = u.structs + 1 }

    put_d : Put struct_table w u.structs zeroed w'
    put_d = put_row struct_table w u.structs r w' zeroed wrote q (struct_long zeroed) (λ i k l ne p q e. ne (omega arith))

    d_nodes : Same node_table w w'
    d_nodes = apart node_table w (23557 + u.structs * 2) 2 r w' wrote (λ i k l p q s e. omega arith)

    d_args : Same arg_table w w'
    d_args = apart arg_table w (23557 + u.structs * 2) 2 r w' wrote (λ i k l p q s e. omega arith)

    d_vars : Same var_table w w'
    d_vars = apart var_table w (23557 + u.structs * 2) 2 r w' wrote (λ i k l p q s e. omega arith)

    d_constraints : Same constraint_table w w'
    d_constraints = apart constraint_table w (23557 + u.structs * 2) 2 r w' wrote (λ i k l p q s e. omega arith)

    struct_view : view w' declared ≡ with_structs (view w u) ((view w u).structs ++ (zeroed ∷ []))
    unfolding view with_structs
    struct_view =
        λ i. record {
          nodes = same_entries node_table w w' u.nodes d_nodes h.nodes i;
          args = same_entries arg_table w w' u.args d_args h.args i;
          vars = same_entries var_table w w' u.vars d_vars h.vars i;
          constraints = same_entries constraint_table w w' u.constraints d_constraints h.constraints i;
          structs = put_push struct_table w u.structs zeroed w' put_d lt q.again i;
        }

    struct_lay : Lay w' declared
    struct_lay =
        record {
          size = wrote.size ∙ h.size;
          nodes = h.nodes;
          args = h.args;
          vars = h.vars;
          constraints = h.constraints;
          structs = omega arith;
          clean_nodes = same_clean node_table w w' u.nodes d_nodes h.nodes h.clean_nodes;
          clean_args = same_clean arg_table w w' u.args d_args h.args h.clean_args;
          clean_vars = same_clean var_table w w' u.vars d_vars h.vars h.clean_vars;
          clean_constraints = same_clean constraint_table w w' u.constraints d_constraints h.constraints h.clean_constraints;
          clean_structs = put_push_clean struct_table w u.structs zeroed w' put_d lt q.again h.clean_structs;
          inside = subst Inside (sym struct_view) (inside_structs (view w u) _ h.inside);
        }

    rows_then : (view w' declared).structs ≡ (view w u).structs ++ (zeroed ∷ [])
    unfolding with_structs
    rows_then = ap (λ (s : State). s.structs) struct_view

    struct_room : (ds : List Struct) (ps : List ℕ) → length ds ≡ u.structs → outcome (Ok u.structs) (seen w' declared (ds ++ (record { abilities = abilities; params = ps } ∷ []))) ≡ declare (seen w u ds) abilities ps
    unfolding outcome seen with_structs
    struct_room ds ps e =
        ap (λ (s : State). ok (with_structs s (ds ++ (record { abilities = abilities; params = ps } ∷ [])), u.structs)) struct_view
        ∙ sym (declare_room (seen w u ds) abilities ps (rw e lt) ∙ ap (λ (x : ℕ). ok (with_structs (view w u) (ds ++ (record { abilities = abilities; params = ps } ∷ [])), x)) e)

    -- two lists that agree, and one entry more on each
    module _ (ds : List Struct) (x : Struct) (long : length ds ≡ u.structs) where
      more_agree : {A : Type 0} (f : Struct → A) → ((i : ℕ) → i < u.structs → f (get_or ds i struct_table.blank) ≡ f (get_or (view w u).structs i struct_table.blank)) → f x ≡ f zeroed
          → (i : ℕ) → i < u.structs + 1 → f (get_or (ds ++ (x ∷ [])) i struct_table.blank) ≡ f (get_or (view w' declared).structs i struct_table.blank)
      more_agree f old new i p = by (dec_lt i u.structs) ∙ ap (λ (l : List Struct). f (get_or l i struct_table.blank)) (sym rows_then)
        where
          by : Dec (i < u.structs) → f (get_or (ds ++ (x ∷ [])) i struct_table.blank) ≡ f (get_or ((view w u).structs ++ (zeroed ∷ [])) i struct_table.blank)
          by (yes l) =
              ap f (get_or-append ds (x ∷ []) struct_table.blank i (rw long l))
              ∙ old i l
              ∙ ap f (sym (get_or-append (view w u).structs (zeroed ∷ []) struct_table.blank i (rw (structs_view w u) l)))
          by (no l) =
              let e : u.structs ≡ i = omega arith in
              ap f (get_or_at ds x [] struct_table.blank i (long ∙ e)) ∙ new ∙ ap f (sym (get_or_at (view w u).structs zeroed [] struct_table.blank i (structs_view w u ∙ e)))

    pub struct_pushed : Declared w u w' (record { out = Ok u.structs; used = declared }) abilities params
    struct_pushed =
        record {
          lay = struct_lay;
          grown = subst (λ (x : State). Grown (view w u) x) (sym struct_view) (grown_struct (view w u) zeroed);
          is = struct_room;
          declares = λ ds ps g e. record {
            many = length-append ds _ ∙ ap (λ (x : ℕ). x + 1) g.many;
            abilities = more_agree ds (record { abilities = abilities; params = ps }) g.many (λ (x : Struct). x.abilities) g.abilities refl;
            params = more_agree ds (record { abilities = abilities; params = ps }) g.many (λ (x : Struct). length x.params) g.params (e ∙ sym (length-replicate {A = ℕ} params 0));
          };
        }
