-- What `table` does under the histories: the entries say of the variables what they did, and nothing of a fresh one. Assumes nothing.
use mathlib.Core.Path.{◌≡◌, refl, sym, ap, ◌∙◌}
use mathlib.Core.List.{List, [], ◌∷◌, ◌++◌}
use Prim.Native.Nat.{ℕ, ◌+◌, ◌*◌, ◌-◌, ◌≤◌, ◌<◌}
use native.Mathlib.Omega.{arith}
use lib.ListN.{length, get_or, length-append}
use Rattle.std.specs.Prelude.{Ok, Err, if◌then◌else◌}
use Rattle.std.specs.Prelude as core
use Rattle.definition.specs.Types.{Bool, true, false, State, Cell, unbound, Struct, TypeValue, Result, ok, err, refused, leb, ltb, full, max_nodes, max_args, max_vars}
use Rattle.definition.specs.Store.{count, taken, args_of, with_vars, with_var, with_node, sp, next_tvar}
use Rattle.names.specs.declared.TVar.{TVar}
use Rattle.table.specs.Tab.{tab}
use Rattle.table.specs.State.{Any, view, seen, Lay, Grown, Refines, outcome}
use Rattle.table.specs.Out.{Out}
use Rattle.table.specs.Did.{Did, Took, tables, number_of}
use Rattle.table.specs.declared.Used.{Used}
use Rattle.table.specs.declared.state.State.{State as Table}
use Rattle.table.specs.declared.state.Stop.{Stop}
use Rattle.table.specs.declared.state.Stop.TheVariants.{Failed, Refused}
use Rattle.table.proofs.Grown.{nodes_grow}
use Rattle.table.proofs.Pushed.{taken_view, taken_seen}
use Rattle.table.proofs.Tab.{length_tab, tab_more}
use Rattle.history.specs.Room.{room}
use Rattle.history.specs.History.{no_binding, no_mark, cell_of, words_of, Holds}
use Rattle.history.specs.Past.{as_rows, Within, Frees}
use Rattle.history.specs.declared.Binding.{Binding}
use Rattle.history.specs.declared.Mark.{Mark}
use Rattle.history.specs.declared.Past.{Past}
use Rattle.history.proofs.Words.{view_of, lay_of, cell_above}
use Rattle.history.proofs.Reading.{is_seen}
use Rattle.history.proofs.Room.{room_fresh}
use Rattle.history.proofs.Bound.{linked_any}

-- ---- functions that leave the variables alone

-- the same answer, in states with these cells
abbrev pub under : List Cell → Result (State × ℕ) → Result (State × ℕ)
under l (ok x) = ok (with_vars x.0 l, x.1)
under l (err s e) = err (with_vars s l) e
under l (refused x) = refused x

under_if : (l : List Cell) (b : Bool) (x y : Result (State × ℕ)) → (if b then under l x else under l y) ≡ under l (if b then x else y)
under_if l true x y = refl
under_if l false x y = refl

sp_under : (loc : ℕ) (v : TypeValue) (s : State) (l : List Cell) → sp (with_vars s l) loc v ≡ under l (sp s loc v)
unfolding sp with_vars with_node
sp_under loc v s l =
    ap (λ (x : Result (State × ℕ)). if ltb (count s) max_nodes then x else refused full) (under_if l (leb (length s.args + length (args_of v)) max_args) (ok (with_node s loc v, count s)) (refused full))
    ∙ under_if l (ltb (count s) max_nodes) _ _

abbrev and_fresh : List Cell → List Cell
and_fresh l = l ++ (unbound ∷ [])

tvar_under : (s : State) (l : List Cell) → length l ≡ taken s → next_tvar (with_vars s l) ≡ under (and_fresh l) (next_tvar s)
unfolding next_tvar with_var with_vars
tvar_under s l e = rw e (under_if (and_fresh l) (ltb (taken s) max_vars) (ok (with_var s, taken s)) (refused full))

abbrev cells_of : Result (State × ℕ) → List Cell
cells_of (ok x) = x.0.vars
cells_of (err s e) = s.vars
cells_of (refused x) = []

-- f makes `new l` of the cells l, whatever they say
module _ (new : List Cell → List Cell) (s t : State) (f : State → Result (State × ℕ)) (alike : (l : List Cell) → length l ≡ taken s → f (with_vars s l) ≡ under (new l) (f s)) where
  still : (r : Out) → outcome r t ≡ f s → outcome r t ≡ under (new s.vars) (outcome r t)
  unfolding with_vars
  still r e = e ∙ alike s.vars refl ∙ ap (under (new s.vars)) (sym e)

  pub taken_then : (n : ℕ) → outcome (Ok n) t ≡ f s → taken t ≡ length (new s.vars)
  unfolding outcome with_vars
  taken_then n e = ap (λ (x : Result (State × ℕ)). length (cells_of x)) (still (Ok n) e)

  pub alike_then : (r : Out) → outcome r t ≡ f s → (l m : List Cell) → length l ≡ taken s → (taken t ≡ length (new s.vars) → m ≡ new l) → outcome r (with_vars t m) ≡ f (with_vars s l)
  unfolding outcome with_vars
  alike_then (Ok n) e l m q k = ap (λ (c : List Cell). ok (with_vars t c, n)) (k (taken_then n e)) ∙ ap (under (new l)) e ∙ sym (alike l q)
  alike_then (Err (Failed x)) e l m q k =
      let z : taken t ≡ length (new s.vars) = ap (λ (y : Result (State × ℕ)). length (cells_of y)) (still (Err (Failed x)) e) in
      ap (λ (c : List Cell). outcome (Err (Failed x)) (with_vars t c)) (k z) ∙ ap (under (new l)) e ∙ sym (alike l q)
  alike_then (Err (Refused x)) e l m q k = ap (under (new l)) e ∙ sym (alike l q)

-- ---- the words

module _ (w : List ℕ) (u : Used) (lay : Lay w u) (h : List Binding) (n : ℕ) (m : List Mark) (k : ℕ) (a : Holds w u h n m k) (w' : List ℕ) (u' : Used) (lay' : Lay w' u') (g : Grown (view w u) (view w' u')) where
  abbrev cell : ℕ → Cell
  cell = cell_of h n m k

  more : u.vars ≤ u'.vars
  more = omega (arith, g.vars, taken_view w u, taken_view w' u')

  vars_bound : (i : ℕ) → i < n → (get_or h i no_binding).tvar < u'.vars
  vars_bound i p = omega (arith, a.vars_bound i p, more)

  nodes_bound : (i : ℕ) → i < n → (get_or h i no_binding).node < u'.nodes
  nodes_bound i p = omega (arith, a.nodes_bound i p, nodes_grow w u w' u' g)

  vars_marked : (i : ℕ) → i < k → (get_or m i no_mark).tvar < u'.vars
  vars_marked i p = omega (arith, a.vars_marked i p, more)

  lay_on : Lay (words_of w' h n m k) u'
  lay_on = lay_of w' h n m k u' lay' vars_bound nodes_bound vars_marked

  pub room_on : room (view (words_of w' h n m k) u') + 3 * (u'.vars - u.vars) ≡ room (view (words_of w h n m k) u)
  room_on =
      let z : u'.vars ≡ u.vars + (u'.vars - u.vars) = omega (arith, more) in
      ap (λ (s : State). room s + 3 * (u'.vars - u.vars)) (view_of w' h n m k u' lay' ∙ ap (λ (x : ℕ). with_vars (view w' u') (tab x cell)) z)
      ∙ room_fresh (view w u) (view w' u') u.vars (u'.vars - u.vars) cell (cell_above w h n m k u lay a.vars_bound a.nodes_bound a.vars_marked) (omega (arith, z, lay'.vars))
      ∙ ap room (sym (view_of w h n m k u lay))

  pub holds_on : Holds w' u' h n m k
  holds_on =
      record {
        bindings_size = a.bindings_size;
        marks_size = a.marks_size;
        vars_bound = vars_bound;
        nodes_bound = nodes_bound;
        vars_marked = vars_marked;
        lay = lay_on;
        few_bound = omega (arith, room_on, a.few_bound);
        few_marked = omega (arith, more, a.few_marked);
      }

  grown_on : Grown (view (words_of w h n m k) u) (view (words_of w' h n m k) u')
  unfolding with_vars
  grown_on =
      rw (view_of w h n m k u lay, view_of w' h n m k u' lay')
      record { nodes = g.nodes; args = g.args; vars = rw (length_tab u.vars cell, length_tab u'.vars cell) more; constraints = g.constraints; structs = g.structs }

  structs_on : (view w' u').structs ≡ (view w u).structs → (view (words_of w' h n m k) u').structs ≡ (view (words_of w h n m k) u).structs
  unfolding with_vars
  structs_on e = ap (λ (s : State). s.structs) (view_of w' h n m k u' lay') ∙ e ∙ ap (λ (s : State). s.structs) (sym (view_of w h n m k u lay))

  module _ (r : Out) (f : State → Result (State × ℕ)) (new : List Cell → List Cell) (alike : (s : State) (l : List Cell) → length l ≡ taken s → f (with_vars s l) ≡ under (new l) (f s))
      (cells : (ds : List Struct) → u'.vars ≡ length (new (seen w u ds).vars) → tab u'.vars cell ≡ new (tab u.vars cell)) where
    is_on : (ds : List Struct) → outcome r (seen w' u' ds) ≡ f (seen w u ds) → outcome r (seen (words_of w' h n m k) u' ds) ≡ f (seen (words_of w h n m k) u ds)
    is_on ds e =
        ap (outcome r) (is_seen w' u' lay' h n m k holds_on ds)
        ∙ alike_then new (seen w u ds) (seen w' u' ds) f (alike (seen w u ds)) r e (tab u.vars cell) (tab u'.vars cell) (length_tab u.vars cell ∙ sym (taken_seen w u ds)) (λ z. cells ds (sym (taken_seen w' u' ds) ∙ z))
        ∙ ap f (sym (is_seen w u lay h n m k a ds))

    pub refines_on : Refines Any w u w' u' (outcome r) f → Refines Any (words_of w h n m k) u (words_of w' h n m k) u' (outcome r) f
    refines_on s = record { lay = lay_on; grown = grown_on; structs = structs_on s.structs; is = λ ds x. is_on ds (s.is ds x) }

  pub sp_on : (r : Out) (loc : ℕ) (v : TypeValue) → Refines Any w u w' u' (outcome r) (λ s. sp s loc v) → Refines Any (words_of w h n m k) u (words_of w' h n m k) u' (outcome r) (λ s. sp s loc v)
  sp_on r loc v = refines_on r (λ s. sp s loc v) (λ l. l) (λ s l e. sp_under loc v s l) (λ ds e. ap (λ (x : ℕ). tab x cell) (e ∙ taken_seen w u ds))

  fresh_more : (ds : List Struct) → u'.vars ≡ length (and_fresh (seen w u ds).vars) → u'.vars ≡ u.vars + 1
  fresh_more ds e = e ∙ length-append (seen w u ds).vars (unbound ∷ []) ∙ ap (λ (x : ℕ). x + 1) (taken_seen w u ds)

  pub tvar_on : (r : Out) → Refines Any w u w' u' (outcome r) (λ s. next_tvar s) → Refines Any (words_of w h n m k) u (words_of w' h n m k) u' (outcome r) (λ s. next_tvar s)
  tvar_on r =
      refines_on r (λ s. next_tvar s) and_fresh tvar_under (λ ds e. ap (λ (x : ℕ). tab x cell) (fresh_more ds e)
      ∙ tab_more u.vars cell
      ∙ ap (λ (c : Cell). tab u.vars cell ++ (c ∷ [])) (cell_above w h n m k u lay a.vars_bound a.nodes_bound a.vars_marked u.vars (omega arith)))

  pub tvar_more : (v : ℕ) → Refines Any w u w' u' (outcome (Ok v)) (λ s. next_tvar s) → u'.vars ≡ u.vars + 1
  tvar_more v s = fresh_more [] (sym (taken_seen w' u' []) ∙ taken_then and_fresh (seen w u []) (seen w' u' []) (λ s. next_tvar s) (tvar_under (seen w u [])) v (s.is [] tt))

-- ---- a state with histories

module _ (p : Past) (t : Table) (g : Grown (tables p.st) (tables t)) where
  abbrev a : Holds p.st.words.now p.st.used p.bindings p.bound p.marks p.marked
  a = p.holds

  pub past_on : Holds t.words.now t.used p.bindings p.bound p.marks p.marked
  past_on = holds_on p.st.words.now p.st.used p.st.lay p.bindings p.bound p.marks p.marked a t.words.now t.used t.lay g

  abbrev later : Holds t.words.now t.used p.bindings p.bound p.marks p.marked → Past
  later x = record { st = t; bindings = p.bindings; bound = p.bound; marks = p.marks; marked = p.marked; holds = x }

  module _ (x : Holds t.words.now t.used p.bindings p.bound p.marks p.marked) where
    fell : room (tables (as_rows (later x))) + 3 * (t.used.vars - p.st.used.vars) ≡ room (tables (as_rows p))
    fell = room_on p.st.words.now p.st.used p.st.lay p.bindings p.bound p.marks p.marked a t.words.now t.used t.lay g

    rose : p.st.used.vars ≤ t.used.vars
    rose = more p.st.words.now p.st.used p.st.lay p.bindings p.bound p.marks p.marked a t.words.now t.used t.lay g

    within_on : Within p (later x)
    within_on = (omega (arith, fell), omega (arith, rose))

    pub did_on : (r : Out) (loc : ℕ) (v : TypeValue) → Did p.st t r (λ s. sp s loc v) → Did (as_rows p) (as_rows (later x)) r (λ s. sp s loc v) × Within p (later x)
    did_on r loc v s = (
      record {
        changed = record {
          same = linked_any s.changed.same.name s.changed.same.saved refl;
          step = sp_on p.st.words.now p.st.used p.st.lay p.bindings p.bound p.marks p.marked a t.words.now t.used t.lay g r loc v s.changed.step;
        };
        inside = s.inside;
      },
      within_on,
    )

    frees_on : (r : core.Result TVar Stop) → Refines Any p.st.words.now p.st.used t.words.now t.used (outcome (number_of r)) (λ s. next_tvar s) → Frees p (later x) r
    frees_on (Ok v) s =
        let one : t.used.vars ≡ p.st.used.vars + 1 = tvar_more p.st.words.now p.st.used p.st.lay p.bindings p.bound p.marks p.marked a t.words.now t.used t.lay g v.0 s in
        (omega (arith, fell, one), omega (arith, one, t.lay.vars))
    frees_on (Err e) s = within_on

    pub took_on : (r : core.Result TVar Stop) → Took p.st t r (λ s. next_tvar s) → Took (as_rows p) (as_rows (later x)) r (λ s. next_tvar s) × Frees p (later x) r
    took_on r s = (
      record {
        changed = record {
          same = linked_any s.changed.same.name s.changed.same.saved refl;
          step = tvar_on p.st.words.now p.st.used p.st.lay p.bindings p.bound p.marks p.marked a t.words.now t.used t.lay g (number_of r) s.changed.step;
        };
        inside = s.inside;
      },
      frees_on r s.changed.step,
    )
