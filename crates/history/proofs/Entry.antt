-- A newer binding is the definition's `insert`, a newer mark is `with_mark`. Assumes nothing.
use mathlib.Core.Path.{◌≡◌, refl, sym, ap, ◌∙◌}
use mathlib.Core.List.{List}
use Rattle.std.specs.Prelude.{Option, Some}
use Prim.Native.Nat.{ℕ, ◌+◌, ◌-◌, ◌<◌}
use native.Mathlib.Omega.{arith}
use lib.ListN.{length, get_or, set, length-set}
use Rattle.definition.specs.Types.{State, Cell, unbound}
use Rattle.definition.specs.Store.{taken, get, num_loc, need_of, insert, with_vars, with_structs}
use Rattle.table.specs.Tab.{tab}
use Rattle.table.specs.State.{Grown, view, seen, Lay, Stored}
use Rattle.table.specs.declared.Used.{Used}
use Rattle.table.proofs.Tab.{getD_tab, tab_set}
use Rattle.table.proofs.States.{grown_vars}
use Rattle.table.proofs.Steps.{refines_by}
use Rattle.table.proofs.Pushed.{taken_view}
use Rattle.history.specs.Room.{one_if_none, room}
use Rattle.history.specs.History.{no_binding, no_mark, find_binding, find_mark, cell_of, words_of, Holds}
use Rattle.history.specs.Past.{with_mark}
use Rattle.history.specs.declared.Binding.{Binding}
use Rattle.history.specs.declared.Mark.{Mark}
use Rattle.history.proofs.Find.{each, find_newest, find_older, mark_newest, mark_older}
use Rattle.history.proofs.Words.{view_of, lay_of}
use Rattle.history.proofs.Room.{room_insert, room_mark}

module _ (w : List ℕ) (u : Used) (l : Lay w u) (h : List Binding) (n : ℕ) (m : List Mark) (k : ℕ) (a : Holds w u h n m k) where
  abbrev past : State
  past = view (words_of w h n m k) u

  pub is_past : past ≡ with_vars (view w u) (tab u.vars (cell_of h n m k))
  is_past = view_of w h n m k u l

  abbrev changed : ℕ → Cell → State
  changed v c = with_vars past (set past.vars v c)

  module _ (v : ℕ) (p : v < u.vars) where
    -- what is read of it
    cell_at : get_or past.vars v unbound ≡ cell_of h n m k v
    unfolding with_vars
    cell_at = ap (λ (s : State). get_or s.vars v unbound) is_past ∙ getD_tab u.vars (cell_of h n m k) v unbound p

    used : v < taken past
    used = rw (taken_view (words_of w h n m k) u) p

    changed_grown : (c : Cell) → Grown past (changed v c)
    changed_grown c = grown_vars past _ (rw (length-set past.vars v c) (omega arith))

    -- a newer entry changes v's cell alone
    newer_view : (h' : List Binding) (n' : ℕ) (m' : List Mark) (k' : ℕ) (c : Cell) → cell_of h' n' m' k' v ≡ c → ((x : ℕ) → (x ≡ v → ⊥) → cell_of h' n' m' k' x ≡ cell_of h n m k x)
        → view (words_of w h' n' m' k') u ≡ changed v c
    unfolding with_vars
    newer_view h' n' m' k' c here there =
        view_of w h' n' m' k' u l
        ∙ ap (with_vars (view w u)) (tab_set u.vars (cell_of h n m k) (cell_of h' n' m' k') v c unbound p here (λ x r ne. there x ne))
        ∙ ap (λ (s : State). with_vars s (set s.vars v c)) (sym is_past)

    module _ (t : ℕ) (q : t < u.nodes) (spare : n + room past < 5120 + one_if_none (get past v)) where
      abbrev b : Binding
      b = record { tvar = v; node = t }

      abbrev h' : List Binding
      h' = set h n b

      less : room (insert past v t) + one_if_none (get past v) ≡ room past
      less = room_insert past v t used

      pub bind_fits : n < 5120
      bind_fits = omega (arith, less, spare)

      space : n < length h
      space = rw a.bindings_size bind_fits

      new_cell : cell_of h' (n + 1) m k v ≡ record { binding = Some t; numeric = num_loc past v; need = need_of past v }
      unfolding cell_of num_loc need_of
      new_cell = λ i. record { binding = find_newest h n b space i; numeric = (sym cell_at i).numeric; need = (sym cell_at i).need }

      other_cell : (x : ℕ) → (x ≡ v → ⊥) → cell_of h' (n + 1) m k x ≡ cell_of h n m k x
      unfolding cell_of
      other_cell x ne = λ i. record { binding = find_older h n b space x ne i; numeric = (find_mark m k x).numeric; need = (find_mark m k x).need }

      pub bind_view : view (words_of w h' (n + 1) m k) u ≡ insert past v t
      unfolding insert
      bind_view = newer_view h' (n + 1) m k _ new_cell other_cell

      vars_bound : (i : ℕ) → i < n + 1 → (get_or h' i no_binding).tvar < u.vars
      vars_bound = each (λ (x : Binding). x.tvar < u.vars) h n b no_binding space p a.vars_bound

      nodes_bound : (i : ℕ) → i < n + 1 → (get_or h' i no_binding).node < u.nodes
      nodes_bound = each (λ (x : Binding). x.node < u.nodes) h n b no_binding space q a.nodes_bound

      bind_lay : Lay (words_of w h' (n + 1) m k) u
      bind_lay = lay_of w h' (n + 1) m k u l vars_bound nodes_bound a.vars_marked

      pub bind_room : n + 1 + room (view (words_of w h' (n + 1) m k) u) + one_if_none (get past v) ≡ n + room past + 1
      bind_room = rw bind_view (omega (arith, less))

      pub bind_holds : Holds w u h' (n + 1) m k
      bind_holds =
          record {
            bindings_size = length-set h n b ∙ a.bindings_size;
            marks_size = a.marks_size;
            vars_bound = vars_bound;
            nodes_bound = nodes_bound;
            vars_marked = a.vars_marked;
            lay = bind_lay;
            few_bound = omega (arith, bind_room, spare);
            few_marked = a.few_marked;
          }

      pub bind_stored : Stored (words_of w h n m k) u (words_of w h' (n + 1) m k) (λ s. insert s v t)
      unfolding insert with_vars with_structs seen num_loc need_of
      bind_stored = refines_by (insert past v t) bind_lay bind_view (changed_grown _) refl (λ ds x. refl)

    module _ (numeric : Option ℕ) (need : ℕ) (spare : k + (1024 - u.vars) < 2048) where
      abbrev c : Mark
      c = record { tvar = v; numeric = numeric; need = need }

      abbrev m' : List Mark
      m' = set m k c

      pub mark_fits : k < 2048
      mark_fits = omega arith

      place : k < length m
      place = rw a.marks_size mark_fits

      new_mark : cell_of h n m' (k + 1) v ≡ record { binding = get past v; numeric = numeric; need = need }
      unfolding cell_of get
      new_mark = λ i. record { binding = (sym cell_at i).binding; numeric = (mark_newest m k c place i).numeric; need = (mark_newest m k c place i).need }

      other_mark : (x : ℕ) → (x ≡ v → ⊥) → cell_of h n m' (k + 1) x ≡ cell_of h n m k x
      unfolding cell_of
      other_mark x ne = λ i. record { binding = find_binding h n x; numeric = (mark_older m k c place x ne i).numeric; need = (mark_older m k c place x ne i).need }

      pub mark_view : view (words_of w h n m' (k + 1)) u ≡ with_mark v numeric need past
      unfolding with_mark
      mark_view = newer_view h n m' (k + 1) _ new_mark other_mark

      vars_marked : (i : ℕ) → i < k + 1 → (get_or m' i no_mark).tvar < u.vars
      vars_marked = each (λ (x : Mark). x.tvar < u.vars) m k c no_mark place p a.vars_marked

      mark_lay : Lay (words_of w h n m' (k + 1)) u
      mark_lay = lay_of w h n m' (k + 1) u l a.vars_bound a.nodes_bound vars_marked

      pub same_room : room (view (words_of w h n m' (k + 1)) u) ≡ room past
      same_room = ap room mark_view ∙ room_mark past v numeric need used

      pub mark_holds : Holds w u h n m' (k + 1)
      mark_holds =
          record {
            bindings_size = a.bindings_size;
            marks_size = length-set m k c ∙ a.marks_size;
            vars_bound = a.vars_bound;
            nodes_bound = a.nodes_bound;
            vars_marked = vars_marked;
            lay = mark_lay;
            few_bound = omega (arith, same_room, a.few_bound);
            few_marked = omega arith;
          }

      pub mark_stored : Stored (words_of w h n m k) u (words_of w h n m' (k + 1)) (with_mark v numeric need)
      unfolding with_mark with_vars with_structs seen get
      mark_stored = refines_by (with_mark v numeric need past) mark_lay mark_view (changed_grown _) refl (λ ds x. refl)
