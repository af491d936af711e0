-- The words in whose rows the histories' cells stand. Assumes nothing.
use mathlib.Core.Path.{◌≡◌, refl, sym, ap, subst, ◌∙◌}
use mathlib.Core.List.{List}
use Rattle.std.specs.Prelude.{Some}
use Rattle.std.proofs.lemmas.Option.{none-some}
use Prim.Native.Nat.{ℕ, ◌+◌, ◌*◌, ◌-◌, ◌/◌, ◌%◌, ◌<◌, ◌≤◌}
use native.Mathlib.Omega.{arith}
use native.Mathlib.Decide.{dec_lt}
use lib.ListN.{length, get_or}
use lib.Seq.{ext_get_or}
use borrow.Author.Tests.{lt-ltb, le-ltb}
use Rattle.definition.specs.Types.{Cell, unbound}
use Rattle.definition.specs.Store.{count, node, get, with_vars}
use Rattle.table.specs.Tab.{tab}
use Rattle.table.specs.Rows.{row, words_at, entries, Clean, read_cell, cell_words, node_table, arg_table, var_table, constraint_table, struct_table}
use Rattle.table.specs.State.{view, Lay, Inside}
use Rattle.table.specs.declared.Used.{Used}
use Rattle.table.proofs.Tab.{length_tab, getD_tab, getD_tab_out, tab_ext}
use Rattle.table.proofs.Rows.{Same, row_same, same_entries, same_clean, entry_at, entry_out}
use Rattle.table.proofs.Written.{cell_again, cell_long}
use Rattle.table.proofs.Pushed.{count_view}
use Rattle.history.specs.History.{no_binding, no_mark, cell_of, word_of, words_of}
use Rattle.history.specs.declared.Binding.{Binding}
use Rattle.history.specs.declared.Mark.{Mark}
use Rattle.history.proofs.Find.{unbound_above, unmarked_above, found_below}

module _ (w : List ℕ) (h : List Binding) (n : ℕ) (m : List Mark) (k : ℕ) where
  abbrev pub made : List ℕ
  made = words_of w h n m k

  pub of_low : (j : ℕ) → j < 16389 → get_or made j 0 ≡ get_or w j 0
  unfolding words_of word_of
  of_low j p = getD_tab 24069 (word_of w h n m k) j 0 (omega arith) ∙ rw (lt-ltb j 16389 p) refl

  pub of_high : (j : ℕ) → 21509 ≤ j → j < 24069 → get_or made j 0 ≡ get_or w j 0
  unfolding words_of word_of
  of_high j p q = getD_tab 24069 (word_of w h n m k) j 0 q ∙ rw (le-ltb j 16389 (omega arith), le-ltb j 21509 p) refl

  pub of_row : (v f : ℕ) → v < 1024 → f < 5 → get_or made (16389 + v * 5 + f) 0 ≡ get_or (cell_words (cell_of h n m k v)) f 0
  unfolding words_of word_of
  of_row v f p q =
      let a : (16389 + v * 5 + f - 16389) / 5 ≡ v = omega arith in
      let b : (16389 + v * 5 + f - 16389) % 5 ≡ f = omega arith in
      getD_tab 24069 (word_of w h n m k) (16389 + v * 5 + f) 0 (omega arith)
      ∙ rw (le-ltb (16389 + v * 5 + f) 16389 (omega arith), lt-ltb (16389 + v * 5 + f) 21509 (omega arith), a, b) refl

  pub of_size : length made ≡ 24069
  unfolding words_of
  of_size = length_tab 24069 (word_of w h n m k)

  -- ---- the rows

  same_nodes : Same node_table w made
  same_nodes i p = row_same node_table w made i (λ f q. of_low (5 + i * 6 + f) (omega arith))

  same_args : Same arg_table w made
  same_args i p = row_same arg_table w made i (λ f q. of_low (12293 + i * 1 + f) (omega arith))

  same_constraints : Same constraint_table w made
  same_constraints i p = row_same constraint_table w made i (λ f q. of_high (21509 + i * 4 + f) (omega arith) (omega arith))

  same_structs : Same struct_table w made
  same_structs i p = row_same struct_table w made i (λ f q. of_high (23557 + i * 2 + f) (omega arith) (omega arith))

  pub cell_row : (v : ℕ) → v < 1024 → row var_table made v ≡ cell_words (cell_of h n m k v)
  unfolding row words_at
  cell_row v p = ext_get_or 0 _ _ (length_tab 5 _ ∙ sym (cell_long (cell_of h n m k v))) (λ f q.
      let lt : f < 5 = rw (length_tab 5 (λ (f : ℕ). get_or made (16389 + v * 5 + f) 0)) at q in
      getD_tab 5 _ f 0 lt ∙ of_row v f p lt)

  cell_read : (v : ℕ) → v < 1024 → read_cell (row var_table made v) ≡ cell_of h n m k v
  cell_read v p = ap read_cell (cell_row v p) ∙ cell_again (cell_of h n m k v)

  -- ---- the state

  module _ (u : Used) (l : Lay w u) where
    abbrev pub cells : List Cell
    cells = tab u.vars (cell_of h n m k)

    pub view_of : view made u ≡ with_vars (view w u) cells
    unfolding view with_vars entries
    view_of =
        λ i. record {
          nodes = same_entries node_table w made u.nodes same_nodes l.nodes i;
          args = same_entries arg_table w made u.args same_args l.args i;
          vars = tab_ext u.vars _ _ (λ v p. let few = l.vars in cell_read v (omega arith)) i;
          constraints = same_entries constraint_table w made u.constraints same_constraints l.constraints i;
          structs = same_entries struct_table w made u.structs same_structs l.structs i;
        }

    module _ (vars_bound : (i : ℕ) → i < n → (get_or h i no_binding).tvar < u.vars) (nodes_bound : (i : ℕ) → i < n → (get_or h i no_binding).node < u.nodes)
        (vars_marked : (i : ℕ) → i < k → (get_or m i no_mark).tvar < u.vars) where
      pub cell_above : (v : ℕ) → u.vars ≤ v → cell_of h n m k v ≡ unbound
      unfolding cell_of
      cell_above v p =
          let e = unmarked_above m k u.vars v vars_marked p in
          λ i. record { binding = unbound_above h n u.vars v vars_bound p i; numeric = (e i).numeric; need = (e i).need }

      clean_vars : Clean var_table made u.vars
      unfolding Clean
      clean_vars v p = cell_row v p ∙ by (dec_lt v u.vars)
        where
          by : Dec (v < u.vars) → cell_words (cell_of h n m k v) ≡ cell_words (get_or (entries var_table made u.vars) v unbound)
          by (yes q) = ap cell_words (sym (entry_at var_table made u.vars v unbound q ∙ cell_read v p))
          by (no q) = ap cell_words (cell_above v (omega arith) ∙ sym (entry_out var_table made u.vars v unbound (omega arith)))

      inside : Inside (with_vars (view w u) cells)
      unfolding with_vars node get cell_of
      inside = record { parts = l.inside.parts; bindings = λ v t e. by v t e (dec_lt v u.vars) }
        where
          by : (v t : ℕ) → (get_or cells v unbound).binding ≡ Some t → Dec (v < u.vars) → t < count (view w u)
          by v t e (yes q) = rw (count_view w u) (found_below h n u.nodes v t nodes_bound (sym (ap (λ (c : Cell). c.binding) (getD_tab u.vars (cell_of h n m k) v unbound q)) ∙ e))
          by v t e (no q) = absurd (none-some t (sym (ap (λ (c : Cell). c.binding) (getD_tab_out u.vars (cell_of h n m k) v unbound (omega arith))) ∙ e))

      pub lay_of : Lay made u
      lay_of =
          record {
            size = of_size;
            nodes = l.nodes;
            args = l.args;
            vars = l.vars;
            constraints = l.constraints;
            structs = l.structs;
            clean_nodes = same_clean node_table w made u.nodes same_nodes l.nodes l.clean_nodes;
            clean_args = same_clean arg_table w made u.args same_args l.args l.clean_args;
            clean_vars = clean_vars;
            clean_constraints = same_clean constraint_table w made u.constraints same_constraints l.constraints l.clean_constraints;
            clean_structs = same_clean struct_table w made u.structs same_structs l.structs l.clean_structs;
            inside = subst Inside (sym view_of) inside;
          }
