-- What is read of the histories is what the state says. Assumes nothing.
use mathlib.Core.Path.{◌≡◌, sym, ap, ◌∙◌}
use mathlib.Core.List.{List}
use Prim.Native.Nat.{ℕ, ◌<◌}
use native.Mathlib.Omega.{arith}
use native.Mathlib.Decide.{dec_lt}
use lib.ListN.{get_or}
use Rattle.definition.specs.Types.{State, Struct, Shape, Cell, unbound, Places}
use Rattle.definition.specs.Store.{node, args_at, with_args, get, num_loc, need_of, with_vars, with_structs}
use Rattle.table.specs.Tab.{tab}
use Rattle.table.specs.State.{seen, Lay}
use Rattle.table.specs.declared.Used.{Used}
use Rattle.table.proofs.Tab.{getD_tab, getD_tab_out}
use Rattle.history.specs.History.{find_binding, find_mark, cell_of, words_of, Holds}
use Rattle.history.specs.declared.Binding.{Binding}
use Rattle.history.specs.declared.Mark.{Mark}
use Rattle.history.proofs.Words.{view_of, cell_above}

module _ (w : List ℕ) (u : Used) (l : Lay w u) (h : List Binding) (n : ℕ) (m : List Mark) (k : ℕ) (a : Holds w u h n m k) (ds : List Struct) where
  abbrev past : State
  past = seen (words_of w h n m k) u ds

  pub is_seen : past ≡ with_vars (seen w u ds) (tab u.vars (cell_of h n m k))
  unfolding seen with_structs with_vars
  is_seen = ap (λ (s : State). with_structs s ds) (view_of w h n m k u l)

  cell_is : (v : ℕ) → get_or past.vars v unbound ≡ cell_of h n m k v
  unfolding with_vars
  cell_is v = ap (λ (s : State). get_or s.vars v unbound) is_seen ∙ by (dec_lt v u.vars)
    where
      by : Dec (v < u.vars) → get_or (tab u.vars (cell_of h n m k)) v unbound ≡ cell_of h n m k v
      by (yes p) = getD_tab u.vars (cell_of h n m k) v unbound p
      by (no p) = getD_tab_out u.vars (cell_of h n m k) v unbound (omega arith) ∙ sym (cell_above w h n m k u l a.vars_bound a.nodes_bound a.vars_marked v (omega arith))

  pub get_is : (v : ℕ) → find_binding h n v ≡ get past v
  unfolding get cell_of
  get_is v = sym (ap (λ (c : Cell). c.binding) (cell_is v))

  pub numeric_is : (v : ℕ) → (find_mark m k v).numeric ≡ num_loc past v
  unfolding num_loc cell_of
  numeric_is v = sym (ap (λ (c : Cell). c.numeric) (cell_is v))

  pub need_is : (v : ℕ) → (find_mark m k v).need ≡ need_of past v
  unfolding need_of cell_of
  need_is v = sym (ap (λ (c : Cell). c.need) (cell_is v))

  pub node_is : (t : ℕ) → node (seen w u ds) t ≡ node past t
  unfolding node with_vars
  node_is t = ap (λ (s : State). node s t) (sym is_seen)

  pub args_is : (p : Places) → args_at (seen w u ds) p ≡ args_at past p
  unfolding args_at with_vars
  args_is p = ap (λ (s : State). args_at s p) (sym is_seen)

  pub parts_is : (x : Shape Places) → with_args (seen w u ds) x ≡ with_args past x
  unfolding with_args args_at with_vars
  parts_is x = ap (λ (s : State). with_args s x) (sym is_seen)
