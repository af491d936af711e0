-- What is read of a row, in words. Assumes nothing.
use mathlib.Core.Path.{◌≡◌, sym, ap, ◌∙◌}
use mathlib.Core.List.{List, [], ◌∷◌}
use Rattle.std.specs.Prelude.{None}
use Prim.Native.Nat.{ℕ, ◌+◌, ◌*◌, ◌%◌, ◌≤◌, ◌<◌}
use native.Mathlib.Omega.{arith}
use lib.ListN.{length, get_or, drop, replicate, length-replicate, get_or-eq_default}
use lib.Seq.{get_or-take, get_or-drop}
use Rattle.definition.specs.Types.{Struct, Shape, Places, Cell, unbound}
use Rattle.definition.specs.Store.{nowhere, node, get, num_loc, need_of, args_at, with_structs}
use Rattle.table.specs.Tab.{tab}
use Rattle.table.specs.Rows.{words_at, row, entries, places, read_shape, read_option, read_node, read_arg, read_cell, read_constraint, read_struct, node_table, arg_table, var_table, constraint_table, struct_table}
use Rattle.table.specs.State.{node_words_at, view, seen, Declares}
use Rattle.table.specs.declared.Used.{Used}
use Rattle.table.specs.declared.NodeWords.{NodeWords}
use Rattle.table.proofs.Rows.{entry_at, entry_out}

pub arg_row : (w : List ℕ) (k : ℕ) → row arg_table w k ≡ get_or w (12293 + k) 0 ∷ []
unfolding row words_at tab
arg_row w k = let e : 12293 + k * 1 + 0 ≡ 12293 + k = omega arith in rw e

module _ (w : List ℕ) where
  pub node_row : (t : ℕ) → row node_table w t ≡ get_or w (5 + t * 6) 0 ∷ get_or w (5 + t * 6 + 1) 0 ∷ get_or w (5 + t * 6 + 2) 0 ∷ get_or w (5 + t * 6 + 3) 0 ∷ get_or w (5 + t * 6 + 4) 0 ∷ get_or w (5 + t * 6 + 5) 0 ∷ []
  unfolding row words_at tab
  node_row t = let e : 5 + t * 6 + 0 ≡ 5 + t * 6 = omega arith in rw e

  pub var_row : (v : ℕ) → row var_table w v ≡ get_or w (16389 + v * 5) 0 ∷ get_or w (16389 + v * 5 + 1) 0 ∷ get_or w (16389 + v * 5 + 2) 0 ∷ get_or w (16389 + v * 5 + 3) 0 ∷ get_or w (16389 + v * 5 + 4) 0 ∷ []
  unfolding row words_at tab
  var_row v = let e : 16389 + v * 5 + 0 ≡ 16389 + v * 5 = omega arith in rw e

  pub constraint_row : (i : ℕ) → row constraint_table w i ≡ get_or w (21509 + i * 4) 0 ∷ get_or w (21509 + i * 4 + 1) 0 ∷ get_or w (21509 + i * 4 + 2) 0 ∷ get_or w (21509 + i * 4 + 3) 0 ∷ []
  unfolding row words_at tab
  constraint_row i = let e : 21509 + i * 4 + 0 ≡ 21509 + i * 4 = omega arith in rw e

  pub struct_row : (i : ℕ) → row struct_table w i ≡ get_or w (23557 + i * 2) 0 ∷ get_or w (23557 + i * 2 + 1) 0 ∷ []
  unfolding row words_at tab
  struct_row i = let e : 23557 + i * 2 + 0 ≡ 23557 + i * 2 = omega arith in rw e

module _ (w : List ℕ) (u : Used) where
  pub node_made : (ds : List Struct) (t : ℕ) (r : NodeWords) (s : Shape Places) → t < u.nodes → r ≡ node_words_at w t → s ≡ read_shape r.tag r.a r.b r.c r.d → record { loc = r.loc; value = s } ≡ node (seen w u ds) t
  unfolding node seen view with_structs read_node
  node_made ds t r s h e f = (λ i. record { loc = r.loc; value = f i }) ∙ ap (λ (x : NodeWords). record { loc = x.loc; value = read_shape x.tag x.a x.b x.c x.d }) e ∙ sym (entry_at node_table w u.nodes t nowhere h ∙ ap read_node (node_row w t))

  pub node_beyond : (ds : List Struct) (t : ℕ) → u.nodes ≤ t → node (seen w u ds) t ≡ nowhere
  unfolding node seen view with_structs
  node_beyond ds t h = entry_out node_table w u.nodes t nowhere h

  args_of_places : (ds : List Struct) (first many i : ℕ) → i < many → get_or (args_at (seen w u ds) (places first many)) i 0 ≡ get_or (entries arg_table w u.args) (first + i) 0
  unfolding args_at seen view with_structs places
  args_of_places ds first many i h = get_or-take many (drop first (entries arg_table w u.args)) i 0 h ∙ get_or-drop first (entries arg_table w u.args) i 0

  pub arg_read : (ds : List Struct) (first many i : ℕ) → i < many → first + i < u.args → get_or (args_at (seen w u ds) (places first many)) i 0 ≡ get_or w (12293 + (first + i)) 0
  unfolding read_arg
  arg_read ds first many i h lt = args_of_places ds first many i h ∙ entry_at arg_table w u.args (first + i) 0 lt ∙ ap read_arg (arg_row w (first + i))

  pub arg_beyond : (ds : List Struct) (first many i : ℕ) → i < many → u.args ≤ first + i → get_or (args_at (seen w u ds) (places first many)) i 0 ≡ 0
  arg_beyond ds first many i h le = args_of_places ds first many i h ∙ entry_out arg_table w u.args (first + i) 0 le

  cell_read : (v : ℕ) → v < u.vars → get_or (entries var_table w u.vars) v unbound ≡ record { binding = read_option (get_or w (16389 + v * 5) 0) (get_or w (16389 + v * 5 + 1) 0); numeric = read_option (get_or w (16389 + v * 5 + 2) 0) (get_or w (16389 + v * 5 + 3) 0); need = get_or w (16389 + v * 5 + 4) 0 }
  unfolding read_cell
  cell_read v h = entry_at var_table w u.vars v unbound h ∙ ap read_cell (var_row w v)

  pub get_read : (ds : List Struct) (v : ℕ) → v < u.vars → get (seen w u ds) v ≡ read_option (get_or w (16389 + v * 5) 0) (get_or w (16389 + v * 5 + 1) 0)
  unfolding get seen view with_structs
  get_read ds v h = ap (λ (c : Cell). c.binding) (cell_read v h)

  pub get_beyond : (ds : List Struct) (v : ℕ) → u.vars ≤ v → get (seen w u ds) v ≡ None
  unfolding get seen view with_structs
  get_beyond ds v h = ap (λ (c : Cell). c.binding) (entry_out var_table w u.vars v unbound h)

  pub num_read : (ds : List Struct) (v : ℕ) → v < u.vars → num_loc (seen w u ds) v ≡ read_option (get_or w (16389 + v * 5 + 2) 0) (get_or w (16389 + v * 5 + 3) 0)
  unfolding num_loc seen view with_structs
  num_read ds v h = ap (λ (c : Cell). c.numeric) (cell_read v h)

  pub num_beyond : (ds : List Struct) (v : ℕ) → u.vars ≤ v → num_loc (seen w u ds) v ≡ None
  unfolding num_loc seen view with_structs
  num_beyond ds v h = ap (λ (c : Cell). c.numeric) (entry_out var_table w u.vars v unbound h)

  pub need_read : (ds : List Struct) (v : ℕ) → v < u.vars → need_of (seen w u ds) v ≡ get_or w (16389 + v * 5 + 4) 0
  unfolding need_of seen view with_structs
  need_read ds v h = ap (λ (c : Cell). c.need) (cell_read v h)

  pub need_beyond : (ds : List Struct) (v : ℕ) → u.vars ≤ v → need_of (seen w u ds) v ≡ 0
  unfolding need_of seen view with_structs
  need_beyond ds v h = ap (λ (c : Cell). c.need) (entry_out var_table w u.vars v unbound h)

  pub constraint_read : (ds : List Struct) (i : ℕ) → i < u.constraints
      → get_or (seen w u ds).constraints i constraint_table.blank ≡ read_constraint (get_or w (21509 + i * 4) 0 ∷ get_or w (21509 + i * 4 + 1) 0 ∷ get_or w (21509 + i * 4 + 2) 0 ∷ get_or w (21509 + i * 4 + 3) 0 ∷ [])
  unfolding seen view with_structs
  constraint_read ds i h = entry_at constraint_table w u.constraints i constraint_table.blank h ∙ ap read_constraint (constraint_row w i)

  struct_entry : (i : ℕ) → i < u.structs → get_or (view w u).structs i struct_table.blank ≡ record { abilities = get_or w (23557 + i * 2) 0 % 256; params = replicate (get_or w (23557 + i * 2 + 1) 0) 0 }
  unfolding view read_struct
  struct_entry i h = entry_at struct_table w u.structs i struct_table.blank h ∙ ap read_struct (struct_row w i)

  pub struct_read : (ds : List Struct) (i : ℕ) → Declares w u ds → i < u.structs
      → (get_or w (23557 + i * 2) 0 % 256 ≡ (get_or ds i struct_table.blank).abilities) × (get_or w (23557 + i * 2 + 1) 0 ≡ length (get_or ds i struct_table.blank).params)
  struct_read ds i h lt = (
    sym (ap (λ (x : Struct). x.abilities) (struct_entry i lt)) ∙ sym (h.abilities i lt),
    sym (length-replicate {A = ℕ} (get_or w (23557 + i * 2 + 1) 0) 0) ∙ sym (ap (λ (x : Struct). length x.params) (struct_entry i lt)) ∙ sym (h.params i lt),
  )

  pub struct_beyond : (ds : List Struct) (i : ℕ) → Declares w u ds → u.structs ≤ i → get_or ds i struct_table.blank ≡ struct_table.blank
  struct_beyond ds i h le = get_or-eq_default ds struct_table.blank (rw h.many le)
