-- The test word by word passes just where the words and bytes are those of a sound state. Assumes nothing.
-- From the tests to the state table by table: tails are blank rows, each row is the row of an entry (Rowwise, Shapes), chains end (Chains). Back by the same laws; `no_tables` and `last_test` serve the code.
use mathlib.Core.Path.{◌≡◌, refl, sym, ap, ap₂, ◌∙◌}
use mathlib.Core.Bool.{Bool, true, false, ◌&&◌}
use mathlib.Core.List.{List, [], ◌∷◌}
use Rattle.std.specs.Prelude.{Option}
use Prim.Native.Nat.{ℕ, suc, ◌+◌, ◌*◌, ◌≤◌, ◌<◌, ◌%◌}
use native.Mathlib.Omega.{arith}
use native.Mathlib.Decide.{dec_lt}
use lib.Dec.{eqb, leb}
use lib.ListN.{length, get_or, length-replicate, get_or-eq_default}
use lib.Seq.{ext_get_or}
use borrow.Author.Tests.{leb-true, eqb-true, lt-ltb, le-ltb, le-leb, eq-eqb}
use Rattle.definition.specs.Types.{State, Struct, Node, Constraint, unbound, max_nodes, max_args, max_vars, max_constraints, max_structs}
use Rattle.definition.specs.Store.{nowhere, count, taken, node, get, num_loc, need_of, with_args, with_structs, all_of}
use Rattle.definition.specs.Subst.{parts}
use Rattle.definition.specs.Sound as sd
use Rattle.definition.specs.Sound.{sound, counts_fit, smaller_than, is_u32, node_allowed, binding_allowed, numeric_allowed, need_allowed, cell_allowed, constraint_allowed, struct_allowed, fields_allowed, no_anything, no_binding_anything, chain_ends, chains_end}
use Rattle.definition.specs.Trees.{is_set}
use Rattle.theorems.proofs.SoundFacts.{of_each, at_place}
use Rattle.table.specs.Tab.{tab}
use Rattle.table.specs.Rows.{row, words_at, entries, read_node, node_words, shape_words, read_arg, arg_words, read_cell, cell_words, read_constraint, constraint_words}
use Rattle.table.specs.Rows.{read_struct, struct_words, option_flag, option_word, read_shape, node_table, arg_table, var_table, constraint_table, struct_table}
use Rattle.table.specs.State.{view, seen}
use Rattle.table.specs.declared.Used.{Used}
use Rattle.table.proofs.Tab.{length_tab, getD_tab, getD_tab_out}
use Rattle.table.proofs.Rows.{length_entries}
use Rattle.table.proofs.Fields.{node_row, var_row, constraint_row, struct_row, arg_row, node_made, get_read, num_read, need_read, constraint_read}
use Rattle.table.specs.Encode.{counts as count_words, encode as encode_words}
use Rattle.sound.specs.Lent.{used_of, bytes_at, struct_of, structs_of, decode, encode_params, same_words, same_rows, lent_sound, LentSound}
use Rattle.sound_fields.specs.Fields.{all_below, byte_fine, numeric_fine, need_fine}
use Rattle.sound_rows.specs.Rows.{Sized, struct_fine, node_fine, cell_fine, binding_fine, constraint_fine}
use Rattle.sound_tables.specs.Tables.{counts_fine, zeros, tails_fine, params_at, bytes_fine, tables_fine}
use Rattle.sound.specs.Chains.{chain_fine}
use Rattle.sound_tables.proofs.Tables.{Tables, tables_say, tables_are}
use Rattle.sound_fields.proofs.Below.{and_l, and_r, both, same_test, not_passed, all_at, all_from, when_true, when_false}
use Rattle.sound.proofs.Fields.{tag_of, mod_back, set_mod, set_was}
use Rattle.sound.proofs.Encode.{Rows, Holds, encoded, holds}
use Rattle.sound.proofs.Rows.{rows_from, used_row, past_row, tail_rows, rows_tail}
use Rattle.sound.proofs.Shapes.{each_of, Good, good, fine, args_count, vars_count}
use Rattle.sound.proofs.Rowwise.{Back, numeric_good, numeric_was, numeric_u32, need_same, nodes_count, BindingGood, binding_good, binding_was, ConstraintGood, kind_fine, constraint_good, constraint_was}
use Rattle.sound.proofs.Chains.{chain_is}

-- every test of the code passes
pub record Tests (w : List ℕ) (p : List (List ℕ)) (u : Used) : Type 0 where
  pub tables : Tables w u p
  pub chains : all_below u.vars (chain_fine w u) ≡ true

-- a table of 256 rows of 8 bytes
pub record TableOf (p : List (List ℕ)) : Type 0 where
  pub rows : length p ≡ 256
  pub row_long : (i : ℕ) → i < 256 → length (get_or p i []) ≡ 8

each_from : {A : Type 0} (g : ℕ → A → Bool) (d : A) (k : ℕ) (l : List A) → ((i : ℕ) → i < length l → g (k + i) (get_or l i d) ≡ true) → sd.all_at g k l ≡ true
unfolding sd.all_at
each_from g d k [] h = refl
each_from g d k (x ∷ l) h = pass (g k x) (sd.all_at g (suc k) l) (let z : k + 0 ≡ k = omega arith in rw z at (h 0 (omega arith)))
    (each_from g d (suc k) l (λ i j. let z : suc k + i ≡ k + suc i = omega arith in rw z (h (suc i) (omega arith))))
  where
    pass : (b c : Bool) → b ≡ true → c ≡ true → (elim b [ true ↦ c | false ↦ false ]) ≡ true
    pass true c p q = q
    pass false c p q = p

each_at : {A : Type 0} (g : ℕ → A → Bool) (d : A) (l : List A) → ((i : ℕ) → i < length l → g i (get_or l i d) ≡ true) → sd.all_at g 0 l ≡ true
each_at g d l h = each_from g d 0 l (λ i j. let z : 0 + i ≡ i = omega arith in rw z (h i j))

-- ---- the five tails

pub record Tails (w : List ℕ) (u : Used) : Type 0 where
  pub t_nodes : zeros w (5 + u.nodes * 6) 12293 ≡ true
  pub t_args : zeros w (12293 + u.args) 16389 ≡ true
  pub t_vars : zeros w (16389 + u.vars * 5) 21509 ≡ true
  pub t_constraints : zeros w (21509 + u.constraints * 4) 23557 ≡ true
  pub t_structs : zeros w (23557 + u.structs * 2) 24069 ≡ true

five_l : (a b c d e : Bool) → a && b && c && d && e ≡ true → (a ≡ true) × ((b ≡ true) × ((c ≡ true) × ((d ≡ true) × (e ≡ true))))
five_l a b c d e h =
    let h4 = and_l (a && b && c && d) e h in
    let h3 = and_l (a && b && c) d h4 in
    let h2 = and_l (a && b) c h3 in
    (and_l a b h2, (and_r a b h2, (and_r (a && b) c h3, (and_r (a && b && c) d h4, and_r (a && b && c && d) e h))))

five_r : (a b c d e : Bool) → a ≡ true → b ≡ true → c ≡ true → d ≡ true → e ≡ true → a && b && c && d && e ≡ true
five_r a b c d e p q r s t = both _ _ (both _ _ (both _ _ (both a b p q) r) s) t

tails_are : (w : List ℕ) (u : Used) → tails_fine w u ≡ true → Tails w u
unfolding tails_fine
tails_are w u e = let h = five_l _ _ _ _ (zeros w (23557 + u.structs * 2) 24069) e in record { t_nodes = h.0; t_args = h.1.0; t_vars = h.1.1.0; t_constraints = h.1.1.1.0; t_structs = h.1.1.1.1 }

are_tails : (w : List ℕ) (u : Used) → Tails w u → tails_fine w u ≡ true
unfolding tails_fine
are_tails w u h = five_r _ _ _ _ _ h.t_nodes h.t_args h.t_vars h.t_constraints h.t_structs

-- ---- blank rows

blank_node : tab 6 (λ k. 0) ≡ node_table.write node_table.blank
unfolding tab node_words shape_words
blank_node = refl

blank_arg : tab 1 (λ k. 0) ≡ arg_table.write arg_table.blank
unfolding tab arg_words
blank_arg = refl

blank_var : tab 5 (λ k. 0) ≡ var_table.write var_table.blank
unfolding tab cell_words option_flag option_word
blank_var = refl

blank_constraint : tab 4 (λ k. 0) ≡ constraint_table.write constraint_table.blank
unfolding tab constraint_words
blank_constraint = refl

blank_struct : tab 2 (λ k. 0) ≡ struct_table.write struct_table.blank
unfolding tab struct_words
blank_struct = refl

-- ---- declarations

module _ (w : List ℕ) (p : List (List ℕ)) (u : Used) where
  pub struct_is : (i : ℕ) (d : Struct) → i < u.structs
      → get_or (structs_of w p u.structs) i d ≡ record { abilities = get_or w (23557 + i * 2) 0 % 256; params = bytes_at p i (get_or w (23557 + i * 2 + 1) 0) }
  unfolding structs_of struct_of read_struct
  struct_is i d h =
      getD_tab u.structs (λ i. struct_of w p i) i d h
      ∙ ap (λ (r : List ℕ). record { abilities = (read_struct r).abilities; params = bytes_at p i (length (read_struct r).params) }) (struct_row w i)
      ∙ ap (λ (n : ℕ). record { abilities = get_or w (23557 + i * 2) 0 % 256; params = bytes_at p i n }) (length-replicate {A = ℕ} (get_or w (23557 + i * 2 + 1) 0) 0)

  pub structs_count : length (structs_of w p u.structs) ≡ u.structs
  unfolding structs_of
  structs_count = length_tab u.structs _

  pub bytes_long : (i n : ℕ) → length (bytes_at p i n) ≡ n
  unfolding bytes_at
  bytes_long i n = length_tab n _

  pub counted : (length (structs_of w p u.structs) ≡ u.structs) × ((i : ℕ) → i < u.structs → length (get_or (structs_of w p u.structs) i struct_table.blank).params ≡ get_or w (23557 + i * 2 + 1) 0)
  counted = (structs_count, λ i h. ap (λ (x : Struct). length x.params) (struct_is i struct_table.blank h) ∙ bytes_long i (get_or w (23557 + i * 2 + 1) 0))

-- ---- the tests pass: the words are those of a sound state

module _ (w : List ℕ) (p : List (List ℕ)) (u : Used) (z : Sized w u) (small : (k : ℕ) → get_or w k 0 < 4294967296) (tp : TableOf p) where
  abbrev ds : List Struct
  ds = structs_of w p u.structs

  abbrev S : State
  S = seen w u (structs_of w p u.structs)

  u32 : (k : ℕ) → is_u32 (get_or w k 0) ≡ true
  unfolding is_u32
  u32 k = lt-ltb (get_or w k 0) 4294967296 (small k)

  abbrev GoodAt : ℕ → Type 0
  GoodAt t = Good w u ds (get_or w (5 + t * 6 + 1) 0) t (get_or w (5 + t * 6) 0) (get_or w (5 + t * 6 + 2) 0) (get_or w (5 + t * 6 + 3) 0) (get_or w (5 + t * 6 + 4) 0) (get_or w (5 + t * 6 + 5) 0)

  node_is : (t : ℕ) → t < u.nodes → get_or S.nodes t nowhere
      ≡ record { loc = get_or w (5 + t * 6 + 1) 0; value = read_shape (get_or w (5 + t * 6) 0) (get_or w (5 + t * 6 + 2) 0) (get_or w (5 + t * 6 + 3) 0) (get_or w (5 + t * 6 + 4) 0) (get_or w (5 + t * 6 + 5) 0) }
  unfolding node
  node_is t h = sym (node_made w u ds t _ _ h refl refl)

  cells_count : length S.vars ≡ u.vars
  cells_count = vars_count w u ds 0

  constraints_count : length S.constraints ≡ u.constraints
  unfolding seen view with_structs
  constraints_count = length_entries constraint_table w u.constraints

  decls : S.structs ≡ ds
  unfolding seen with_structs
  decls = refl

  module _ (h : Tests w p u) where
    node_good : (t : ℕ) → t < u.nodes → GoodAt t
    unfolding node_fine
    node_good t lt = good w u ds _ z.vars (counted w p u) t _ _ _ _ _ (tag_of (get_or w (5 + t * 6) 0)) (u32 _) (all_at u.nodes (node_fine w u) h.tables.nodes t lt)

    abbrev CellAt : ℕ → Type 0
    CellAt v = BindingGood w u ds (get_or w (16389 + v * 5) 0) (get_or w (16389 + v * 5 + 1) 0) × (Back (get_or w (16389 + v * 5 + 2) 0) (get_or w (16389 + v * 5 + 3) 0) × (need_fine (get_or w (16389 + v * 5 + 2) 0) (get_or w (16389 + v * 5 + 4) 0) ≡ true))

    cell_good : (v : ℕ) → v < u.vars → CellAt v
    unfolding cell_fine
    cell_good v lt =
        let e = all_at u.vars (cell_fine w u) h.tables.cells v lt in
        let e2 = and_l (binding_fine w u (get_or w (16389 + v * 5) 0) (get_or w (16389 + v * 5 + 1) 0) && numeric_fine (get_or w (16389 + v * 5 + 2) 0) (get_or w (16389 + v * 5 + 3) 0)) (need_fine (get_or w (16389 + v * 5 + 2) 0) (get_or w (16389 + v * 5 + 4) 0)) e in (
          binding_good w u ds _ _ (and_l (binding_fine w u (get_or w (16389 + v * 5) 0) (get_or w (16389 + v * 5 + 1) 0)) (numeric_fine (get_or w (16389 + v * 5 + 2) 0) (get_or w (16389 + v * 5 + 3) 0)) e2),
          (
            numeric_good _ _ (and_r (binding_fine w u (get_or w (16389 + v * 5) 0) (get_or w (16389 + v * 5 + 1) 0)) (numeric_fine (get_or w (16389 + v * 5 + 2) 0) (get_or w (16389 + v * 5 + 3) 0)) e2),
            and_r (binding_fine w u (get_or w (16389 + v * 5) 0) (get_or w (16389 + v * 5 + 1) 0) && numeric_fine (get_or w (16389 + v * 5 + 2) 0) (get_or w (16389 + v * 5 + 3) 0)) (need_fine (get_or w (16389 + v * 5 + 2) 0) (get_or w (16389 + v * 5 + 4) 0)) e,
          ),
        )

    list_good : (i : ℕ) → i < u.constraints → ConstraintGood w u ds (get_or w (21509 + i * 4) 0) (get_or w (21509 + i * 4 + 1) 0) (get_or w (21509 + i * 4 + 2) 0) (get_or w (21509 + i * 4 + 3) 0)
    unfolding constraint_fine kind_fine
    list_good i lt = constraint_good w u ds _ _ (u32 _) _ _ (tag_of (get_or w (21509 + i * 4) 0)) (all_at u.constraints (constraint_fine w u) h.tables.constraints i lt)

    struct_small : (i : ℕ) → i < u.structs → (get_or w (23557 + i * 2) 0 ≤ 15) × (get_or w (23557 + i * 2 + 1) 0 ≤ 8)
    unfolding struct_fine
    struct_small i lt =
        let e = all_at u.structs (struct_fine w) h.tables.structs i lt in
        (leb-true _ 15 (and_l (leb (get_or w (23557 + i * 2) 0) 15) (leb (get_or w (23557 + i * 2 + 1) 0) 8) e), leb-true _ 8 (and_r (leb (get_or w (23557 + i * 2) 0) 15) (leb (get_or w (23557 + i * 2 + 1) 0) 8) e))

    -- ---- rows

    node_rows : Rows node_table w (entries node_table w u.nodes)
    unfolding node_words read_node
    node_rows = rows_from node_table w u.nodes
        (λ t lt. ap (λ (r : List ℕ). node_words (read_node r)) (node_row w t) ∙ (node_good t lt).back ∙ sym (node_row w t))
        (λ i p q. tail_rows node_table w u.nodes (tails_are w u h.tables.tails).t_nodes i p q ∙ blank_node)

    arg_rows : Rows arg_table w (entries arg_table w u.args)
    unfolding arg_words read_arg
    arg_rows = rows_from arg_table w u.args
        (λ t lt. ap (λ (r : List ℕ). arg_words (read_arg r)) (arg_row w t) ∙ sym (arg_row w t))
        (λ i p q. tail_rows arg_table w u.args (let y : u.args * 1 ≡ u.args = omega arith in rw y (tails_are w u h.tables.tails).t_args) i p q ∙ blank_arg)

    var_rows : Rows var_table w (entries var_table w u.vars)
    unfolding cell_words read_cell
    var_rows = rows_from var_table w u.vars
        (λ v lt. let g = cell_good v lt in ap (λ (r : List ℕ). cell_words (read_cell r)) (var_row w v) ∙ cc (g.0.back.flag, g.0.back.word, g.1.0.flag, g.1.0.word) ∙ sym (var_row w v))
        (λ i p q. tail_rows var_table w u.vars (tails_are w u h.tables.tails).t_vars i p q ∙ blank_var)

    constraint_rows : Rows constraint_table w (entries constraint_table w u.constraints)
    constraint_rows = rows_from constraint_table w u.constraints
        (λ i lt. ap (λ (r : List ℕ). constraint_words (read_constraint r)) (constraint_row w i) ∙ (list_good i lt).back ∙ sym (constraint_row w i))
        (λ i p q. tail_rows constraint_table w u.constraints (tails_are w u h.tables.tails).t_constraints i p q ∙ blank_constraint)

    struct_rows : Rows struct_table w ds
    unfolding struct_words
    struct_rows i q = by (dec_lt i u.structs)
      where
        by : Dec (i < u.structs) → row struct_table w i ≡ struct_table.write (get_or ds i struct_table.blank)
        by (yes lt) =
            let m = mod_back (get_or w (23557 + i * 2) 0) 256 (omega (arith, (struct_small i lt).0)) in
            let l = bytes_long w p u i (get_or w (23557 + i * 2 + 1) 0) in
            struct_row w i ∙ cc (m, l) ∙ ap (λ (x : Struct). struct_words x) (sym (struct_is w p u i struct_table.blank lt))
        by (no ge) = tail_rows struct_table w u.structs (tails_are w u h.tables.tails).t_structs i (omega arith) q ∙ blank_struct ∙ ap (λ (x : Struct). struct_words x) (sym (get_or-eq_default ds struct_table.blank (rw (structs_count w p u) (omega arith))))

    holds_words : words_at w 0 5 ≡ count_words S → Holds w S
    unfolding seen view with_structs
    holds_words counts = record { size = z.size; counts = counts; nodes = node_rows; args = arg_rows; vars = var_rows; constraints = constraint_rows; structs = struct_rows }

    -- ---- bytes

    byte_test : (i k : ℕ) → i < 256 → k < 8 → byte_fine (get_or p i []) (params_at w u i) k ≡ true
    unfolding bytes_fine
    byte_test i k a b = all_at 8 (byte_fine (get_or p i []) (params_at w u i)) (all_at 256 (bytes_fine w u p) h.tables.bytes i a) k b

    byte_small : (i k : ℕ) → i < 256 → k < 8 → k < params_at w u i → leb (get_or (get_or p i []) k 0) 31 ≡ true
    unfolding byte_fine
    byte_small i k a b lt = sym (when_true _ _ _ (lt-ltb k (params_at w u i) lt)) ∙ byte_test i k a b

    byte_zero : (i k : ℕ) → i < 256 → k < 8 → params_at w u i ≤ k → get_or (get_or p i []) k 0 ≡ 0
    unfolding byte_fine
    byte_zero i k a b le = eqb-true _ 0 (sym (when_false _ _ _ (le-ltb k (params_at w u i) le)) ∙ byte_test i k a b)

    params_in : (i : ℕ) → i < u.structs → params_at w u i ≡ get_or w (23557 + i * 2 + 1) 0
    unfolding params_at
    params_in i lt = when_true _ _ _ (lt-ltb i u.structs lt)

    params_out : (i : ℕ) → u.structs ≤ i → params_at w u i ≡ 0
    unfolding params_at
    params_out i le = when_false _ _ _ (le-ltb i u.structs le)

    byte_same : (i k : ℕ) → i < 256 → k < 8 → get_or (get_or p i []) k 0 ≡ get_or (get_or ds i struct_table.blank).params k 0
    unfolding bytes_at
    byte_same i k a b = by (dec_lt i u.structs) (dec_lt k (params_at w u i))
      where
        by : Dec (i < u.structs) → Dec (k < params_at w u i) → get_or (get_or p i []) k 0 ≡ get_or (get_or ds i struct_table.blank).params k 0
        by (yes lt) (yes q) = sym (ap (λ (x : Struct). get_or x.params k 0) (struct_is w p u i struct_table.blank lt) ∙ getD_tab (get_or w (23557 + i * 2 + 1) 0) (λ k. get_or (get_or p i []) k 0) k 0 (omega (arith, params_in i lt)))
        by (yes lt) (no q) = byte_zero i k a b (omega arith) ∙ sym (ap (λ (x : Struct). get_or x.params k 0) (struct_is w p u i struct_table.blank lt) ∙ getD_tab_out (get_or w (23557 + i * 2 + 1) 0) (λ k. get_or (get_or p i []) k 0) k 0 (omega (arith, params_in i lt)))
        by (no ge) q = byte_zero i k a b (omega (arith, params_out i (omega arith))) ∙ sym (ap (λ (x : Struct). get_or x.params k 0) (get_or-eq_default ds struct_table.blank (rw (structs_count w p u) (omega arith))))

    same_bytes : p ≡ encode_params S
    unfolding encode_params seen with_structs
    same_bytes = ext_get_or [] p _ (tp.rows ∙ sym (length_tab 256 _)) (λ i a. one i (rw tp.rows at a))
      where
        one : (i : ℕ) → i < 256 → get_or p i [] ≡ get_or (tab 256 (λ i. tab 8 (λ k. get_or (get_or ds i struct_table.blank).params k 0))) i []
        one i a = ext_get_or 0 (get_or p i []) (tab 8 (λ k. get_or (get_or ds i struct_table.blank).params k 0)) (tp.row_long i a ∙ sym (length_tab 8 _)) (λ k b.
            let lt : k < 8 = rw (tp.row_long i a) at b in
            byte_same i k a lt ∙ sym (getD_tab 8 (λ k. get_or (get_or ds i struct_table.blank).params k 0) k 0 lt)) ∙ sym (getD_tab 256 (λ i. tab 8 (λ k. get_or (get_or ds i struct_table.blank).params k 0)) i [] a)

    -- ---- sound

    sound_counts : counts_fit S ≡ true
    unfolding counts_fit max_nodes max_args max_vars max_constraints max_structs
    sound_counts = five_r _ _ _ _ _ (le-leb (count S) 2048 (omega (arith, nodes_count w u ds, z.nodes)))
        (le-leb (length S.args) 4096 (omega (arith, args_count w u ds 0, z.args)))
        (le-leb (taken S) 1024 (omega (arith, cells_count, z.vars)))
        (le-leb (length S.constraints) 512 (omega (arith, constraints_count, z.constraints)))
        (le-leb (length S.structs) 256
        (omega (arith, ap (λ (l : List Struct). length l) decls, structs_count w p u, z.structs)))

    sound_smaller : sd.parts_smaller S ≡ true
    unfolding sd.parts_smaller
    sound_smaller = each_at (λ t n. smaller_than t (parts (with_args S n.value))) nowhere S.nodes (λ t a.
        let lt : t < u.nodes = omega (arith, nodes_count w u ds) in
        ap (λ (n : Node). smaller_than t (parts (with_args S n.value))) (node_is t lt) ∙ (node_good t lt).smaller)

    sound_nodes : all_of (λ n. node_allowed S n) S.nodes ≡ true
    unfolding node_allowed
    sound_nodes = each_of (λ n. node_allowed S n) nowhere S.nodes (λ t a.
        let lt : t < u.nodes = omega (arith, nodes_count w u ds) in
        ap (λ (n : Node). node_allowed S n) (node_is t lt) ∙ both _ _ (u32 _) (node_good t lt).allowed)

    sound_cells : all_of (λ c. cell_allowed S c) S.vars ≡ true
    unfolding cell_allowed get num_loc need_of
    sound_cells = each_of (λ c. cell_allowed S c) unbound S.vars (λ v a.
        let lt : v < u.vars = omega (arith, cells_count) in
        both _ _
        (both _ _ (ap (λ (o : Option ℕ). binding_allowed S o) (get_read w u ds v lt) ∙ (cell_good v lt).0.allowed) (ap (λ (o : Option ℕ). numeric_allowed o) (num_read w u ds v lt) ∙ numeric_u32 _ _ (u32 _)))
        (ap₂ (λ (o : Option ℕ) (n : ℕ). need_allowed o n) (num_read w u ds v lt) (need_read w u ds v lt) ∙ sym (need_same _ _ _ (cell_good v lt).1.0) ∙ (cell_good v lt).1.1))

    sound_constraints : all_of (λ c. constraint_allowed S c) S.constraints ≡ true
    sound_constraints = each_of (λ c. constraint_allowed S c) constraint_table.blank S.constraints (λ i a.
        let lt : i < u.constraints = omega (arith, constraints_count) in
        ap (λ (c : Constraint). constraint_allowed S c) (constraint_read w u ds i lt) ∙ (list_good i lt).allowed)

    sound_struct : (i : ℕ) → i < u.structs → struct_allowed (record { abilities = get_or w (23557 + i * 2) 0 % 256; params = bytes_at p i (get_or w (23557 + i * 2 + 1) 0) }) ≡ true
    unfolding struct_allowed bytes_at
    sound_struct i lt =
        let n = get_or w (23557 + i * 2 + 1) 0 in
        both _ _ (both _ _ (set_mod _ (struct_small i lt).0) (le-leb (length (bytes_at p i n)) 8 (omega (arith, bytes_long w p u i n, (struct_small i lt).1))))
        (each_of (λ q. leb q 31) 0 (tab n (λ k. get_or (get_or p i []) k 0)) (λ k a.
        let b : k < n = rw (length_tab n (λ k. get_or (get_or p i []) k 0)) at a in
        ap (λ (q : ℕ). leb q 31) (getD_tab n (λ k. get_or (get_or p i []) k 0) k 0 b) ∙ byte_small i k (omega (arith, z.structs)) (omega (arith, (struct_small i lt).1)) (omega (arith, params_in i lt))))

    sound_structs : all_of (λ d. struct_allowed d) S.structs ≡ true
    sound_structs = rw decls (each_of (λ d. struct_allowed d) struct_table.blank ds (λ i a.
        let lt : i < u.structs = rw (structs_count w p u) at a in
        ap (λ (d : Struct). struct_allowed d) (struct_is w p u i struct_table.blank lt) ∙ sound_struct i lt))

    sound_known : no_binding_anything S ≡ true
    unfolding no_binding_anything get
    sound_known = each_of (λ c. no_anything S c.binding) unbound S.vars (λ v a.
        let lt : v < u.vars = omega (arith, cells_count) in
        ap (λ (o : Option ℕ). no_anything S o) (get_read w u ds v lt) ∙ (cell_good v lt).0.knows)

    sound_chains : chains_end S ≡ true
    unfolding chains_end
    sound_chains = each_at (λ v c. chain_ends S v) unbound S.vars (λ v a. sym (chain_is w u ds v) ∙ all_at u.vars (chain_fine w u) h.chains v (omega (arith, cells_count)))

    pub tests_sound : sound S ≡ true
    unfolding sound fields_allowed
    tests_sound = five_r _ _ _ _ _ sound_counts sound_smaller (both _ _ (both _ _ (both _ _ sound_nodes sound_cells) sound_constraints) sound_structs) sound_known sound_chains

  -- ---- and the other way

  module _ (holds_s : Holds w S) (same : p ≡ encode_params S) (ok : sound S ≡ true) where
    five : (sd.counts_fit S ≡ true) × ((sd.parts_smaller S ≡ true) × ((fields_allowed S ≡ true) × ((no_binding_anything S ≡ true) × (chains_end S ≡ true))))
    unfolding sound
    five = five_l (counts_fit S) (sd.parts_smaller S) (fields_allowed S) (no_binding_anything S) (chains_end S) ok

    four : (all_of (λ n. node_allowed S n) S.nodes ≡ true) × ((all_of (λ c. cell_allowed S c) S.vars ≡ true) × ((all_of (λ c. constraint_allowed S c) S.constraints ≡ true) × (all_of (λ d. struct_allowed d) S.structs ≡ true)))
    unfolding fields_allowed
    four =
        let A = all_of (λ n. node_allowed S n) S.nodes in
        let B = all_of (λ c. cell_allowed S c) S.vars in
        let C = all_of (λ c. constraint_allowed S c) S.constraints in
        let D = all_of (λ d. struct_allowed d) S.structs in
        let e3 = and_l (A && B && C) D five.1.1.0 in
        let e2 = and_l (A && B) C e3 in
        (and_l A B e2, (and_r A B e2, (and_r (A && B) C e3, and_r (A && B && C) D five.1.1.0)))

    -- rows of the entries in use
    n_rows : Rows node_table w (entries node_table w u.nodes)
    unfolding seen view with_structs
    n_rows = holds_s.nodes

    a_rows : Rows arg_table w (entries arg_table w u.args)
    unfolding seen view with_structs
    a_rows = holds_s.args

    v_rows : Rows var_table w (entries var_table w u.vars)
    unfolding seen view with_structs
    v_rows = holds_s.vars

    c_rows : Rows constraint_table w (entries constraint_table w u.constraints)
    unfolding seen view with_structs
    c_rows = holds_s.constraints

    s_rows : Rows struct_table w ds
    unfolding seen with_structs
    s_rows = holds_s.structs

    was_tails : Tails w u
    was_tails =
        record {
          t_nodes = rows_tail node_table w u.nodes (omega arith) z.nodes (λ i a b. past_row node_table w u.nodes n_rows i a b ∙ sym blank_node);
          t_args = let y : u.args * 1 ≡ u.args = omega arith in rw y at (rows_tail arg_table w u.args (omega arith) z.args (λ i a b. past_row arg_table w u.args a_rows i a b ∙ sym blank_arg));
          t_vars = rows_tail var_table w u.vars (omega arith) z.vars (λ i a b. past_row var_table w u.vars v_rows i a b ∙ sym blank_var);
          t_constraints = rows_tail constraint_table w u.constraints (omega arith) z.constraints (λ i a b. past_row constraint_table w u.constraints c_rows i a b ∙ sym blank_constraint);
          t_structs = rows_tail struct_table w u.structs (omega arith) z.structs (λ i a b. s_rows i b ∙ ap (λ (x : Struct). struct_table.write x) (get_or-eq_default ds struct_table.blank (rw (structs_count w p u) a)) ∙ sym blank_struct);
        }

    node_was : (t : ℕ) → t < u.nodes → GoodAt t
    unfolding node_allowed sd.parts_smaller node_words read_node
    node_was t lt =
        let a : t < count S = omega (arith, nodes_count w u ds) in
        record {
          back = ap (λ (r : List ℕ). node_words (read_node r)) (sym (node_row w t)) ∙ used_row node_table w u.nodes n_rows z.nodes t lt ∙ node_row w t;
          allowed = and_r (is_u32 (get_or w (5 + t * 6 + 1) 0)) _ (ap (λ (n : Node). node_allowed S n) (sym (node_is t lt)) ∙ of_each (λ n. node_allowed S n) nowhere S.nodes four.0 t a);
          smaller = ap (λ (n : Node). smaller_than t (parts (with_args S n.value))) (sym (node_is t lt)) ∙ at_place (λ t n. smaller_than t (parts (with_args S n.value))) nowhere S.nodes five.1.0 t a;
        }

    -- the words of a variable's row
    record CellWords (v : ℕ) : Type 0 where
      pub binding : Back (get_or w (16389 + v * 5) 0) (get_or w (16389 + v * 5 + 1) 0)
      pub numeric : Back (get_or w (16389 + v * 5 + 2) 0) (get_or w (16389 + v * 5 + 3) 0)

    cell_back : (v : ℕ) → v < u.vars → CellWords v
    unfolding cell_words read_cell
    cell_back v lt =
        let e = ap (λ (r : List ℕ). cell_words (read_cell r)) (sym (var_row w v)) ∙ used_row var_table w u.vars v_rows z.vars v lt ∙ var_row w v in
        record { binding = record { flag = cc; word = cc }; numeric = record { flag = cc; word = cc } }

    cell_was : (v : ℕ) → v < u.vars → cell_fine w u v ≡ true
    unfolding cell_fine cell_allowed no_binding_anything get num_loc need_of
    cell_was v lt =
        let a : v < length S.vars = omega (arith, cells_count) in
        let c = cell_back v lt in
        let al = of_each (λ c. cell_allowed S c) unbound S.vars four.1.0 v a in
        let kn = of_each (λ c. no_anything S c.binding) unbound S.vars five.1.1.1.0 v a in
        both _ _ (both _ _
        (binding_was w u ds _ _ (record {
          back = c.binding;
          allowed = ap (λ (o : Option ℕ). binding_allowed S o) (sym (get_read w u ds v lt)) ∙ and_l _ (numeric_allowed (get_or S.vars v unbound).numeric) (and_l _ (need_allowed (get_or S.vars v unbound).numeric (get_or S.vars v unbound).need) al);
          knows = ap (λ (o : Option ℕ). no_anything S o) (sym (get_read w u ds v lt)) ∙ kn;
        }))
        (numeric_was _ _ c.numeric))
        (need_same _ _ _ c.numeric
        ∙ sym (ap₂ (λ (o : Option ℕ) (n : ℕ). need_allowed o n) (num_read w u ds v lt) (need_read w u ds v lt))
        ∙ and_r _ (need_allowed (get_or S.vars v unbound).numeric (get_or S.vars v unbound).need) al)

    list_was : (i : ℕ) → i < u.constraints → constraint_fine w u i ≡ true
    unfolding constraint_fine kind_fine
    list_was i lt =
        let a : i < length S.constraints = omega (arith, constraints_count) in
        constraint_was w u ds _ _ (u32 _) _ _ (tag_of (get_or w (21509 + i * 4) 0)) (record {
          back = ap (λ (r : List ℕ). constraint_words (read_constraint r)) (sym (constraint_row w i)) ∙ used_row constraint_table w u.constraints c_rows z.constraints i lt ∙ constraint_row w i;
          allowed = ap (λ (c : Constraint). constraint_allowed S c) (sym (constraint_read w u ds i lt)) ∙ of_each (λ c. constraint_allowed S c) constraint_table.blank S.constraints four.1.1.0 i a;
        })

    allowed_struct : (i : ℕ) → i < u.structs → struct_allowed (record { abilities = get_or w (23557 + i * 2) 0 % 256; params = bytes_at p i (get_or w (23557 + i * 2 + 1) 0) }) ≡ true
    allowed_struct i lt = ap (λ (d : Struct). struct_allowed d) (sym (struct_is w p u i struct_table.blank lt)) ∙ of_each (λ d. struct_allowed d) struct_table.blank ds (rw decls at four.1.1.1) i (rw (structs_count w p u) lt)

    struct_mod : (i : ℕ) → i < u.structs → get_or w (23557 + i * 2) 0 % 256 ≡ get_or w (23557 + i * 2) 0
    unfolding struct_words
    struct_mod i lt =
        let e = ap (λ (x : Struct). struct_words x) (sym (struct_is w p u i struct_table.blank lt)) ∙ sym (s_rows i (omega (arith, z.structs))) ∙ struct_row w i in
        cc

    struct_was : (i : ℕ) → i < u.structs → struct_fine w i ≡ true
    unfolding struct_fine struct_allowed
    struct_was i lt =
        let n = get_or w (23557 + i * 2 + 1) 0 in
        let e = and_l (is_set (get_or w (23557 + i * 2) 0 % 256) && leb (length (bytes_at p i n)) 8) (all_of (λ q. leb q 31) (bytes_at p i n)) (allowed_struct i lt) in
        both _ _ (le-leb _ 15 (set_was _ (struct_mod i lt) (and_l (is_set (get_or w (23557 + i * 2) 0 % 256)) (leb (length (bytes_at p i n)) 8) e)))
        (le-leb n 8 (omega (arith, bytes_long w p u i n, leb-true (length (bytes_at p i n)) 8 (and_r (is_set (get_or w (23557 + i * 2) 0 % 256)) (leb (length (bytes_at p i n)) 8) e))))

    chain_list : chains_end S ≡ true → sd.all_at (λ v c. chain_ends S v) 0 S.vars ≡ true
    unfolding chains_end
    chain_list e = e

    byte_of : (i k : ℕ) → i < 256 → k < 8 → get_or (get_or p i []) k 0 ≡ get_or (get_or ds i struct_table.blank).params k 0
    unfolding encode_params seen with_structs
    byte_of i k a b =
        ap (λ (q : List (List ℕ)). get_or (get_or q i []) k 0) same
        ∙ ap (λ (r : List ℕ). get_or r k 0) (getD_tab 256 (λ i. tab 8 (λ k. get_or (get_or ds i struct_table.blank).params k 0)) i [] a)
        ∙ getD_tab 8 (λ k. get_or (get_or ds i struct_table.blank).params k 0) k 0 b

    bytes_in : (i : ℕ) → i < u.structs → params_at w u i ≡ get_or w (23557 + i * 2 + 1) 0
    unfolding params_at
    bytes_in i lt = when_true _ _ _ (lt-ltb i u.structs lt)

    bytes_out : (i : ℕ) → u.structs ≤ i → params_at w u i ≡ 0
    unfolding params_at
    bytes_out i le = when_false _ _ _ (le-ltb i u.structs le)

    byte_allowed : (i k : ℕ) → i < u.structs → k < get_or w (23557 + i * 2 + 1) 0 → leb (get_or (get_or p i []) k 0) 31 ≡ true
    unfolding struct_allowed bytes_at
    byte_allowed i k lt b =
        let n = get_or w (23557 + i * 2 + 1) 0 in
        let e = and_r (is_set (get_or w (23557 + i * 2) 0 % 256) && leb (length (bytes_at p i n)) 8) (all_of (λ q. leb q 31) (bytes_at p i n)) (allowed_struct i lt) in
        ap (λ (q : ℕ). leb q 31) (sym (getD_tab n (λ k. get_or (get_or p i []) k 0) k 0 b)) ∙ of_each (λ q. leb q 31) 0 (tab n (λ k. get_or (get_or p i []) k 0)) e k (rw (length_tab n (λ k. get_or (get_or p i []) k 0)) b)

    byte_past : (i k : ℕ) → i < 256 → k < 8 → params_at w u i ≤ k → get_or (get_or p i []) k 0 ≡ 0
    unfolding bytes_at
    byte_past i k a b le = byte_of i k a b ∙ by (dec_lt i u.structs)
      where
        by : Dec (i < u.structs) → get_or (get_or ds i struct_table.blank).params k 0 ≡ 0
        by (yes lt) = ap (λ (x : Struct). get_or x.params k 0) (struct_is w p u i struct_table.blank lt) ∙ getD_tab_out (get_or w (23557 + i * 2 + 1) 0) (λ k. get_or (get_or p i []) k 0) k 0 (omega (arith, bytes_in i lt))
        by (no ge) = ap (λ (x : Struct). get_or x.params k 0) (get_or-eq_default ds struct_table.blank (rw (structs_count w p u) (omega arith)))

    byte_was : (i k : ℕ) → i < 256 → k < 8 → byte_fine (get_or p i []) (params_at w u i) k ≡ true
    unfolding byte_fine
    byte_was i k a b = by (dec_lt k (params_at w u i)) (dec_lt i u.structs)
      where
        by : Dec (k < params_at w u i) → Dec (i < u.structs) → byte_fine (get_or p i []) (params_at w u i) k ≡ true
        by (yes q) (yes lt) = when_true _ _ _ (lt-ltb k (params_at w u i) q) ∙ byte_allowed i k lt (omega (arith, bytes_in i lt))
        by (yes q) (no ge) = absurd (omega (arith, bytes_out i (omega arith)))
        by (no q) lt = when_false _ _ _ (le-ltb k (params_at w u i) (omega arith)) ∙ eq-eqb _ 0 (byte_past i k a b (omega arith))

    pub sound_tests : Tests w p u
    unfolding bytes_fine node_fine
    sound_tests =
        record {
          tables = record {
            tails = are_tails w u was_tails;
            structs = all_from u.structs (struct_fine w) struct_was;
            bytes = all_from 256 (bytes_fine w u p) (λ i a. all_from 8 (byte_fine (get_or p i []) (params_at w u i)) (λ k b. byte_was i k a b));
            nodes = all_from u.nodes (node_fine w u) (λ t lt. fine w u ds _ z.vars (counted w p u) t _ _ _ _ _ (tag_of (get_or w (5 + t * 6) 0)) (node_was t lt));
            cells = all_from u.vars (cell_fine w u) cell_was;
            constraints = all_from u.constraints (constraint_fine w u) list_was;
          };
          chains = all_from u.vars (chain_fine w u) (λ v lt. chain_is w u ds v ∙ at_place (λ v c. chain_ends S v) unbound S.vars (chain_list five.1.1.1.1) v (omega (arith, cells_count)));
        }

-- ---- the test as the definition has it

pub list_count : (w : List ℕ) (u : Used) (ds : List Struct) → length (seen w u ds).constraints ≡ u.constraints
unfolding seen view with_structs
list_count w u ds = length_entries constraint_table w u.constraints

pub decl_count : (w : List ℕ) (p : List (List ℕ)) (u : Used) → length (seen w u (structs_of w p u.structs)).structs ≡ u.structs
unfolding seen with_structs
decl_count w p u = structs_count w p u

same_words_are : (l m : List ℕ) → same_words l m ≡ true → l ≡ m
unfolding same_words
same_words_are [] [] e = refl
same_words_are [] (y ∷ m) e = absurd (let o : ◌≡◌ {A = ℕ} 0 1 = cc in omega arith)
same_words_are (x ∷ l) [] e = absurd (let o : ◌≡◌ {A = ℕ} 0 1 = cc in omega arith)
same_words_are (x ∷ l) (y ∷ m) e = ap₂ (λ (a : ℕ) (b : List ℕ). a ∷ b) (eqb-true x y (and_l (eqb x y) (same_words l m) e)) (same_words_are l m (and_r (eqb x y) (same_words l m) e))

same_words_refl : (l : List ℕ) → same_words l l ≡ true
unfolding same_words
same_words_refl [] = refl
same_words_refl (x ∷ l) = both _ _ (eq-eqb x x refl) (same_words_refl l)

same_rows_are : (l m : List (List ℕ)) → same_rows l m ≡ true → l ≡ m
unfolding same_rows
same_rows_are [] [] e = refl
same_rows_are [] (y ∷ m) e = absurd (let o : ◌≡◌ {A = ℕ} 0 1 = cc in omega arith)
same_rows_are (x ∷ l) [] e = absurd (let o : ◌≡◌ {A = ℕ} 0 1 = cc in omega arith)
same_rows_are (x ∷ l) (y ∷ m) e = ap₂ (λ (a : List ℕ) (b : List (List ℕ)). a ∷ b) (same_words_are x y (and_l (same_words x y) (same_rows l m) e)) (same_rows_are l m (and_r (same_words x y) (same_rows l m) e))

same_rows_refl : (l : List (List ℕ)) → same_rows l l ≡ true
unfolding same_rows
same_rows_refl [] = refl
same_rows_refl (x ∷ l) = both _ _ (same_words_refl x) (same_rows_refl l)

module _ (w : List ℕ) (p : List (List ℕ)) where
  pub lent_says : lent_sound w p ≡ true → LentSound w p
  unfolding lent_sound
  lent_says e =
      let A = same_words w (encode_words (decode w p)) in
      let B = same_rows p (encode_params (decode w p)) in
      let e2 = and_l (A && B) (sound (decode w p)) e in
      record { words = same_words_are w (encode_words (decode w p)) (and_l A B e2); bytes = same_rows_are p (encode_params (decode w p)) (and_r A B e2); is_sound = and_r (A && B) (sound (decode w p)) e }

  pub lent_passes : LentSound w p → lent_sound w p ≡ true
  unfolding lent_sound
  lent_passes h = both _ _ (both _ _ (ap (λ (l : List ℕ). same_words w l) (sym h.words) ∙ same_words_refl w) (ap (λ (l : List (List ℕ)). same_rows p l) (sym h.bytes) ∙ same_rows_refl p)) h.is_sound

  -- the counts are the first five words
  counts_are : words_at w 0 5 ≡ count_words (decode w p)
  unfolding words_at tab count_words decode used_of
  counts_are = cc (
    nodes_count w (used_of w) (structs_of w p (used_of w).structs),
    args_count w (used_of w) (structs_of w p (used_of w).structs) 0,
    vars_count w (used_of w) (structs_of w p (used_of w).structs) 0,
    list_count w (used_of w) (structs_of w p (used_of w).structs),
    decl_count w p (used_of w),
  )

  pub lent_holds : LentSound w p → Holds w (decode w p)
  lent_holds h = rw (← h.words) at (holds (decode w p))

  few_counts : (s : State) → counts_fit s ≡ true → (count s ≤ 2048) × ((length s.args ≤ 4096) × ((taken s ≤ 1024) × ((length s.constraints ≤ 512) × (length s.structs ≤ 256))))
  unfolding counts_fit max_nodes max_args max_vars max_constraints max_structs
  few_counts s e =
      let h = five_l (leb (count s) 2048) (leb (length s.args) 4096) (leb (taken s) 1024) (leb (length s.constraints) 512) (leb (length s.structs) 256) e in
      (leb-true _ 2048 h.0, (leb-true _ 4096 h.1.0, (leb-true _ 1024 h.1.1.0, (leb-true _ 512 h.1.1.1.0, leb-true _ 256 h.1.1.1.1))))

  pub lent_sized : LentSound w p → Sized w (used_of w)
  unfolding sound decode
  lent_sized h =
      let s = decode w p in
      let D = structs_of w p (used_of w).structs in
      let c = few_counts s (five_l (counts_fit s) (sd.parts_smaller s) (fields_allowed s) (no_binding_anything s) (chains_end s) h.is_sound).0 in
      record {
        size = (lent_holds h).size;
        nodes = omega (arith, c.0, nodes_count w (used_of w) D);
        args = omega (arith, c.1.0, args_count w (used_of w) D 0);
        vars = omega (arith, c.1.1.0, vars_count w (used_of w) D 0);
        constraints = omega (arith, c.1.1.1.0, list_count w (used_of w) D);
        structs = omega (arith, c.1.1.1.1, decl_count w p (used_of w));
      }

  module _ (small : (k : ℕ) → get_or w k 0 < 4294967296) (tp : TableOf p) where
    -- all tests pass: the state is sound
    pub tested : Sized w (used_of w) → Tests w p (used_of w) → lent_sound w p ≡ true
    unfolding decode
    tested z h = lent_passes (record {
      words = encoded w (decode w p) (holds_words w p (used_of w) z small tp h counts_are);
      bytes = same_bytes w p (used_of w) z small tp h;
      is_sound = tests_sound w p (used_of w) z small tp h;
    })

    -- .. and where it is sound, all pass
    pub tests_of : lent_sound w p ≡ true → Tests w p (used_of w)
    unfolding decode
    tests_of e = let h = lent_says e in sound_tests w p (used_of w) (lent_sized h) small tp (lent_holds h) h.bytes h.is_sound

-- ---- counts

counts_sized : (u : Used) → counts_fine u ≡ true → (u.nodes ≤ 2048) × ((u.args ≤ 4096) × ((u.vars ≤ 1024) × ((u.constraints ≤ 512) × (u.structs ≤ 256))))
unfolding counts_fine
counts_sized u e =
    let h = five_l (leb u.nodes 2048) (leb u.args 4096) (leb u.vars 1024) (leb u.constraints 512) (leb u.structs 256) e in
    (leb-true _ 2048 h.0, (leb-true _ 4096 h.1.0, (leb-true _ 1024 h.1.1.0, (leb-true _ 512 h.1.1.1.0, leb-true _ 256 h.1.1.1.1))))

pub sized : (w : List ℕ) (u : Used) → length w ≡ 24069 → counts_fine u ≡ true → Sized w u
sized w u size e = let h = counts_sized u e in record { size = size; nodes = h.0; args = h.1.0; vars = h.1.1.0; constraints = h.1.1.1.0; structs = h.1.1.1.1 }

pub counts_were : (w : List ℕ) (u : Used) → Sized w u → counts_fine u ≡ true
unfolding counts_fine
counts_were w u z = five_r _ _ _ _ _ (le-leb u.nodes 2048 z.nodes) (le-leb u.args 4096 z.args) (le-leb u.vars 1024 z.vars) (le-leb u.constraints 512 z.constraints) (le-leb u.structs 256 z.structs)

-- ---- as the code goes through the tests

refuse : (b : Bool) → (b ≡ true → ⊥) → b ≡ false
refuse true f = absurd (f refl)
refuse false f = refl

pub no_size : (w : List ℕ) (p : List (List ℕ)) → (length w ≡ 24069 → ⊥) → lent_sound w p ≡ false
no_size w p ne = refuse (lent_sound w p) (λ e. ne (lent_sized w p (lent_says w p e)).size)

module _ (w : List ℕ) (p : List (List ℕ)) (u : Used) (is : u ≡ used_of w) where
  pub no_counts : counts_fine u ≡ false → lent_sound w p ≡ false
  no_counts f = not_passed (lent_sound w p) (counts_fine u) (λ e. rw is (counts_were w (used_of w) (lent_sized w p (lent_says w p e)))) f

  module _ (small : (k : ℕ) → get_or w k 0 < 4294967296) (tp : TableOf p) where
    tests : lent_sound w p ≡ true → Tests w p u
    tests e = rw is (tests_of w p small tp e)

    -- a table's test fails
    pub no_tables : tables_fine w u p ≡ false → lent_sound w p ≡ false
    no_tables f = not_passed (lent_sound w p) (tables_fine w u p) (λ e. tables_are w u p (tests e).tables) f

    -- the last test decides
    pub last_test : Sized w u → tables_fine w u p ≡ true → all_below u.vars (chain_fine w u) ≡ lent_sound w p
    last_test z a = same_test _ _
        (λ g. let t : Tests w p u = record { tables = tables_say w u p a; chains = g } in tested w p small tp (rw is at z) (rw is at t))
        (λ g. (tests g).chains)
