-- Reading a sound state back from its words and bytes gives it again. Assumes nothing.
-- First one entry of each table, then each table as a list, then the state. At the end: the encoding passes the test.
use mathlib.Core.Path.{◌≡◌, refl, sym, ap, ap₂, ◌∙◌}
use mathlib.Core.Bool.{Bool, true, false, ◌&&◌}
use mathlib.Core.List.{List, [], ◌∷◌}
use Rattle.std.specs.Prelude.{Option, None, Some}
use Prim.Native.Nat.{ℕ, ◌+◌, ◌-◌, ◌≤◌, ◌<◌, ◌%◌}
use native.Mathlib.Omega.{arith}
use lib.Dec.{eqb, leb, ltb}
use lib.ListN.{length, get_or, length-replicate}
use lib.Seq.{ext_get_or}
use borrow.Author.Tests.{ltb-true, leb-true, le-ltb}
use Rattle.definition.specs.Types.{State, Cell, Shape, TypeName, Multiple, Builtin, ModuleType, AbilityMark, UnitType, Ref, Param, Apply, Var, Anything, UnresolvedError, Places, unbound}
use Rattle.definition.specs.Types.{Constraint, AbilityConstraint, NumericConstraint, BitsConstraint, OrderedConstraint, BaseTypeConstraint, SingleTypeConstraint}
use Rattle.definition.specs.Store.{count, taken, with_structs, all_of}
use Rattle.definition.specs.Trees.{mark_fits, is_set, is_mark, is_name}
use Rattle.definition.specs.Sound as sd
use Rattle.definition.specs.Sound.{sound, is_u32, places_fit, shape_allowed, node_allowed, at_node, constraint_allowed, struct_allowed}
use Rattle.theorems.proofs.SoundFacts.{of_each, fields}
use Rattle.theorems.proofs.Soundness.{IsSound, sound_is}
use Rattle.table.specs.Tab.{tab}
use Rattle.table.specs.Rows.{Table, row, entries, flag, read_mark, mark_word, read_option, option_flag, option_word, read_name, name_tag, name_word, places, read_shape, shape_words}
use Rattle.table.specs.Rows.{read_node, node_words, read_arg, arg_words, read_cell, cell_words, read_constraint, constraint_words, read_struct, struct_words, node_table, arg_table, var_table, constraint_table, struct_table}
use Rattle.table.specs.State.{view, seen}
use Rattle.table.specs.declared.Used.{Used}
use Rattle.table.proofs.Tab.{length_tab, getD_tab}
use Rattle.table.proofs.Rows.{length_entries, entry_at}
use Rattle.table.specs.Encode.{counts as count_words, encode as encode_words}
use Rattle.sound.specs.Lent.{used_of, bytes_at, struct_of, structs_of, decode, encode_params, LentSound}
use Rattle.sound_fields.proofs.Below.{and_l, and_r, when_false}
use Rattle.sound.proofs.Fields.{mod_back}
use Rattle.sound.proofs.Encode.{Rows, holds}

-- ---- each entry is read as it was written

small_set : (x : ℕ) → is_set x ≡ true → x % 256 ≡ x
small_set x e = mod_back x 256 (omega (arith, leb-true x 15 e))

flag_read : (m : Bool) → eqb (flag m) 1 ≡ m
unfolding flag
flag_read true = refl
flag_read false = refl

mark_read : (k : AbilityMark) → is_mark k ≡ true → read_mark (mark_word k) ≡ k
unfolding read_mark mark_word is_mark
mark_read None e = refl
mark_read (Some x) e =
    let z : 16 + x - 16 ≡ x = omega arith in
    when_false (ltb (16 + x) 16) None (Some ((16 + x - 16) % 256)) (le-ltb (16 + x) 16 (omega arith)) ∙ ap (λ (y : ℕ). Some (y % 256)) z ∙ ap Some (small_set x e)

option_read : (o : Option ℕ) → read_option (option_flag o) (option_word o) ≡ o
unfolding read_option option_flag option_word
option_read None = refl
option_read (Some x) = refl

apply_read : (loc : ℕ) (k : AbilityMark) (n : TypeName) (p : Places) → is_mark k ≡ true
    → read_shape (name_tag n) (mark_word k) (name_word n) p.first p.many ≡ Apply k n p
unfolding read_shape name_tag name_word read_name places
apply_read loc k (Multiple n) p e = ap (λ (m : AbilityMark). Apply m (Multiple n) p) (mark_read k e)
apply_read loc k (Builtin n) p e = ap (λ (m : AbilityMark). Apply m (Builtin n) p) (mark_read k e)
apply_read loc k (ModuleType n) p e = ap (λ (m : AbilityMark). Apply m (ModuleType n) p) (mark_read k e)

shape_read : (s : State) → taken s ≤ 1024 → (loc : ℕ) (x : Shape Places) → shape_allowed s x ≡ true → read_node (shape_words loc x) ≡ record { loc = loc; value = x }
unfolding read_node shape_words read_shape shape_allowed
shape_read s few loc UnitType e = refl
shape_read s few loc (Ref m t) e = ap (λ (b : Bool). record { loc = loc; value = Ref b t }) (flag_read m)
shape_read s few loc (Param id a) e = ap (λ (b : ℕ). record { loc = loc; value = Param id b }) (small_set a (and_r (is_u32 id) (is_set a) e))
shape_read s few loc (Apply k n p) e = ap (λ (v : Shape Places). record { loc = loc; value = v }) (apply_read loc k n p (and_l (is_mark k) (is_name s n) (and_l (is_mark k && is_name s n) (mark_fits k n) (and_l (is_mark k && is_name s n && mark_fits k n) (places_fit s n p) e))))
shape_read s few loc (Var v) e = ap (λ (b : ℕ). record { loc = loc; value = Var b }) (mod_back v 65536 (omega (arith, ltb-true v (taken s) e)))
shape_read s few loc Anything e = refl
shape_read s few loc UnresolvedError e = refl

cell_read : (c : Cell) → read_cell (cell_words c) ≡ c
unfolding read_cell cell_words
cell_read c = ap₂ (λ (b n : Option ℕ). record { binding = b; numeric = n; need = c.need }) (option_read c.binding) (option_read c.numeric)

constraint_back : (s : State) (c : Constraint) → constraint_allowed s c ≡ true → read_constraint (constraint_words c) ≡ c
unfolding read_constraint constraint_words constraint_allowed
constraint_back s (AbilityConstraint loc ty a) e = ap (λ (x : ℕ). AbilityConstraint loc ty x) (small_set a (and_r (at_node s loc ty) (is_set a) e))
constraint_back s (NumericConstraint loc ty) e = refl
constraint_back s (BitsConstraint loc ty) e = refl
constraint_back s (OrderedConstraint loc ty) e = refl
constraint_back s (BaseTypeConstraint loc ty) e = refl
constraint_back s (SingleTypeConstraint loc ty) e = refl

parts_of : (s : State) → sound s ≡ true → (all_of (λ n. node_allowed s n) s.nodes ≡ true) × ((all_of (λ c. constraint_allowed s c) s.constraints ≡ true) × (all_of (λ d. struct_allowed d) s.structs ≡ true))
unfolding sd.fields_allowed
parts_of s ok =
    let A = all_of (λ n. node_allowed s n) s.nodes in
    let B = all_of (λ c. sd.cell_allowed s c) s.vars in
    let C = all_of (λ c. constraint_allowed s c) s.constraints in
    let D = all_of (λ d. struct_allowed d) s.structs in
    let e3 = and_l (A && B && C) D (fields s ok) in
    (and_l A B (and_l (A && B) C e3), (and_r (A && B) C e3, and_r (A && B && C) D (fields s ok)))

-- ---- each table is read as it was written

entries_back : {A : Type 0} (T : Table A) (w : List ℕ) (l : List A) → length l ≤ T.rows → Rows T w l
    → ((i : ℕ) → i < length l → T.read (T.write (get_or l i T.blank)) ≡ get_or l i T.blank) → entries T w (length l) ≡ l
entries_back {A} T w l le r again = ext_get_or T.blank (entries T w (length l)) l (length_entries T w (length l)) (λ i h.
    let lt : i < length l = rw (length_entries T w (length l)) at h in
    entry_at T w (length l) i T.blank lt ∙ ap (λ (x : List ℕ). T.read x) (r i (omega arith)) ∙ again i lt)

module _ (s : State) (ok : sound s ≡ true) where
  abbrev W : List ℕ
  W = encode_words s

  abbrev P : List (List ℕ)
  P = encode_params s

  q : IsSound s
  q = (sound_is s).0 ok

  fits : (count s ≤ 2048) × ((length s.args ≤ 4096) × ((taken s ≤ 1024) × ((length s.constraints ≤ 512) × (length s.structs ≤ 256))))
  unfolding Rattle.definition.specs.Types.max_nodes Rattle.definition.specs.Types.max_args Rattle.definition.specs.Types.max_vars Rattle.definition.specs.Types.max_constraints Rattle.definition.specs.Types.max_structs
  fits = (q.few_nodes, (q.few_args, (q.few_vars, (q.few_constraints, q.few_structs))))

  nodes_back : entries node_table W (count s) ≡ s.nodes
  unfolding node_words node_allowed
  nodes_back = entries_back node_table W s.nodes fits.0 (holds s).nodes (λ t h.
      let n = get_or s.nodes t node_table.blank in
      shape_read s fits.1.1.0 n.loc n.value (and_r (is_u32 n.loc) (shape_allowed s n.value) (of_each (λ n. node_allowed s n) node_table.blank s.nodes all_nodes t h)))
    where
      all_nodes : all_of (λ n. node_allowed s n) s.nodes ≡ true
      all_nodes = (parts_of s ok).0

  args_back : entries arg_table W (length s.args) ≡ s.args
  unfolding arg_words read_arg
  args_back = entries_back arg_table W s.args fits.1.0 (holds s).args (λ i h. refl)

  vars_back : entries var_table W (taken s) ≡ s.vars
  vars_back = entries_back var_table W s.vars fits.1.1.0 (holds s).vars (λ i h. cell_read (get_or s.vars i unbound))

  list_back : entries constraint_table W (length s.constraints) ≡ s.constraints
  list_back = entries_back constraint_table W s.constraints fits.1.1.1.0 (holds s).constraints (λ i h. constraint_back s (get_or s.constraints i constraint_table.blank) (of_each (λ c. constraint_allowed s c) constraint_table.blank s.constraints (parts_of s ok).1.0 i h))

  struct_fields : (i : ℕ) → i < length s.structs → struct_allowed (get_or s.structs i struct_table.blank) ≡ true
  struct_fields i h = of_each (λ d. struct_allowed d) struct_table.blank s.structs (parts_of s ok).1.1 i h

  struct_back : (i : ℕ) → i < length s.structs → struct_of W P i ≡ get_or s.structs i struct_table.blank
  unfolding struct_of read_struct struct_words struct_allowed encode_params bytes_at
  struct_back i h =
      let d = get_or s.structs i struct_table.blank in
      let n = length d.params in
      let e2 = and_l (is_set d.abilities && leb n 8) (all_of (λ p. leb p 31) d.params) (struct_fields i h) in
      let n8 = leb-true n 8 (and_r (is_set d.abilities) (leb n 8) e2) in
      let m = small_set d.abilities (and_l (is_set d.abilities) (leb n 8) e2) in
      let r : row struct_table W i ≡ d.abilities ∷ n ∷ [] = (holds s).structs i (omega (arith, fits.1.1.1.1)) in
      let b : bytes_at P i n ≡ d.params = ext_get_or 0 (bytes_at P i n) d.params (length_tab n _) (λ k a.
      let lt : k < n = rw (length_tab n (λ k. get_or (get_or P i []) k 0)) at a in
      getD_tab n (λ k. get_or (get_or P i []) k 0) k 0 lt
      ∙ ap (λ (x : List ℕ). get_or x k 0) (getD_tab 256 (λ i. tab 8 (λ k. get_or (get_or s.structs i struct_table.blank).params k 0)) i [] (omega (arith, fits.1.1.1.1)))
      ∙ getD_tab 8 (λ k. get_or (get_or s.structs i struct_table.blank).params k 0) k 0 (omega (arith, n8))) in
      ap (λ (x : List ℕ). record { abilities = (read_struct x).abilities; params = bytes_at P i (length (read_struct x).params) }) r
      ∙ ap₂ (λ (a : ℕ) (x : List ℕ). record { abilities = a; params = x }) m (ap (λ (y : ℕ). bytes_at P i y) (length-replicate {A = ℕ} n 0) ∙ b)

  structs_back : structs_of W P (length s.structs) ≡ s.structs
  unfolding structs_of
  structs_back = ext_get_or struct_table.blank (structs_of W P (length s.structs)) s.structs (length_tab (length s.structs) _) (λ i a.
      let lt : i < length s.structs = rw (length_tab (length s.structs) (λ i. struct_of W P i)) at a in
      getD_tab (length s.structs) (λ i. struct_of W P i) i struct_table.blank lt ∙ struct_back i lt)

  used_back : used_of W ≡ record { nodes = count s; args = length s.args; vars = taken s; constraints = length s.constraints; structs = length s.structs }
  unfolding used_of encode_words count_words
  used_back = refl

  pub decoded : decode (encode_words s) (encode_params s) ≡ s
  unfolding decode seen view with_structs
  decoded =
      ap (λ (u : Used). seen W u (structs_of W P u.structs)) used_back
      ∙ (λ i. record { nodes = nodes_back i; args = args_back i; vars = vars_back i; constraints = list_back i; structs = structs_back i })

-- the encoding of a sound state passes the test
pub encode_lent : (s : State) → sound s ≡ true → LentSound (encode_words s) (encode_params s)
encode_lent s ok = record { words = ap (λ (x : State). encode_words x) (sym (decoded s ok)); bytes = ap (λ (x : State). encode_params x) (sym (decoded s ok)); is_sound = ap (λ (x : State). sound x) (decoded s ok) ∙ ok }
