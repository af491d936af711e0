-- The layout that every function asks for follows from the test. Assumes nothing.
-- By the tests' facts on the decoded state, field by field of `Lay`.
use mathlib.Core.Path.{◌≡◌, sym, ap, ◌∙◌}
use mathlib.Core.Bool.{Bool, true, false, ◌&&◌}
use mathlib.Core.List.{List, [], ◌∷◌}
use Prim.Native.Nat.{ℕ, ◌+◌, ◌≤◌, ◌<◌}
use native.Mathlib.Omega.{arith}
use native.Mathlib.Decide.{dec_lt}
use lib.Dec.{eqb, leb, ltb}
use lib.ListN.{length, get_or, take, drop, length-take, length-drop}
use lib.Seq.{get_or-take, get_or-drop}
use borrow.Author.Tests.{ltb-true, leb-true, eqb-true}
use Rattle.std.specs.Prelude.{if◌then◌else◌}
use Rattle.definition.specs.Types.{State, Struct, Shape, TypeName, Multiple, Builtin, ModuleType, UnitType, Ref, Param, Apply, Var, Anything, UnresolvedError, Places}
use Rattle.definition.specs.Store.{node, nowhere, get, with_args, args_at, with_structs, all_of}
use Rattle.definition.specs.Subst.{parts}
use Rattle.definition.specs.Instantiate.{builtin_tparams, struct_tparams}
use Rattle.definition.specs.Trees.{arity, mark_fits, is_set, is_mark, is_name}
use Rattle.definition.specs.Sound as sd
use Rattle.definition.specs.Sound.{sound, smaller_than, places_fit, shape_allowed, node_allowed, struct_allowed}
use Rattle.theorems.proofs.SoundFacts.{of_each, at_place, smaller, shape, fields}
use Rattle.theorems.proofs.Soundness.{sound_is}
use Rattle.table.specs.Rows.{row, entries, Clean, struct_words, struct_table}
use Rattle.table.specs.State.{view, seen, Below, Inside, Lay, Declares}
use Rattle.table.specs.declared.Used.{Used}
use Rattle.table.proofs.Tab.{length_tab, getD_tab, getD_tab_out}
use Rattle.table.proofs.Rows.{entry_at, entry_out}
use Rattle.sound.specs.Lent.{used_of, struct_of, structs_of, decode, LentSound}
use Rattle.sound_fields.proofs.Below.{and_l, and_r}
use Rattle.sound.proofs.Tested.{bytes_long, lent_holds, lent_sized}

list_of : (t : ℕ) (l : List ℕ) → smaller_than t l ≡ true → all_of (λ q. ltb q t) l ≡ true
unfolding smaller_than
list_of t l e = e

module _ (s : State) (ok : sound s ≡ true) where
  few_params : (n : ℕ) → n < length s.structs → length (struct_tparams s n) ≤ 8
  unfolding struct_tparams struct_allowed sd.fields_allowed
  few_params n lt =
      let D = all_of (λ d. struct_allowed d) s.structs in
      let e = of_each (λ d. struct_allowed d) (record { abilities = 0; params = [] }) s.structs (and_r (all_of (λ n. node_allowed s n) s.nodes && all_of (λ c. sd.cell_allowed s c) s.vars && all_of (λ c. sd.constraint_allowed s c) s.constraints) D (fields s ok)) n lt in
      let x = get_or s.structs n (record { abilities = 0; params = [] }) in
      leb-true (length x.params) 8 (and_r (is_set x.abilities) (leb (length x.params) 8) (and_l (is_set x.abilities && leb (length x.params) 8) (all_of (λ p. leb p 31) x.params) e))

  few_args : (n : TypeName) → is_name s n ≡ true → arity s n ≤ 8
  unfolding is_name arity builtin_tparams
  few_args (Multiple n) e = leb-true n 8 e
  few_args (Builtin b) e = one (eqb b 5)
    where
      one : (x : Bool) → length {A = ℕ} (if x then 0 ∷ [] else []) ≤ 8
      one true = omega arith
      one false = omega arith
  few_args (ModuleType n) e = few_params n (ltb-true n (length s.structs) e)

  args_below : (t : ℕ) (p : Places) → p.first + p.many ≤ length s.args → smaller_than t (args_at s p) ≡ true → (i : ℕ) → i < p.many → get_or s.args (p.first + i) 0 < t
  unfolding smaller_than args_at
  args_below t p fits e i h =
      let l = take p.many (drop p.first s.args) in
      let long : length l ≡ p.many = length-take p.many (drop p.first s.args) ∙ omega (arith, length-drop p.first s.args) in
      ltb-true _ t (ap (λ (x : ℕ). ltb x t) (sym (get_or-take p.many (drop p.first s.args) i 0 h ∙ get_or-drop p.first s.args i 0)) ∙ of_each (λ q. ltb q t) 0 l e i (rw long h))

  below : (t : ℕ) (x : Shape Places) → shape_allowed s x ≡ true → smaller_than t (parts (with_args s x)) ≡ true → Below s.args t x
  unfolding shape_allowed places_fit with_args parts
  below t UnitType a e = tt
  below t (Ref m b) a e = ltb-true b t (of_each (λ q. ltb q t) 0 (b ∷ []) (list_of t (b ∷ []) e) 0 (omega arith))
  below t (Param id b) a e = tt
  below t (Apply k n p) a e =
      let P = eqb p.many (arity s n) && leb (p.first + p.many) (length s.args) in
      let pl = and_r (is_mark k && is_name s n && mark_fits k n) P a in
      let nm = and_r (is_mark k) (is_name s n) (and_l (is_mark k && is_name s n) (mark_fits k n) (and_l (is_mark k && is_name s n && mark_fits k n) P a)) in
      let fits = leb-true (p.first + p.many) (length s.args) (and_r (eqb p.many (arity s n)) (leb (p.first + p.many) (length s.args)) pl) in
      let many = eqb-true p.many (arity s n) (and_l (eqb p.many (arity s n)) (leb (p.first + p.many) (length s.args)) pl) in
      (omega (arith, many, few_args n nm), (fits, args_below t p fits e))
  below t (Var v) a e = tt
  below t Anything a e = tt
  below t UnresolvedError a e = tt

  pub sound_inside : Inside s
  unfolding sd.parts_smaller node
  sound_inside =
      record {
        parts = λ t h. below t (node s t).value (shape s ok t h) (at_place (λ t n. smaller_than t (parts (with_args s n.value))) nowhere s.nodes (smaller s ok) t h);
        bindings = ((sound_is s).0 ok).binding_fields;
      }

module _ (w : List ℕ) (p : List (List ℕ)) (h : LentSound w p) where
  -- a declaration's row, with its bytes and without
  same_row : (i : ℕ) → struct_words (get_or (structs_of w p (used_of w).structs) i struct_table.blank) ≡ struct_words (get_or (entries struct_table w (used_of w).structs) i struct_table.blank)
  unfolding structs_of struct_of entries struct_words
  same_row i = by (dec_lt i (used_of w).structs)
    where
      by : Dec (i < (used_of w).structs) → struct_words (get_or (structs_of w p (used_of w).structs) i struct_table.blank) ≡ struct_words (get_or (entries struct_table w (used_of w).structs) i struct_table.blank)
      by (yes lt) =
          let a = getD_tab (used_of w).structs (λ i. struct_of w p i) i struct_table.blank lt in
          let b = entry_at struct_table w (used_of w).structs i struct_table.blank lt in
          let c = bytes_long w p (used_of w) i (length (struct_table.read (row struct_table w i)).params) in
          ap (λ (x : Struct). struct_words x) a ∙ ap (λ (m : ℕ). (struct_table.read (row struct_table w i)).abilities ∷ m ∷ []) c ∙ ap (λ (x : Struct). struct_words x) (sym b)
      by (no ge) = ap (λ (x : Struct). struct_words x) (getD_tab_out (used_of w).structs (λ i. struct_of w p i) i struct_table.blank (omega arith) ∙ sym (entry_out struct_table w (used_of w).structs i struct_table.blank (omega arith)))

  inside_view : Inside (view w (used_of w))
  unfolding decode seen with_structs node get
  inside_view = let i = sound_inside (decode w p) h.is_sound in record { parts = i.parts; bindings = i.bindings }

  pub lent_lay : Lay w (used_of w)
  unfolding decode seen view with_structs Clean
  lent_lay =
      let z = lent_sized w p h in
      let r = lent_holds w p h in
      record {
        size = z.size;
        nodes = z.nodes;
        args = z.args;
        vars = z.vars;
        constraints = z.constraints;
        structs = z.structs;
        clean_nodes = r.nodes;
        clean_args = r.args;
        clean_vars = r.vars;
        clean_constraints = r.constraints;
        clean_structs = λ i a. r.structs i a ∙ same_row i;
        inside = inside_view;
      }

-- the declarations have the abilities and parameter counts of their rows
pub lent_declares : (w : List ℕ) (p : List (List ℕ)) (u : Used) → Declares w u (structs_of w p u.structs)
unfolding structs_of struct_of view
lent_declares w p u =
    record {
      many = length_tab u.structs _;
      abilities = λ i lt. ap (λ (x : Struct). x.abilities) (getD_tab u.structs (λ i. struct_of w p i) i struct_table.blank lt) ∙ ap (λ (x : Struct). x.abilities) (sym (entry_at struct_table w u.structs i struct_table.blank lt));
      params = λ i lt. ap (λ (x : Struct). length x.params) (getD_tab u.structs (λ i. struct_of w p i) i struct_table.blank lt) ∙ bytes_long w p u i _ ∙ ap (λ (x : Struct). length x.params) (sym (entry_at struct_table w u.structs i struct_table.blank lt));
    }
