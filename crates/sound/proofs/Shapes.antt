-- A node's row passes its test just where it is the row of a node that the state allows, with smaller parts. Assumes nothing.
-- By the tag: names first (`Named`), then named types, then the shapes without arguments; `Good` says what a row that passes is.
use mathlib.Core.Path.{◌≡◌, refl, sym, ap, ◌∙◌}
use mathlib.Core.Bool.{Bool, true, false, not, ◌&&◌, ◌||◌}
use mathlib.Core.List.{List, [], ◌∷◌}
use Rattle.std.specs.Prelude.{None, Some}
use Prim.Native.Nat.{ℕ, suc, ◌+◌, ◌*◌, ◌≤◌, ◌<◌, ◌%◌}
use native.Mathlib.Omega.{arith}
use lib.Dec.{eqb, leb, ltb}
use lib.ListN.{length, get_or, drop, length-take, length-drop}
use borrow.Author.Tests.{ltb-true, leb-true, eqb-true, lt-ltb, le-ltb, le-leb, lt-leb, eq-eqb, ne_eqb}
use Rattle.std.specs.Prelude.{if◌then◌else◌}
use Rattle.definition.specs.Types.{State, Struct, Shape, TypeName, Multiple, Builtin, ModuleType, Apply, UnresolvedError, Places}
use Rattle.definition.specs.Store.{taken, with_args, args_at, with_structs, all_of}
use Rattle.definition.specs.Subst.{parts, as_var, is_anything}
use Rattle.definition.specs.Join.{is_numeric}
use Rattle.definition.specs.Instantiate.{builtin_tparams, struct_tparams}
use Rattle.definition.specs.Trees.{has_drop, mark_fits, arity, is_set, is_mark, is_name}
use Rattle.definition.specs.Sound.{smaller_than, is_u32, places_fit, shape_allowed}
use Rattle.theorems.proofs.SoundFacts.{of_each}
use Rattle.table.specs.Rows.{flag, read_mark, mark_word, read_name, name_tag, name_word, read_shape, shape_words, places, entries, arg_table, struct_table}
use Rattle.table.specs.State.{view, seen}
use Rattle.table.specs.declared.Used.{Used}
use Rattle.table.proofs.Rows.{length_entries}
use Rattle.table.proofs.Fields.{arg_read}
use Rattle.sound_fields.specs.Fields.{all_below, four_zeros, ref_fine, param_fine, var_fine, mark_fine, name_fine, fits_fine}
use Rattle.sound_rows.specs.Rows.{args_fine, part_fine, apply_fine, shape_fine}
use Rattle.sound_fields.proofs.Below.{and_l, and_r, both, same_test, when_false, all_at, all_from, fails_l}
use Rattle.sound.proofs.Fields.{Tag, t0, t1, t2, t3, t4, t5, t6, t7, t8, beyond, zeros_are, are_zeros, flag_back, flag_was, mod_back, set_mod, set_was, mark_good, mark_was}

-- ---- a test of every element

pub each_of : {A : Type 0} (f : A → Bool) (d : A) (l : List A) → ((i : ℕ) → i < length l → f (get_or l i d) ≡ true) → all_of f l ≡ true
unfolding all_of
each_of f d [] h = refl
each_of f d (x ∷ l) h = pass (f x) (all_of f l) (h 0 (omega arith)) (each_of f d l (λ i j. h (suc i) (omega arith)))
  where
    pass : (b c : Bool) → b ≡ true → c ≡ true → (elim b [ true ↦ c | false ↦ false ]) ≡ true
    pass true c p q = q
    pass false c p q = p

-- ---- tags past the last

pub read_beyond : (tag a b c d : ℕ) → 8 < tag → read_shape tag a b c d ≡ UnresolvedError
unfolding read_shape
read_beyond tag a b c d h =
    when_false _ _ _ (ne_eqb tag 0 (λ e. omega arith))
    ∙ when_false _ _ _ (ne_eqb tag 1 (λ e. omega arith))
    ∙ when_false _ _ _ (ne_eqb tag 2 (λ e. omega arith))
    ∙ when_false _ _ _ (le-ltb tag 6 (omega arith))
    ∙ when_false _ _ _ (ne_eqb tag 6 (λ e. omega arith))
    ∙ when_false _ _ _ (ne_eqb tag 7 (λ e. omega arith))

module _ (w : List ℕ) (u : Used) (ds : List Struct) (loc : ℕ) where
  -- a named type's arguments, as words and as a list
  args_long : (c d : ℕ) → c + d ≤ u.args → length (args_at (seen w u ds) (places c d)) ≡ d
  unfolding args_at seen view with_structs places
  args_long c d h = length-take d (drop c (entries arg_table w u.args)) ∙ omega (arith, length-drop c (entries arg_table w u.args), length_entries arg_table w u.args)

  parts_smaller : (t c d : ℕ) → c + d ≤ u.args → all_below d (part_fine w t c) ≡ smaller_than t (args_at (seen w u ds) (places c d))
  unfolding part_fine smaller_than
  parts_smaller t c d h = same_test _ _
      (λ e. each_of (λ p. ltb p t) 0 (args_at (seen w u ds) (places c d)) (λ i p. let q : i < d = rw (args_long c d h) at p in rw (arg_read w u ds c d i q (omega arith)) (all_at d (part_fine w t c) e i q)))
      (λ e. all_from d (part_fine w t c) (λ i q. rw (arg_read w u ds c d i q (omega arith)) at (of_each (λ p. ltb p t) 0 (args_at (seen w u ds) (places c d)) e i (rw (args_long c d h) q))))

  -- ---- names

  record Named (tag a b : ℕ) (n : TypeName) : Type 0 where
    pub name : name_fine u tag b ≡ is_name (seen w u ds) n
    pub fits : fits_fine tag a b ≡ mark_fits (read_mark a) n
    pub many : name_fine u tag b ≡ true → args_fine w tag b ≡ arity (seen w u ds) n
    pub tag_back : name_tag n ≡ tag
    pub word_back : name_word n ≡ b

  numeric_fits : (x y : Bool) → (if x then y else true) ≡ not x || y
  numeric_fits true y = refl
  numeric_fits false y = refl

  vector_args : (x : Bool) → (if x then 1 else 0) ≡ length {A = ℕ} (if x then 0 ∷ [] else [])
  vector_args true = refl
  vector_args false = refl

  named_builtin : (a b : ℕ) → Named 3 a b (Builtin b)
  unfolding name_fine is_name fits_fine mark_fits args_fine arity builtin_tparams name_tag name_word
  named_builtin a b = record { name = refl; fits = numeric_fits (is_numeric (Builtin b)) (has_drop (read_mark a)); many = λ e. vector_args (eqb b 5); tag_back = refl; word_back = refl }

  named_multiple : (a b : ℕ) → Named 4 a b (Multiple b)
  unfolding name_fine is_name fits_fine mark_fits is_numeric args_fine arity name_tag name_word
  named_multiple a b = record { name = refl; fits = refl; many = λ e. refl; tag_back = refl; word_back = refl }

  -- the declarations have as many parameters as the struct rows say
  abbrev pub Counted : Type 0
  Counted = (length ds ≡ u.structs) × ((i : ℕ) → i < u.structs → length (get_or ds i struct_table.blank).params ≡ get_or w (23557 + i * 2 + 1) 0)

  named_struct : Counted → (a b : ℕ) → Named 5 a b (ModuleType b)
  unfolding name_fine is_name fits_fine mark_fits is_numeric args_fine arity struct_tparams name_tag name_word seen with_structs
  named_struct h a b = record { name = ap (λ (n : ℕ). ltb b n) (sym h.0); fits = refl; many = λ e. sym (h.1 b (ltb-true b u.structs e)); tag_back = refl; word_back = refl }

  -- ---- shapes

  pub record Good (t tag a b c d : ℕ) : Type 0 where
    pub back : shape_words loc (read_shape tag a b c d) ≡ tag ∷ loc ∷ a ∷ b ∷ c ∷ d ∷ []
    pub allowed : shape_allowed (seen w u ds) (read_shape tag a b c d) ≡ true
    pub smaller : smaller_than t (parts (with_args (seen w u ds) (read_shape tag a b c d))) ≡ true

  pub args_count : length (seen w u ds).args ≡ u.args
  unfolding seen view with_structs
  args_count = length_entries arg_table w u.args

  pub vars_count : taken (seen w u ds) ≡ u.vars
  unfolding seen view with_structs
  vars_count = length_entries Rattle.table.specs.Rows.var_table w u.vars

  module _ (t tag a b c d : ℕ) (n : TypeName) (h : Named tag a b n) (r : read_shape tag a b c d ≡ Apply (read_mark a) n (places c d)) where
    apply_good : apply_fine w u t tag a b c d ≡ true → Good t tag a b c d
    unfolding apply_fine shape_words shape_allowed places_fit with_args parts places
    apply_good e =
        let e5 = and_l (mark_fine a && name_fine u tag b && fits_fine tag a b && eqb d (args_fine w tag b) && leb (c + d) u.args) (all_below d (part_fine w t c)) e in
        let e4 = and_l (mark_fine a && name_fine u tag b && fits_fine tag a b && eqb d (args_fine w tag b)) (leb (c + d) u.args) e5 in
        let e3 = and_l (mark_fine a && name_fine u tag b && fits_fine tag a b) (eqb d (args_fine w tag b)) e4 in
        let e2 = and_l (mark_fine a && name_fine u tag b) (fits_fine tag a b) e3 in
        let m = mark_good a (and_l (mark_fine a) (name_fine u tag b) e2) in
        let nm = and_r (mark_fine a) (name_fine u tag b) e2 in
        let ft = and_r (mark_fine a && name_fine u tag b) (fits_fine tag a b) e3 in
        let mn = and_r (mark_fine a && name_fine u tag b && fits_fine tag a b) (eqb d (args_fine w tag b)) e4 in
        let le = and_r (mark_fine a && name_fine u tag b && fits_fine tag a b && eqb d (args_fine w tag b)) (leb (c + d) u.args) e5 in
        let pt = and_r (mark_fine a && name_fine u tag b && fits_fine tag a b && eqb d (args_fine w tag b) && leb (c + d) u.args) (all_below d (part_fine w t c)) e in
        record {
          back = ap (λ (x : Shape Places). shape_words loc x) r ∙ cc (h.tag_back, h.word_back, m.back);
          allowed = ap (λ (x : Shape Places). shape_allowed (seen w u ds) x) r ∙ both _ _ (both _ _ (both _ _ m.allowed (sym h.name ∙ nm)) (sym h.fits ∙ ft)) (both _ _ (ap (λ (x : ℕ). eqb d x) (sym (h.many nm)) ∙ mn) (ap (λ (x : ℕ). leb (c + d) x) args_count ∙ le));
          smaller = ap (λ (x : Shape Places). smaller_than t (parts (with_args (seen w u ds) x))) r ∙ sym (parts_smaller t c d (leb-true (c + d) u.args le)) ∙ pt;
        }

    apply_was : Good t tag a b c d → apply_fine w u t tag a b c d ≡ true
    unfolding apply_fine shape_words shape_allowed places_fit with_args parts places
    apply_was g =
        let S = seen w u ds in
        let bk : name_tag n ∷ loc ∷ mark_word (read_mark a) ∷ name_word n ∷ c ∷ d ∷ [] ≡ tag ∷ loc ∷ a ∷ b ∷ c ∷ d ∷ [] = ap (λ (x : Shape Places). shape_words loc x) (sym r) ∙ g.back in
        let mk : mark_word (read_mark a) ≡ a = cc in
        let al = ap (λ (x : Shape Places). shape_allowed (seen w u ds) x) (sym r) ∙ g.allowed in
        let a3 = and_l (is_mark (read_mark a) && is_name S n && mark_fits (read_mark a) n) (eqb d (arity S n) && leb (c + d) (length S.args)) al in
        let a2 = and_l (is_mark (read_mark a) && is_name S n) (mark_fits (read_mark a) n) a3 in
        let nm = h.name ∙ and_r (is_mark (read_mark a)) (is_name S n) a2 in
        let pl = and_r (is_mark (read_mark a) && is_name S n && mark_fits (read_mark a) n) (eqb d (arity S n) && leb (c + d) (length S.args)) al in
        let le = ap (λ (x : ℕ). leb (c + d) x) (sym args_count) ∙ and_r (eqb d (arity S n)) (leb (c + d) (length S.args)) pl in
        both _ _ (both _ _ (both _ _ (both _ _ (both _ _
        (mark_was a mk (and_l (is_mark (read_mark a)) (is_name S n) a2)) nm)
        (h.fits ∙ and_r (is_mark (read_mark a) && is_name S n) (mark_fits (read_mark a) n) a3))
        (ap (λ (x : ℕ). eqb d x) (h.many nm) ∙ and_l (eqb d (arity S n)) (leb (c + d) (length S.args)) pl))
        le)
        (parts_smaller t c d (leb-true (c + d) u.args le) ∙ ap (λ (x : Shape Places). smaller_than t (parts (with_args (seen w u ds) x))) (sym r) ∙ g.smaller)

  -- a shape without fields, and an ending reference or parameter
  smaller_one : (b t : ℕ) → smaller_than t (b ∷ []) ≡ ltb b t
  unfolding smaller_than all_of
  smaller_one b t = one (ltb b t)
    where
      one : (x : Bool) → (elim x [ true ↦ true | false ↦ false ]) ≡ x
      one true = refl
      one false = refl

  plain_good : (t tag a b c d : ℕ) → four_zeros a b c d ≡ true
      → shape_words loc (read_shape tag a b c d) ≡ tag ∷ loc ∷ 0 ∷ 0 ∷ 0 ∷ 0 ∷ [] → shape_allowed (seen w u ds) (read_shape tag a b c d) ≡ true
      → smaller_than t (parts (with_args (seen w u ds) (read_shape tag a b c d))) ≡ true → Good t tag a b c d
  plain_good t tag a b c d e back allowed smaller = let z = zeros_are a b c d e in record { back = back ∙ cc (z.a0, z.b0, z.c0, z.d0); allowed = allowed; smaller = smaller }

  plain_was : (t tag a b c d : ℕ) → shape_words loc (read_shape tag a b c d) ≡ tag ∷ loc ∷ 0 ∷ 0 ∷ 0 ∷ 0 ∷ [] → Good t tag a b c d → four_zeros a b c d ≡ true
  plain_was t tag a b c d e g =
      let z : tag ∷ loc ∷ 0 ∷ 0 ∷ 0 ∷ 0 ∷ [] ≡ tag ∷ loc ∷ a ∷ b ∷ c ∷ d ∷ [] = sym e ∙ g.back in
      are_zeros a b c d (cc) (cc) (cc) (cc)

  no_beyond : (t tag a b c d : ℕ) → 8 < tag → shape_fine w u t tag a b c d ≡ false
  unfolding shape_fine
  no_beyond t tag a b c d h =
      when_false _ _ _ (ne_eqb tag 0 (λ e. omega arith))
      ∙ when_false _ _ _ (ne_eqb tag 1 (λ e. omega arith))
      ∙ when_false _ _ _ (ne_eqb tag 2 (λ e. omega arith))
      ∙ when_false _ _ _ (le-ltb tag 6 (omega arith))
      ∙ when_false _ _ _ (ne_eqb tag 6 (λ e. omega arith))
      ∙ fails_l _ _ (lt-leb tag 8 h)

  unresolved_tag : (tag a b c d : ℕ) → shape_words loc UnresolvedError ≡ tag ∷ loc ∷ a ∷ b ∷ c ∷ d ∷ [] → tag ≡ 8
  unfolding shape_words
  unresolved_tag tag a b c d e = cc

  module _ (few : u.vars ≤ 1024) (counted : Counted) (t : ℕ) where
    pub good : (tag a b c d : ℕ) → Tag tag → is_u32 a ≡ true → shape_fine w u t tag a b c d ≡ true → Good t tag a b c d
    unfolding shape_fine read_shape shape_words shape_allowed with_args parts smaller_than all_of ref_fine param_fine var_fine read_name
    good _ a b c d t0 k e = plain_good t 0 a b c d e refl refl refl
    good _ a b c d t1 k e =
        let e3 = and_l (leb a 1 && ltb b t && eqb c 0) (eqb d 0) e in
        let e2 = and_l (leb a 1 && ltb b t) (eqb c 0) e3 in
        let f = flag_back a (leb-true a 1 (and_l (leb a 1) (ltb b t) e2)) in
        let c0 = eqb-true c 0 (and_r (leb a 1 && ltb b t) (eqb c 0) e3) in
        let d0 = eqb-true d 0 (and_r (leb a 1 && ltb b t && eqb c 0) (eqb d 0) e) in
        record { back = cc (f, c0, d0); allowed = refl; smaller = smaller_one b t ∙ and_r (leb a 1) (ltb b t) e2 }
    good _ a b c d t2 k e =
        let e2 = and_l (leb b 15 && eqb c 0) (eqb d 0) e in
        let b15 = leb-true b 15 (and_l (leb b 15) (eqb c 0) e2) in
        let f = mod_back b 256 (omega arith) in
        let c0 = eqb-true c 0 (and_r (leb b 15) (eqb c 0) e2) in
        let d0 = eqb-true d 0 (and_r (leb b 15 && eqb c 0) (eqb d 0) e) in
        record { back = cc (f, c0, d0); allowed = both _ _ k (set_mod b b15); smaller = refl }
    good _ a b c d t3 k e = apply_good t 3 a b c d (Builtin b) (named_builtin a b) refl e
    good _ a b c d t4 k e = apply_good t 4 a b c d (Multiple b) (named_multiple a b) refl e
    good _ a b c d t5 k e = apply_good t 5 a b c d (ModuleType b) (named_struct counted a b) refl e
    good _ a b c d t6 k e =
        let e3 = and_l (ltb a u.vars && eqb b 0 && eqb c 0) (eqb d 0) e in
        let e2 = and_l (ltb a u.vars && eqb b 0) (eqb c 0) e3 in
        let lt = ltb-true a u.vars (and_l (ltb a u.vars) (eqb b 0) e2) in
        let f = mod_back a 65536 (omega arith) in
        let b0 = eqb-true b 0 (and_r (ltb a u.vars) (eqb b 0) e2) in
        let c0 = eqb-true c 0 (and_r (ltb a u.vars && eqb b 0) (eqb c 0) e3) in
        let d0 = eqb-true d 0 (and_r (ltb a u.vars && eqb b 0 && eqb c 0) (eqb d 0) e) in
        record { back = cc (f, b0, c0, d0); allowed = lt-ltb (a % 65536) (taken (seen w u ds)) (omega (arith, f, vars_count)); smaller = refl }
    good _ a b c d t7 k e = plain_good t 7 a b c d e refl refl refl
    good _ a b c d t8 k e = plain_good t 8 a b c d e refl refl refl
    good tag a b c d (beyond _ h) k e = absurd (let z : true ≡ false = sym e ∙ no_beyond t tag a b c d h in let y : ◌≡◌ {A = ℕ} 0 1 = cc in omega arith)

    pub fine : (tag a b c d : ℕ) → Tag tag → Good t tag a b c d → shape_fine w u t tag a b c d ≡ true
    unfolding shape_fine read_shape shape_words shape_allowed with_args parts smaller_than all_of ref_fine param_fine var_fine read_name
    fine _ a b c d t0 g = plain_was t 0 a b c d refl g
    fine _ a b c d t1 g =
        let z : 1 ∷ loc ∷ flag (eqb a 1) ∷ b ∷ 0 ∷ 0 ∷ [] ≡ 1 ∷ loc ∷ a ∷ b ∷ c ∷ d ∷ [] = g.back in
        let f : flag (eqb a 1) ≡ a = cc in
        let c0 : c ≡ 0 = cc in
        let d0 : d ≡ 0 = cc in
        both _ _ (both _ _ (both _ _ (le-leb a 1 (flag_was a f)) (sym (smaller_one b t) ∙ g.smaller)) (eq-eqb c 0 c0)) (eq-eqb d 0 d0)
    fine _ a b c d t2 g =
        let z : 2 ∷ loc ∷ a ∷ b % 256 ∷ 0 ∷ 0 ∷ [] ≡ 2 ∷ loc ∷ a ∷ b ∷ c ∷ d ∷ [] = g.back in
        let f : b % 256 ≡ b = cc in
        let c0 : c ≡ 0 = cc in
        let d0 : d ≡ 0 = cc in
        both _ _ (both _ _ (le-leb b 15 (set_was b f (and_r (is_u32 a) (is_set (b % 256)) g.allowed))) (eq-eqb c 0 c0)) (eq-eqb d 0 d0)
    fine _ a b c d t3 g = apply_was t 3 a b c d (Builtin b) (named_builtin a b) refl g
    fine _ a b c d t4 g = apply_was t 4 a b c d (Multiple b) (named_multiple a b) refl g
    fine _ a b c d t5 g = apply_was t 5 a b c d (ModuleType b) (named_struct counted a b) refl g
    fine _ a b c d t6 g =
        let z : 6 ∷ loc ∷ a % 65536 ∷ 0 ∷ 0 ∷ 0 ∷ [] ≡ 6 ∷ loc ∷ a ∷ b ∷ c ∷ d ∷ [] = g.back in
        let f : a % 65536 ≡ a = cc in
        let b0 : b ≡ 0 = cc in
        let c0 : c ≡ 0 = cc in
        let d0 : d ≡ 0 = cc in
        both _ _ (both _ _ (both _ _ (lt-ltb a u.vars (omega (arith, f, vars_count, ltb-true (a % 65536) (taken (seen w u ds)) g.allowed))) (eq-eqb b 0 b0)) (eq-eqb c 0 c0)) (eq-eqb d 0 d0)
    fine _ a b c d t7 g = plain_was t 7 a b c d refl g
    fine _ a b c d t8 g = plain_was t 8 a b c d refl g
    fine tag a b c d (beyond _ h) g = absurd (let z = unresolved_tag tag a b c d (ap (λ (x : Shape Places). shape_words loc x) (sym (read_beyond tag a b c d h)) ∙ g.back) in omega arith)

-- ---- what a row's tag tells

pub as_var_tag : (s : State) (tag a b c d : ℕ) → Tag tag → as_var (with_args s (read_shape tag a b c d)) ≡ (if eqb tag 6 then Some (a % 65536) else None)
unfolding read_shape with_args as_var
as_var_tag s _ a b c d t0 = refl
as_var_tag s _ a b c d t1 = refl
as_var_tag s _ a b c d t2 = refl
as_var_tag s _ a b c d t3 = refl
as_var_tag s _ a b c d t4 = refl
as_var_tag s _ a b c d t5 = refl
as_var_tag s _ a b c d t6 = refl
as_var_tag s _ a b c d t7 = refl
as_var_tag s _ a b c d t8 = refl
as_var_tag s tag a b c d (beyond _ h) = ap (λ (x : Shape Places). as_var (with_args s x)) (read_beyond tag a b c d h) ∙ sym (when_false _ _ _ (ne_eqb tag 6 (λ e. omega arith)))

pub anything_tag : (s : State) (tag a b c d : ℕ) → Tag tag → is_anything (with_args s (read_shape tag a b c d)) ≡ eqb tag 7
unfolding read_shape with_args is_anything
anything_tag s _ a b c d t0 = refl
anything_tag s _ a b c d t1 = refl
anything_tag s _ a b c d t2 = refl
anything_tag s _ a b c d t3 = refl
anything_tag s _ a b c d t4 = refl
anything_tag s _ a b c d t5 = refl
anything_tag s _ a b c d t6 = refl
anything_tag s _ a b c d t7 = refl
anything_tag s _ a b c d t8 = refl
anything_tag s tag a b c d (beyond _ h) = ap (λ (x : Shape Places). is_anything (with_args s x)) (read_beyond tag a b c d h) ∙ sym (ne_eqb tag 7 (λ e. omega arith))
