-- R-5: a tree with fields in range that fits a record is read back from its spelling. Assumes nothing.
use mathlib.Core.Path.{◌≡◌, refl, sym, ap, ◌∙◌}
use mathlib.Core.Bool.{true, false, ◌&&◌}
use mathlib.Core.List.{[], ◌∷◌, ◌++◌, append_assoc, append-nil}
use Rattle.std.specs.Prelude.{Some}
use Prim.Native.Nat.{ℕ, zero, suc, ◌≤◌, ◌<◌}
use native.Mathlib.Omega.{arith}
use lib.ListN.{length, get_or, take, drop, take-append-drop, drop_of_length-le}
use lib.Dec.{eqb, ltb→lt}
use Rattle.definition.specs.Types.{State, TypeName, Multiple, Builtin, ModuleType, AbilityMark, malformed, unknown_name, max_structs}
use Rattle.definition.specs.Write.{Bytes, u16, u32, apply_head, head}
use Rattle.definition.specs.Reader.{Read, got, go_on, ◌>>=◌, read_one, read_two, byte, read_u16, read_u32, byte_if, read_bool}
use Rattle.definition.specs.Trees.{Tree, unit_tree, anything_tree, error_tree, ref_tree, param_tree, apply_tree, var_tree, Trees, is_set, is_mark, is_name, mark_fits, read_trees, arity, under_ref, by_tag, read_nested, read_type}
use Rattle.definition.specs.Record.{XP, by_mark, fields_of, read_fields, max_record, read_record}
use Rattle.definition.specs.Sound.{is_u32}
use Rattle.definition.specs.Final.{spelled, spelled_all, Whole, whole_unit, whole_any, whole_error, whole_param, whole_ref, whole_name, AllWhole, whole_none, whole_each, NoReference, Nested, n_unit, n_any, n_error, n_param, n_ref, n_name, AllNested, n_none, n_each}
use Rattle.theorems.proofs.SoundFacts.{and_l, and_r, test}
use Rattle.theorems.proofs.SoundRanges.{Named}
use Rattle.theorems.proofs.SoundRead.{size, Fine, fine_ref, fine_apply, Fines, fine_then, TreeIn, TreesIn}
use Rattle.theorems.proofs.ReadBack.{then_ok, give_ok, byte_ok, byte_if_ok, u16_ok, u32_ok, bool_ok, of_u32, under_ok, apply_ok, tag_ok, made, made_is, type_back}

-- ---- types

-- the first byte of what is no reference
no_ref : (T : Tree) (rest : Bytes) → NoReference T → eqb (get_or (spelled T ++ rest) 0 0) 1 ≡ false
unfolding spelled head apply_head
no_ref (unit_tree l) rest h = refl
no_ref (anything_tree l) rest h = refl
no_ref (error_tree l) rest h = refl
no_ref (ref_tree l m t) rest h = absurd h
no_ref (param_tree l id a) rest h = refl
no_ref (apply_tree l k (Builtin b) ts) rest h = refl
no_ref (apply_tree l k (Multiple b) ts) rest h = refl
no_ref (apply_tree l k (ModuleType b) ts) rest h = refl
no_ref (var_tree l v) rest h = refl

module _ (s : State) where
  reads_XP : (bytes : Bytes) → read_record s (88 ∷ 80 ∷ bytes) ≡ made s XP (drop 4094 bytes) (read_type s (take 4094 bytes))
  unfolding read_record max_record read_fields by_mark fields_of byte ◌>>=◌ go_on
  reads_XP bytes = made_is s XP (drop 4094 bytes) (take 4094 bytes)

  struct_low : (k : AbilityMark) (n : ℕ) → Named s k (ModuleType n) → length s.structs ≤ max_structs → n < 65536
  unfolding is_name max_structs
  struct_low k n h few = let known : is_name s (ModuleType n) ≡ true = and_r (is_mark k) (is_name s (ModuleType n)) (and_l (is_mark k && is_name s (ModuleType n)) (mark_fits k (ModuleType n)) h) in omega (arith, few, ltb→lt n (length s.structs) (test known))

  module _ (few : length s.structs ≤ max_structs) {ar : TypeName → ℕ} {vars : ℕ} (same : (n : TypeName) → ar n ≡ arity s n) where
    mutual
      unfolding spelled spelled_all head apply_head u16 u32 by_tag read_trees read_two read_one TreeIn

      pub read_back : {T : Tree} → Whole T → Fine ar vars T → TreeIn s T → (n : ℕ) → Nested n T → (rest : Bytes) → read_nested n s (spelled T ++ rest) ≡ got T rest
      read_back w f i zero d rest = elim d [ ]
      read_back (whole_unit {l = l}) f i (suc n) n_unit rest = tag_ok s n 0 l rest refl (of_u32 l i) ∙ give_ok _ rest
      read_back (whole_any {l = l}) f i (suc n) n_any rest = tag_ok s n 7 l rest refl (of_u32 l i) ∙ give_ok _ rest
      read_back (whole_error {l = l}) f i (suc n) n_error rest = tag_ok s n 8 l rest refl (of_u32 l i) ∙ give_ok _ rest
      read_back (whole_param {l = l} {id = id} {a = a}) f i (suc n) n_param rest =
          tag_ok s n 2 l _ refl (of_u32 l i.0) ∙ then_ok read_u32 _ (u32_ok id _ (of_u32 id (and_l (is_u32 id) (is_set a) i.1))) ∙ then_ok (byte_if is_set) _ (byte_if_ok is_set a rest (and_r (is_u32 id) (is_set a) i.1)) ∙ give_ok _ rest
      read_back (whole_ref {l = l} {m = m} {T = T} w) (fine_ref f) i (suc n) (n_ref r d) rest =
          tag_ok s n 1 l _ refl (of_u32 l i.0) ∙ then_ok read_bool _ (bool_ok m (spelled T ++ rest)) ∙ then_ok (under_ref n (read_nested n s)) _ (under_ok n (read_nested n s) (spelled T ++ rest) (no_ref T rest r) ∙ read_back w f i.1 n d rest) ∙ give_ok _ rest
      read_back (whole_name {l = l} {set = set} {n = Builtin b} {Ts = Ts} w) (fine_apply f e) i (suc n) (n_name d) rest =
          tag_ok s n 3 l _ refl (of_u32 l i.0) ∙ apply_ok s l (read_nested n s) byte Builtin malformed (Some set) b i.1 (byte_ok b (spelled_all Ts ++ rest)) (ap (λ (j : ℕ). read_trees j (read_nested n s) (spelled_all Ts ++ rest)) (sym (e ∙ same (Builtin b))) ∙ all_back w f i.2 n d rest)
      read_back (whole_name {l = l} {set = set} {n = Multiple b} {Ts = Ts} w) (fine_apply f e) i (suc n) (n_name d) rest =
          tag_ok s n 4 l _ refl (of_u32 l i.0) ∙ apply_ok s l (read_nested n s) byte Multiple malformed (Some set) b i.1 (byte_ok b (spelled_all Ts ++ rest)) (ap (λ (j : ℕ). read_trees j (read_nested n s) (spelled_all Ts ++ rest)) (sym (e ∙ same (Multiple b))) ∙ all_back w f i.2 n d rest)
      read_back (whole_name {l = l} {set = set} {n = ModuleType b} {Ts = Ts} w) (fine_apply f e) i (suc n) (n_name d) rest =
          tag_ok s n 5 l _ refl (of_u32 l i.0) ∙ apply_ok s l (read_nested n s) read_u16 ModuleType unknown_name (Some set) b i.1 (u16_ok b (spelled_all Ts ++ rest) (struct_low (Some set) b i.1 few)) (ap (λ (j : ℕ). read_trees j (read_nested n s) (spelled_all Ts ++ rest)) (sym (e ∙ same (ModuleType b))) ∙ all_back w f i.2 n d rest)

      all_back : {Ts : Trees} → AllWhole Ts → Fines ar vars Ts → TreesIn s Ts → (n : ℕ) → AllNested n Ts → (rest : Bytes) → read_trees (size Ts) (read_nested n s) (spelled_all Ts ++ rest) ≡ got Ts rest
      all_back whole_none f i n n_none rest = give_ok _ rest
      all_back (whole_each {T = T} {Ts = Ts} w ws) (fine_then f fs) i n (n_each d ds) rest =
          ap (λ (l : Bytes). read_trees (suc (size Ts)) (read_nested n s) l) (append_assoc (spelled T) (spelled_all Ts) rest)
          ∙ then_ok (read_nested n s) _ (read_back w f i.0 n d (spelled_all Ts ++ rest))
          ∙ then_ok (read_trees (size Ts) (read_nested n s)) _ (all_back ws fs i.1 n ds rest) ∙ give_ok _ rest

    -- as a record
    pub record_back : {T : Tree} → Whole T → Fine ar vars T → TreeIn s T → Nested 64 T → length (spelled T) ≤ 4094 → read_record s (88 ∷ 80 ∷ spelled T) ≡ got (XP T) []
    record_back {T} w f i d few' = reads_XP (spelled T) ∙ ap (λ (x : Read Tree). made s XP (drop 4094 (spelled T)) x) typed ∙ ap (λ (l : Bytes). got (XP T) l) (drop_of_length-le (spelled T) few')
      where
        all_taken : take 4094 (spelled T) ≡ spelled T
        all_taken = sym (append-nil (take 4094 (spelled T))) ∙ ap (λ (l : Bytes). take 4094 (spelled T) ++ l) (sym (drop_of_length-le (spelled T) few')) ∙ take-append-drop 4094 (spelled T)

        typed : read_type s (take 4094 (spelled T)) ≡ got T []
        typed = ap (λ (l : Bytes). read_type s l) (all_taken ∙ sym (append-nil (spelled T))) ∙ type_back s (spelled T ++ []) (read_back w f i 64 d [])
