-- A record whose location fields are set to 0 is read as the record, with its locations set to 0: as far, with the same refusal. Assumes nothing.
-- `Alike` relates two readers, one of the bytes and one of the bytes with locations set to 0. It goes through the readers field by field, row for row by tag and by mark.
use mathlib.Core.Path.{◌≡◌, refl, sym, ap}
use mathlib.Core.Bool.{Bool, true, false, not, ◌&&◌}
use mathlib.Core.List.{List, [], ◌∷◌, ◌++◌, map, append_assoc}
use Rattle.std.specs.Prelude.{Option, None, Some}
use Prim.Native.Nat.{ℕ, zero, suc, ◌+◌, ◌*◌}
use lib.ListN.{length, get_or, take, drop, replicate, length-append, length-drop}
use lib.Dec.{eqb, ltb, leb}
use Rattle.std.specs.Prelude.{if◌then◌else◌}
use Rattle.definition.specs.Types.{TypeName, Multiple, Builtin, ModuleType, AbilityMark, State, Refusal, malformed, unknown_name, doubled_reference}
use Rattle.definition.specs.Store.{taken}
use Rattle.definition.specs.Join.{TypingCase}
use Rattle.definition.specs.Write.{Bytes}
use Rattle.definition.specs.Instantiate.{struct_tparams}
use Rattle.definition.specs.Reader.{Read, got, not_read, Reader, give, refuse, go_on, ◌>>=◌, byte, read_u16, read_u32, byte_if, byte_to, read_bool, name_below, times, read_one, read_two, read_three}
use Rattle.definition.specs.Trees.{Tree, unit_tree, anything_tree, error_tree, ref_tree, param_tree, apply_tree, var_tree, Trees, no_trees, ◌then◌, read_trees, mark_of, read_mark, mark_fits, arity, under_ref, read_apply, by_tag, is_name, read_nested, read_type, is_set}
use Rattle.definition.specs.Record.{NumericKind, Record, SD, FV, NV, SN, JN, SU, UF, RD, IN, TS, NC, BC, SC, SV, RM, CN, XP, read_kind, read_SD, read_pair, read_TS, by_mark, fields_of, read_fields, max_record, hand_back, read_record, NL, read_bits, MJ, read_case, is_many, read_case_pair, read_MJ, UL, JL, KP, read_KP}
use Rattle.definition.specs.Locations.{Part, plain, location, type, builtin, list, struct, struct_high, pairs, loc_field, u32_field, tag_fields, pair_fields, expand, blank, mark_fields, after_mark, told, blank_record, many, many_fields}
use Rattle.theorems.proofs.Erase.{erase, taken_erase, structs_erase}

-- ---- locations set to 0

unfoldable mutual
  pub erase_tree : Tree → Tree
  erase_tree (unit_tree loc) = unit_tree 0
  erase_tree (anything_tree loc) = anything_tree 0
  erase_tree (error_tree loc) = error_tree 0
  erase_tree (ref_tree loc mut t) = ref_tree 0 mut (erase_tree t)
  erase_tree (param_tree loc id abilities) = param_tree 0 id abilities
  erase_tree (apply_tree loc k n ts) = apply_tree 0 k n (erase_trees ts)
  erase_tree (var_tree loc v) = var_tree 0 v

  pub erase_trees : Trees → Trees
  erase_trees no_trees = no_trees
  erase_trees (◌then◌ t ts) = ◌then◌ (erase_tree t) (erase_trees ts)

abbrev pub erase_pair : ℕ × Tree → ℕ × Tree
erase_pair p = (p.0, erase_tree p.1)

abbrev pub erase_case_pair : TypingCase × Tree × Tree → TypingCase × Tree × Tree
erase_case_pair p = (p.0, erase_tree p.1, erase_tree p.2)

unfoldable pub erase_record : Record → Record
erase_record (SD abilities params) = SD abilities params
erase_record (FV loc) = FV 0
erase_record (NV loc) = NV 0
erase_record (SN v loc) = SN v 0
erase_record (NL loc bits) = NL 0 bits
erase_record (JN t1 t2) = JN (erase_tree t1) (erase_tree t2)
erase_record (SU t1 t2) = SU (erase_tree t1) (erase_tree t2)
erase_record (UF t) = UF (erase_tree t)
erase_record (RD t) = RD (erase_tree t)
erase_record (IN t) = IN (erase_tree t)
erase_record (TS ps t) = TS (map erase_pair ps) (erase_tree t)
erase_record (NC loc kind t) = NC 0 kind (erase_tree t)
erase_record (BC loc t) = BC 0 (erase_tree t)
erase_record (SC loc t) = SC 0 (erase_tree t)
erase_record SV = SV
erase_record (RM t) = RM (erase_tree t)
erase_record (CN t) = CN (erase_tree t)
erase_record (XP t) = XP (erase_tree t)
erase_record (MJ ps) = MJ (map erase_case_pair ps)
erase_record (KP listed) = KP listed
erase_record (UL t) = UL (erase_tree t)
erase_record (JL t1 t2) = JL (erase_tree t1) (erase_tree t2)

-- ---- blank

pub blank_nil : (s : State) (bytes : Bytes) → blank s bytes [] ≡ bytes
unfolding blank
blank_nil s [] = refl
blank_nil s (b ∷ bytes) = refl

pub length_blank : (s : State) (bytes : Bytes) (awaited : List Part) → length (blank s bytes awaited) ≡ length bytes
unfolding blank
length_blank s [] awaited = refl
length_blank s (b ∷ bytes) [] = refl
length_blank s (b ∷ bytes) (p ∷ awaited) = ap suc (length_blank s bytes _)

take_blank : (n : ℕ) (s : State) (bytes : Bytes) (awaited : List Part) → take n (blank s bytes awaited) ≡ blank s (take n bytes) awaited
unfolding blank
take_blank zero s bytes awaited = refl
take_blank (suc n) s [] awaited = refl
take_blank (suc n) s (b ∷ bytes) [] = refl
take_blank (suc n) s (b ∷ bytes) (p ∷ awaited) = ap (λ (l : Bytes). (expand s p b).0 ∷ l) (take_blank n s bytes _)

pub arity_erase : (s : State) (n : TypeName) → arity (erase s) n ≡ arity s n
unfolding arity struct_tparams
arity_erase s (Multiple n) = refl
arity_erase s (Builtin b) = refl
arity_erase s (ModuleType n) = rw (structs_erase s) refl

-- ---- two readers, one of the bytes and one of the bytes with locations set to 0

-- what they give: h sets a value's locations to 0. After the value, `after` is awaited
pub data Reads {A B : Type 0} (h : A → B) (S : State) (after : A → List Part) : Read A → Read B → Type 0 where
  r_got : {a : A} {b : B} {rest rest' : Bytes} → b ≡ h a → rest' ≡ blank S rest (after a) → Reads h S after (got a rest) (got b rest')
  r_not : {x : Refusal} → Reads h S after (not_read x) (not_read x)

pub record Alike {A B : Type 0} (h : A → B) (S : State) (before : List Part) (after : A → List Part) (m : Reader A) (m' : Reader B) : Type 0 where
  pub at : (bytes : Bytes) → Reads h S after (m bytes) (m' (blank S bytes before))

module _ {A B : Type 0} {h : A → B} {S : State} where
  al_give : {after : A → List Part} (a : A) {b : B} → b ≡ h a → Alike h S (after a) after (give a) (give b)
  unfolding give
  al_give a e = record { at = λ bytes. r_got e refl }

  al_refuse : {before : List Part} {after : A → List Part} (x : Refusal) → Alike h S before after (refuse x) (refuse x)
  unfolding refuse
  al_refuse x = record { at = λ bytes. r_not }

  al_if : {before : List Part} {after : A → List Part} (c : Bool) {x y : Reader A} {x' y' : Reader B} → Alike h S before after x x' → Alike h S before after y y'
      → Alike h S before after (if c then x else y) (if c then x' else y')
  al_if true p q = p
  al_if false p q = q

module _ {A A' B B' : Type 0} {h : A → A'} {g : B → B'} {S : State} {mid : A → List Part} {after : B → List Part} (f : A → Reader B) (f' : A' → Reader B') where
  on : {x : Read A} {x' : Read A'} → Reads h S mid x x' → ((a : A) → Alike g S (mid a) after (f a) (f' (h a))) → Reads g S after (go_on x f) (go_on x' f')
  unfolding go_on
  on (r_got {a = a} {rest = rest} e d) k = rw (e, d) ((k a).at rest)
  on r_not k = r_not

  al_bind : {before : List Part} {m : Reader A} {m' : Reader A'} → Alike h S before mid m m' → ((a : A) → Alike g S (mid a) after (f a) (f' (h a))) → Alike g S before after (m >>= f) (m' >>= f')
  unfolding ◌>>=◌
  al_bind p k = record { at = λ bytes. on (p.at bytes) k }

abbrev same : {A : Type 0} → A → A
same a = a

module _ {S : State} where
  al_same : {A : Type 0} (m : Reader A) → Alike same S [] (λ a. []) m m
  al_same {A} m = record { at = λ bytes. rw (blank_nil S bytes) (go (m bytes)) }
    where
      go : (x : Read A) → Reads same S (λ a. []) x x
      go (got a rest) = r_got refl (sym (blank_nil S rest))
      go (not_read x) = r_not

  -- ---- numbers

  al_byte : (p : Part) (more : List Part) → ((b : ℕ) → (expand S p b).0 ≡ b) → Alike same S (p ∷ more) (λ b. (expand S p b).1 ++ more) byte byte
  unfolding byte blank
  al_byte p more k = record { at = go }
    where
      go : (bytes : Bytes) → Reads same S (λ b. (expand S p b).1 ++ more) (byte bytes) (byte (blank S bytes (p ∷ more)))
      go [] = r_not
      go (b ∷ bytes) = r_got (k b) refl

  al_plain : (more : List Part) → Alike same S (plain ∷ more) (λ b. more) byte byte
  unfolding expand
  al_plain more = al_byte plain more (λ b. refl)

  al_zero : (more : List Part) → Alike (λ b. 0) S (location ∷ more) (λ b. more) byte byte
  unfolding byte blank expand
  al_zero more = record { at = go }
    where
      go : (bytes : Bytes) → Reads (λ b. 0) S (λ b. more) (byte bytes) (byte (blank S bytes (location ∷ more)))
      go [] = r_not
      go (b ∷ bytes) = r_got refl refl

  al_loc : (more : List Part) → Alike (λ l. 0) S (loc_field ++ more) (λ l. more) read_u32 read_u32
  unfolding read_u32 loc_field
  al_loc more = al_bind _ _ (al_zero _) (λ a. al_bind _ _ (al_zero _) (λ b. al_bind _ _ (al_zero _) (λ c. al_bind _ _ (al_zero more) (λ d. al_give _ refl))))

  al_u32 : (more : List Part) → Alike same S (u32_field ++ more) (λ l. more) read_u32 read_u32
  unfolding read_u32 u32_field
  al_u32 more = al_bind _ _ (al_plain _) (λ a. al_bind _ _ (al_plain _) (λ b. al_bind _ _ (al_plain _) (λ c. al_bind _ _ (al_plain more) (λ d. al_give _ refl))))

  al_byte_if : (allowed : ℕ → Bool) (p : Part) (more : List Part) → ((b : ℕ) → (expand S p b).0 ≡ b) → Alike same S (p ∷ more) (λ b. (expand S p b).1 ++ more) (byte_if allowed) (byte_if allowed)
  unfolding byte_if
  al_byte_if allowed p more k = al_bind _ _ (al_byte p more k) (λ b. al_if (allowed b) (al_give b refl) (al_refuse _))

  al_plain_if : (allowed : ℕ → Bool) (more : List Part) → Alike same S (plain ∷ more) (λ b. more) (byte_if allowed) (byte_if allowed)
  unfolding expand
  al_plain_if allowed more = al_byte_if allowed plain more (λ b. refl)

  al_bool : (more : List Part) → Alike same S (plain ∷ more) (λ b. more) read_bool read_bool
  unfolding read_bool read_one
  al_bool more = al_bind _ _ (al_plain_if _ more) (λ b. al_give _ refl)

  al_u16 : (more : List Part) → Alike same S (plain ∷ plain ∷ more) (λ n. more) read_u16 read_u16
  unfolding read_u16
  al_u16 more = al_bind _ _ (al_plain _) (λ a. al_bind _ _ (al_plain more) (λ b. al_give _ refl))

  al_struct : (more : List Part) → Alike same S (struct ∷ more) (λ n. replicate (arity S (ModuleType n)) type ++ more) read_u16 read_u16
  unfolding read_u16 expand
  al_struct more = al_bind _ _ (al_byte struct more (λ b. refl)) (λ a. al_bind _ _ (al_byte (struct_high a) more (λ b. refl)) (λ b. al_give (a + 256 * b) refl))

  al_name : {before : List Part} {after : ℕ → List Part} (known known' : ℕ) → known' ≡ known → Alike same S before after read_u16 read_u16 → Alike same S before after (name_below known) (name_below known')
  unfolding name_below
  al_name known known' e p = rw e (al_bind _ _ p (λ n. al_if (ltb n known) (al_give n refl) (al_refuse _)))

  al_mark : (more : List Part) → Alike same S (plain ∷ more) (λ k. more) read_mark read_mark
  unfolding read_mark
  al_mark more = al_bind _ _ (al_plain more) (λ b. go (mark_of b))
    where
      go : (o : Option AbilityMark) → Alike {A = AbilityMark} {B = AbilityMark} same S more (λ k. more) (elim o [ None ↦ refuse malformed | Some k ↦ give k ]) (elim o [ None ↦ refuse malformed | Some k ↦ give k ])
      go None = al_refuse _
      go (Some k) = al_give k refl

-- ---- types

module _ (s : State) where
  -- a reader of one type
  abbrev OneType : Reader Tree → Reader Tree → Type 0
  OneType m m' = (more : List Part) → Alike erase_tree s (type ∷ more) (λ t. more) m m'

  al_trees : (m m' : Reader Tree) → OneType m m' → (n : ℕ) (more : List Part) → Alike erase_trees s (replicate n type ++ more) (λ ts. more) (read_trees n m) (read_trees n m')
  unfolding read_trees erase_trees
  al_trees m m' p zero more = al_give no_trees refl
  al_trees m m' p (suc n) more = al_bind _ _ (p _) (λ t. al_bind _ _ (al_trees m m' p n more) (λ ts. al_give (◌then◌ t ts) refl))

  -- the fields of a type after its location
  abbrev Fields : List Part → Reader Tree → Reader Tree → Type 0
  Fields ps m m' = (more : List Part) → Alike erase_tree s (ps ++ more) (λ t. more) m m'

  name_erase : (n : TypeName) → is_name (erase s) n ≡ is_name s n
  unfolding is_name
  name_erase (Multiple n) = refl
  name_erase (Builtin b) = refl
  name_erase (ModuleType n) = rw (structs_erase s) refl

  module _ (m m' : Reader Tree) (p : OneType m m') (loc : ℕ) where
    al_apply : (before : List Part) (number : Reader ℕ) (name : ℕ → TypeName) (x : Refusal) → ((more : List Part) → Alike same s (before ++ more) (λ n. replicate (arity s (name n)) type ++ more) number number)
        → Fields (plain ∷ before) (read_apply s m loc number name x) (read_apply (erase s) m' 0 number name x)
    unfolding read_apply erase_tree
    al_apply before number name x a more = al_bind _ _ (al_mark _) (λ k. al_bind _ _ (a more) (λ n.
        rw (arity_erase s (name n), name_erase (name n)) (al_if (not (is_name s (name n))) (al_refuse _) (al_if (not (mark_fits k (name n))) (al_refuse _) (al_bind _ _ (al_trees m m' p (arity s (name n)) more) (λ ts. al_give (apply_tree loc k (name n) ts) refl))))))

    -- the byte that is looked at is a tag, which stays
    al_under : (left : ℕ) → OneType (under_ref left m) (under_ref left m')
    unfolding under_ref blank expand
    al_under left more = record { at = go }
      where
        either : (c : Bool) {x x' : Read Tree} → Reads erase_tree s (λ t. more) x x' → Reads erase_tree s (λ t. more) (if c then not_read doubled_reference else x) (if c then not_read doubled_reference else x')
        either true r = r_not
        either false r = r

        go : (bytes : Bytes) → Reads erase_tree s (λ t. more) (under_ref left m bytes) (under_ref left m' (blank s bytes (type ∷ more)))
        go [] = either (ltb 0 left && eqb 0 1) ((p more).at [])
        go (b ∷ bytes) = either (ltb 0 left && eqb b 1) ((p more).at (b ∷ bytes))

    al_ref : (left : ℕ) → Fields (plain ∷ type ∷ []) (read_two (ref_tree loc) read_bool (under_ref left m)) (read_two (ref_tree 0) read_bool (under_ref left m'))
    unfolding read_two erase_tree
    al_ref left more = al_bind _ _ (al_bool _) (λ mut. al_bind _ _ (al_under left more) (λ t. al_give (ref_tree loc mut t) refl))

    al_param : Fields (u32_field ++ (plain ∷ [])) (read_two (param_tree loc) read_u32 (byte_if is_set)) (read_two (param_tree 0) read_u32 (byte_if is_set))
    unfolding read_two erase_tree u32_field
    al_param more = al_bind _ _ (al_u32 _) (λ id. al_bind _ _ (al_plain_if _ more) (λ a. al_give (param_tree loc id a) refl))

    al_builtin : Fields (plain ∷ builtin ∷ []) (read_apply s m loc byte Builtin malformed) (read_apply (erase s) m' 0 byte Builtin malformed)
    unfolding expand
    al_builtin = al_apply (builtin ∷ []) byte _ _ (λ more. al_byte builtin more (λ b. refl))

    al_list : Fields (plain ∷ list ∷ []) (read_apply s m loc byte Multiple malformed) (read_apply (erase s) m' 0 byte Multiple malformed)
    unfolding expand arity
    al_list = al_apply (list ∷ []) byte _ _ (λ more. al_byte list more (λ b. refl))

    al_struct_type : Fields (plain ∷ struct ∷ []) (read_apply s m loc read_u16 ModuleType unknown_name) (read_apply (erase s) m' 0 read_u16 ModuleType unknown_name)
    al_struct_type = al_apply (struct ∷ []) read_u16 _ _ (λ more. al_struct more)

    al_var : Fields (plain ∷ plain ∷ []) (read_one (var_tree loc) (name_below (taken s))) (read_one (var_tree 0) (name_below (taken (erase s))))
    unfolding read_one erase_tree
    al_var more = al_bind _ _ (al_name _ _ (taken_erase s) (al_u16 more)) (λ v. al_give (var_tree loc v) refl)

  -- by tag, row for row
  data Rows : List (Reader Tree) → List (Reader Tree) → List (List Part) → Type 0 where
    no_rows : Rows [] [] []
    row : {m m' : Reader Tree} {ps : List Part} {ms ms' : List (Reader Tree)} {pss : List (List Part)} → Fields ps m m' → Rows ms ms' pss → Rows (m ∷ ms) (m' ∷ ms') (ps ∷ pss)

  row_at : {ms ms' : List (Reader Tree)} {pss : List (List Part)} → Rows ms ms' pss → (i : ℕ) → Fields (get_or pss i []) (get_or ms i (refuse malformed)) (get_or ms' i (refuse malformed))
  row_at no_rows i more = al_refuse _
  row_at (row f rows) zero more = f more
  row_at (row f rows) (suc i) more = row_at rows i more

  tag_rows : (m m' : Reader Tree) → OneType m m' → (loc left : ℕ) → Rows (by_tag s m loc left) (by_tag (erase s) m' 0 left) tag_fields
  unfolding by_tag tag_fields erase_tree
  tag_rows m m' p loc left =
      row (λ more. al_give (unit_tree loc) refl) (row (al_ref m m' p loc left) (row (al_param m m' p loc) (row (al_builtin m m' p loc) (row (al_list m m' p loc) (row (al_struct_type m m' p loc) (row (al_var m m' p loc)
      (row (λ more. al_give (anything_tree loc) refl) (row (λ more. al_give (error_tree loc) refl) no_rows))))))))

  nested : (n : ℕ) → OneType (read_nested n s) (read_nested n (erase s))
  unfolding read_nested expand loc_field
  nested zero more = al_refuse _
  nested (suc n) more = al_bind _ _ (al_byte_if _ type more (λ b. refl)) (λ tag. al_bind _ _ (al_loc (get_or tag_fields tag [] ++ more)) (λ loc. row_at (tag_rows (read_nested n s) (read_nested n (erase s)) (nested n) loc n) tag more))

  al_type : (more : List Part) → Alike erase_tree s (type ∷ more) (λ t. more) (read_type s) (read_type (erase s))
  unfolding read_type
  al_type more = nested 64 more

  -- ---- records

  abbrev WholeRecord : List Part → Reader Record → Reader Record → Type 0
  WholeRecord ps m m' = Alike erase_record s ps (λ r. []) m m'

  al_SN : WholeRecord (plain ∷ plain ∷ loc_field) (read_two SN (name_below (taken s)) read_u32) (read_two SN (name_below (taken (erase s))) read_u32)
  unfolding read_two erase_record loc_field
  al_SN = al_bind _ _ (al_name _ _ (taken_erase s) (al_u16 loc_field)) (λ v. al_bind _ _ (al_loc []) (λ loc. al_give (SN v loc) refl))

  al_bits : (more : List Part) → Alike same s (plain ∷ plain ∷ more) (λ n. more) read_bits read_bits
  unfolding read_bits
  al_bits more = al_bind _ _ (al_u16 more) (λ n. al_if (leb 1 n && leb n 256) (al_give n refl) (al_refuse _))

  al_NL : WholeRecord (loc_field ++ (plain ∷ plain ∷ [])) (read_two NL read_u32 read_bits) (read_two NL read_u32 read_bits)
  unfolding read_two erase_record
  al_NL = al_bind _ _ (al_loc _) (λ l. al_bind _ _ (al_bits []) (λ n. al_give (NL l n) refl))

  al_two : (mark : Tree → Tree → Record) → ((t u : Tree) → mark (erase_tree t) (erase_tree u) ≡ erase_record (mark t u)) → WholeRecord (type ∷ type ∷ []) (read_two mark (read_type s) (read_type s)) (read_two mark (read_type (erase s)) (read_type (erase s)))
  unfolding read_two
  al_two mark e = al_bind _ _ (al_type _) (λ t. al_bind _ _ (al_type []) (λ u. al_give (mark t u) (e t u)))

  al_one : (mark : Tree → Record) → ((t : Tree) → mark (erase_tree t) ≡ erase_record (mark t)) → WholeRecord (type ∷ []) (read_one mark (read_type s)) (read_one mark (read_type (erase s)))
  unfolding read_one
  al_one mark e = al_bind _ _ (al_type []) (λ t. al_give (mark t) (e t))

  al_loc_only : (mark : ℕ → Record) → ((l : ℕ) → mark 0 ≡ erase_record (mark l)) → WholeRecord loc_field (read_one mark read_u32) (read_one mark read_u32)
  unfolding read_one loc_field
  al_loc_only mark e = al_bind _ _ (al_loc []) (λ l. al_give (mark l) (e l))

  al_loc_type : (mark : ℕ → Tree → Record) → ((l : ℕ) (t : Tree) → mark 0 (erase_tree t) ≡ erase_record (mark l t)) → WholeRecord (loc_field ++ (type ∷ [])) (read_two mark read_u32 (read_type s)) (read_two mark read_u32 (read_type (erase s)))
  unfolding read_two
  al_loc_type mark e = al_bind _ _ (al_loc _) (λ l. al_bind _ _ (al_type []) (λ t. al_give (mark l t) (e l t)))

  al_kind : (more : List Part) → Alike {A = NumericKind} same s (plain ∷ more) (λ kind. more) read_kind read_kind
  unfolding read_kind read_one
  al_kind more = al_bind _ _ (al_plain_if _ more) (λ b. al_give _ refl)

  al_NC : WholeRecord (loc_field ++ (plain ∷ type ∷ [])) (read_three NC read_u32 read_kind (read_type s)) (read_three NC read_u32 read_kind (read_type (erase s)))
  unfolding read_three erase_record
  al_NC = al_bind _ _ (al_loc _) (λ l. al_bind _ _ (al_kind (type ∷ [])) (λ kind. al_bind _ _ (al_type []) (λ t. al_give (NC l kind t) refl)))

  al_pairs : (n : ℕ) (more : List Part) → Alike (map erase_pair) s (pair_fields n ++ more) (λ ps. more) (times n (read_pair s)) (times n (read_pair (erase s)))
  unfolding times read_pair read_two pair_fields u32_field
  al_pairs zero more = al_give [] refl
  al_pairs (suc n) more = al_bind _ _ (al_bind _ _ (al_u32 (type ∷ pair_fields n ++ more)) (λ id. al_bind _ _ (al_type (pair_fields n ++ more)) (λ t. al_give {h = erase_pair} (id, t) refl))) (λ p. al_bind _ _ (al_pairs n more) (λ ps. al_give (p ∷ ps) refl))

  al_TS : WholeRecord (pairs ∷ []) (read_TS s) (read_TS (erase s))
  unfolding read_TS expand erase_record
  al_TS = al_bind _ _ (al_byte_if _ pairs [] (λ b. refl)) (λ n. rw (append_assoc (pair_fields n)) (al_bind _ _ (al_pairs n (type ∷ [])) (λ ps. al_bind _ _ (al_type []) (λ t. al_give (TS ps t) refl))))

  al_case : (more : List Part) → Alike {A = TypingCase} same s (plain ∷ more) (λ c. more) read_case read_case
  unfolding read_case read_one
  al_case more = al_bind _ _ (al_plain_if _ more) (λ b. al_give _ refl)

  al_many : (n : ℕ) (more : List Part) → Alike (map erase_case_pair) s (many_fields n ++ more) (λ ps. more) (times n (read_case_pair s)) (times n (read_case_pair (erase s)))
  unfolding times read_case_pair read_three many_fields
  al_many zero more = al_give [] refl
  al_many (suc n) more = al_bind _ _ (al_bind _ _ (al_case (type ∷ type ∷ many_fields n ++ more)) (λ c. al_bind _ _ (al_type (type ∷ many_fields n ++ more)) (λ t. al_bind _ _ (al_type (many_fields n ++ more)) (λ u. al_give {h = erase_case_pair} (c, t, u) refl))))
      (λ p. al_bind _ _ (al_many n more) (λ ps. al_give (p ∷ ps) refl))

  al_MJ : WholeRecord (many ∷ []) (read_MJ s) (read_MJ (erase s))
  unfolding read_MJ expand erase_record
  al_MJ = al_bind _ _ (al_byte_if is_many many [] (λ b. refl)) (λ n. al_bind _ _ (al_many n []) (λ ps. al_give (MJ ps) refl))

  al_SD : WholeRecord [] (read_SD s) (read_SD (erase s))
  unfolding read_SD erase_record
  al_SD = al_bind _ _ (al_same (byte_to 15)) (λ a. al_bind _ _ (al_same (byte_to 8)) (λ n. al_bind _ _ (al_same (times n (byte_to 31))) (λ ps. al_give (SD a ps) refl)))

  al_KP : WholeRecord [] (read_KP s) (read_KP (erase s))
  unfolding read_KP erase_record
  al_KP = rw (taken_erase s) (al_bind _ _ (al_same byte) (λ n. al_bind _ _ (al_same (times n (name_below (taken s)))) (λ vs. al_give (KP vs) refl)))

  -- by mark, row for row
  data Marks : List (ℕ × ℕ × Reader Record) → List (ℕ × ℕ × Reader Record) → List (ℕ × ℕ × List Part × List Part × ℕ) → Type 0 where
    no_marks : Marks [] [] []
    mark_row : {a b : ℕ} {m m' : Reader Record} {ps shown : List Part} {n : ℕ} {ms ms' : List (ℕ × ℕ × Reader Record)} {pss : List (ℕ × ℕ × List Part × List Part × ℕ)} → WholeRecord ps m m' → Marks ms ms' pss
        → Marks ((a, b, m) ∷ ms) ((a, b, m') ∷ ms') ((a, b, ps, shown, n) ∷ pss)

  mark_at : {ms ms' : List (ℕ × ℕ × Reader Record)} {pss : List (ℕ × ℕ × List Part × List Part × ℕ)} → Marks ms ms' pss → (a b : ℕ) → WholeRecord (after_mark pss a b).0 (fields_of ms a b) (fields_of ms' a b)
  unfolding after_mark fields_of
  mark_at no_marks a b = al_refuse _
  mark_at (mark_row {a = a'} {b = b'} {m = m} {m' = m'} {ps = ps} {shown = shown} {n = n} {ms = ms} {ms' = ms'} {pss = pss} r rows) a b = go (eqb a a' && eqb b b') (mark_at rows a b)
    where
      go : (c : Bool) → WholeRecord (after_mark pss a b).0 (fields_of ms a b) (fields_of ms' a b) → WholeRecord (if c then (ps, shown, n) else after_mark pss a b).0 (if c then m else fields_of ms a b) (if c then m' else fields_of ms' a b)
      go true q = r
      go false q = q

  marks : Marks (by_mark s) (by_mark (erase s)) mark_fields
  unfolding by_mark mark_fields erase_record
  marks =
      mark_row al_SD (mark_row (al_loc_only FV (λ l. refl)) (mark_row (al_loc_only NV (λ l. refl)) (mark_row al_SN
      (mark_row (al_two JN (λ t u. refl)) (mark_row (al_two SU (λ t u. refl)) (mark_row (al_one UF (λ t. refl)) (mark_row (al_one RD (λ t. refl))
      (mark_row al_TS (mark_row (al_one IN (λ t. refl)) (mark_row al_NC (mark_row (al_loc_type BC (λ l t. refl)) (mark_row (al_loc_type SC (λ l t. refl))
      (mark_row (al_give SV refl) (mark_row (al_one RM (λ t. refl)) (mark_row (al_one CN (λ t. refl)) (mark_row (al_one XP (λ t. refl)) (mark_row al_NL (mark_row al_MJ (mark_row (al_one UL (λ t. refl)) (mark_row (al_two JL (λ t u. refl)) (mark_row al_KP no_marks)))))))))))))))))))))

  fields_alike : (bytes : Bytes) → Reads erase_record s (λ r. []) (read_fields s bytes) (read_fields (erase s) (blank_record s bytes))
  unfolding read_fields ◌>>=◌ go_on byte blank blank_record told
  fields_alike [] = r_not
  fields_alike (a ∷ []) = r_not
  fields_alike (a ∷ b ∷ bytes) = (mark_at marks a b).at bytes

  take_record : (n : ℕ) (bytes : Bytes) → take (suc (suc n)) (blank_record s bytes) ≡ blank_record s (take (suc (suc n)) bytes)
  unfolding blank blank_record told
  take_record n [] = refl
  take_record n (a ∷ []) = refl
  take_record n (a ∷ b ∷ bytes) = ap (λ (l : Bytes). a ∷ b ∷ l) (take_blank n s bytes _)

  pub length_record : (bytes : Bytes) → length (blank_record s bytes) ≡ length bytes
  unfolding blank blank_record told
  length_record [] = refl
  length_record (a ∷ []) = refl
  length_record (a ∷ b ∷ bytes) = ap (λ (n : ℕ). suc (suc n)) (length_blank s bytes _)

-- what is left over is as long
pub data ReadAlike : Read Record → Read Record → Type 0 where
  w_got : {r r' : Record} {rest rest' : Bytes} → r' ≡ erase_record r → length rest' ≡ length rest → ReadAlike (got r rest) (got r' rest')
  w_not : {x : Refusal} → ReadAlike (not_read x) (not_read x)

handed_back : {s : State} (more more' : Bytes) → length more' ≡ length more → {x x' : Read Record} → Reads erase_record s (λ r. []) x x' → ReadAlike (hand_back more x) (hand_back more' x')
unfolding hand_back
handed_back {s} more more' e (r_got {rest = rest} {rest' = rest'} p q) = w_got {rest = rest ++ more} {rest' = rest' ++ more'} p (rw (q, blank_nil s rest, length-append rest more, length-append rest more', e) refl)
handed_back more more' e r_not = w_not

pub record_alike : (s : State) (bytes : Bytes) → ReadAlike (read_record s bytes) (read_record (erase s) (blank_record s bytes))
unfolding read_record max_record
record_alike s bytes = rw (take_record s 4094 bytes) (handed_back (drop 4096 bytes) (drop 4096 (blank_record s bytes)) (simp (length-drop, length_record)) (fields_alike s (take 4096 bytes)))
