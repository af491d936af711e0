-- R-6: which trees have a reference directly under a reference, and 01's reader, which let them through. Assumes nothing.
-- The readers of Trees.antt and Record.antt stand here with the reader of a reference's part left open: 01's and ours are two of this kind (`type_now`, `record_now`).
-- At the end, lists of readers related row for row, for the proofs that compare two of them.
use mathlib.Core.Path.{◌≡◌, refl, ap}
use mathlib.Core.Bool.{Bool, true, false, ◌||◌, ◌&&◌}
use mathlib.Core.List.{List, [], ◌∷◌}
use Prim.Native.Nat.{ℕ, zero, suc}
use lib.ListN.{get_or, take, drop}
use lib.Dec.{eqb}
use Rattle.std.specs.Prelude.{if◌then◌else◌}
use Rattle.definition.specs.Types.{Multiple, Builtin, ModuleType, State, malformed, unknown_name}
use Rattle.definition.specs.Store.{taken}
use Rattle.definition.specs.Join.{TypingCase}
use Rattle.definition.specs.Write.{Bytes}
use Rattle.definition.specs.Reader.{Reader, give, refuse, ◌>>=◌, read_one, read_two, read_three, byte, read_u16, read_u32, byte_if, byte_to, read_bool, name_below, times}
use Rattle.definition.specs.Trees.{Tree, unit_tree, anything_tree, error_tree, ref_tree, param_tree, apply_tree, var_tree, Trees, no_trees, ◌then◌, is_set, under_ref, read_apply, by_tag, read_nested, read_type}
use Rattle.definition.specs.Record.{Record, SD, FV, NV, SN, JN, SU, UF, RD, IN, TS, NC, BC, SC, SV, RM, CN, XP, read_kind, read_SD, read_pair, read_TS, by_mark, fields_of, read_fields, max_record, hand_back, read_record, NL, read_bits, MJ, read_case, is_many, read_case_pair, read_MJ, UL, JL, KP, read_KP}
use Rattle.theorems.proofs.DemandTracks.{never}

-- ---- doubled references

unfoldable pub is_ref : Tree → Bool
is_ref (unit_tree loc) = false
is_ref (anything_tree loc) = false
is_ref (error_tree loc) = false
is_ref (ref_tree loc mut t) = true
is_ref (param_tree loc id abilities) = false
is_ref (apply_tree loc k n ts) = false
is_ref (var_tree loc v) = false

unfoldable mutual
  pub doubled : Tree → Bool
  doubled (unit_tree loc) = false
  doubled (anything_tree loc) = false
  doubled (error_tree loc) = false
  doubled (ref_tree loc mut t) = is_ref t || doubled t
  doubled (param_tree loc id abilities) = false
  doubled (apply_tree loc k n ts) = doubled_in ts
  doubled (var_tree loc v) = false

  pub doubled_in : Trees → Bool
  doubled_in no_trees = false
  doubled_in (◌then◌ t ts) = doubled t || doubled_in ts

unfoldable pub doubled_pairs : List (ℕ × Tree) → Bool
doubled_pairs [] = false
doubled_pairs (pair ∷ pairs) = doubled pair.1 || doubled_pairs pairs

unfoldable pub doubled_many : List (TypingCase × Tree × Tree) → Bool
doubled_many [] = false
doubled_many (pair ∷ pairs) = (doubled pair.1 || doubled pair.2) || doubled_many pairs

unfoldable pub doubled_record : Record → Bool
doubled_record (SD abilities params) = false
doubled_record (FV loc) = false
doubled_record (NV loc) = false
doubled_record (SN v loc) = false
doubled_record (NL loc bits) = false
doubled_record (JN t1 t2) = doubled t1 || doubled t2
doubled_record (SU t1 t2) = doubled t1 || doubled t2
doubled_record (UF t) = doubled t
doubled_record (RD t) = doubled t
doubled_record (IN t) = doubled t
doubled_record (TS pairs t) = doubled_pairs pairs || doubled t
doubled_record (NC loc kind t) = doubled t
doubled_record (BC loc t) = doubled t
doubled_record (SC loc t) = doubled t
doubled_record SV = false
doubled_record (RM t) = doubled t
doubled_record (CN t) = doubled t
doubled_record (XP t) = doubled t
doubled_record (MJ pairs) = doubled_many pairs
doubled_record (KP listed) = false
doubled_record (UL t) = doubled t
doubled_record (JL t1 t2) = doubled t1 || doubled t2

abbrev pub NoDoubled : Tree → Type 0
NoDoubled t = doubled t ≡ false

abbrev pub NoDoubledIn : Trees → Type 0
NoDoubledIn ts = doubled_in ts ≡ false

abbrev pub NoDoubledRecord : Record → Type 0
NoDoubledRecord r = doubled_record r ≡ false

-- neither of two: of `doubled` unfolded, no reference stands there, and none is doubled further down
pub or_l : (x y : Bool) → x || y ≡ false → x ≡ false
or_l true y e = e
or_l false y e = refl

pub or_r : (x y : Bool) → x || y ≡ false → y ≡ false
or_r true y e = never (cc)
or_r false y e = e

-- ---- readers that differ in the part of a reference alone

module _ (under : ℕ → Reader Tree → Reader Tree) where
  -- as Trees.antt has it, but for `under`
  unfoldable pub by_tag_with : State → Reader Tree → ℕ → ℕ → List (Reader Tree)
  by_tag_with s read_type loc left =
      give (unit_tree loc) ∷
      read_two (ref_tree loc) read_bool (under left read_type) ∷
      read_two (param_tree loc) read_u32 (byte_if is_set) ∷
      read_apply s read_type loc byte Builtin malformed ∷
      read_apply s read_type loc byte Multiple malformed ∷
      read_apply s read_type loc read_u16 ModuleType unknown_name ∷
      read_one (var_tree loc) (name_below (taken s)) ∷
      give (anything_tree loc) ∷
      give (error_tree loc) ∷
      []

  unfoldable pub nested_with : ℕ → State → Reader Tree
  nested_with zero s = refuse malformed
  nested_with (suc n) s = do
    tag ← byte_to 8
    loc ← read_u32
    get_or (by_tag_with s (nested_with n s) loc n) tag (refuse malformed)

-- as Record.antt has it, with any reader of types
module _ (read_type : Reader Tree) (s : State) where
  unfoldable pub pair_with : Reader (ℕ × Tree)
  pair_with = read_two (λ id t. (id, t)) read_u32 read_type

  unfoldable pub TS_with : Reader Record
  TS_with = do
    n ← byte_to 8
    pairs ← times n pair_with
    t ← read_type
    give (TS pairs t)

  unfoldable pub case_pair_with : Reader (TypingCase × Tree × Tree)
  case_pair_with = read_three (λ case t1 t2. (case, t1, t2)) read_case read_type read_type

  unfoldable pub MJ_with : Reader Record
  MJ_with = do
    n ← byte_if is_many
    pairs ← times n case_pair_with
    give (MJ pairs)

  unfoldable pub by_mark_with : List (ℕ × ℕ × Reader Record)
  by_mark_with =
      (83, 68, read_SD s) ∷
      (70, 86, read_one FV read_u32) ∷
      (78, 86, read_one NV read_u32) ∷
      (83, 78, read_two SN (name_below (taken s)) read_u32) ∷
      (74, 78, read_two JN read_type read_type) ∷
      (83, 85, read_two SU read_type read_type) ∷
      (85, 70, read_one UF read_type) ∷
      (82, 68, read_one RD read_type) ∷
      (84, 83, TS_with) ∷
      (73, 78, read_one IN read_type) ∷
      (78, 67, read_three NC read_u32 read_kind read_type) ∷
      (66, 67, read_two BC read_u32 read_type) ∷
      (83, 67, read_two SC read_u32 read_type) ∷
      (83, 86, give SV) ∷
      (82, 77, read_one RM read_type) ∷
      (67, 78, read_one CN read_type) ∷
      (88, 80, read_one XP read_type) ∷
      (78, 76, read_two NL read_u32 read_bits) ∷
      (77, 74, MJ_with) ∷
      (85, 76, read_one UL read_type) ∷
      (74, 76, read_two JL read_type read_type) ∷
      (75, 80, read_KP s) ∷
      []

  unfoldable pub fields_with : Reader Record
  fields_with = do
    a ← byte
    b ← byte
    fields_of by_mark_with a b

  unfoldable pub record_with : Reader Record
  record_with bytes = hand_back (drop max_record bytes) (fields_with (take max_record bytes))

-- ---- 01's

unfoldable pub read_01 : State → Reader Tree
read_01 s = nested_with (λ left m. m) 64 s

unfoldable pub read_record_01 : State → Reader Record
read_record_01 s = record_with (read_01 s) s

-- ---- ours

nested_now : (n : ℕ) (s : State) → nested_with (λ left m. under_ref left m) n s ≡ read_nested n s
unfolding nested_with read_nested by_tag_with by_tag
nested_now zero s = refl
nested_now (suc n) s = ap (λ (m : Reader Tree). byte_to 8 >>= (λ tag. read_u32 >>= (λ loc. get_or (by_tag s m loc n) tag (refuse malformed)))) (nested_now n s)

pub type_now : (s : State) → nested_with (λ left m. under_ref left m) 64 s ≡ read_type s
unfolding read_type
type_now s = nested_now 64 s

pub record_now : (s : State) (bytes : Bytes) → record_with (read_type s) s bytes ≡ read_record s bytes
unfolding record_with fields_with by_mark_with TS_with pair_with MJ_with case_pair_with read_record read_fields by_mark read_TS read_pair read_MJ read_case_pair
record_now s bytes = refl

-- ---- two lists of readers, row for row

module _ {A : Type 0} (R : Reader A → Reader A → Type 0) where
  pub data Rows : List (Reader A) → List (Reader A) → Type 0 where
    no_rows : Rows [] []
    row : {m m' : Reader A} {ms ms' : List (Reader A)} → R m m' → Rows ms ms' → Rows (m ∷ ms) (m' ∷ ms')

  pub data Marks : List (ℕ × ℕ × Reader A) → List (ℕ × ℕ × Reader A) → Type 0 where
    no_marks : Marks [] []
    mark_row : {a b : ℕ} {m m' : Reader A} {ms ms' : List (ℕ × ℕ × Reader A)} → R m m' → Marks ms ms' → Marks ((a, b, m) ∷ ms) ((a, b, m') ∷ ms')

pub row_at : {A : Type 0} (R : Reader A → Reader A → Type 0) → R (refuse malformed) (refuse malformed) → {ms ms' : List (Reader A)} → Rows R ms ms' → (i : ℕ) → R (get_or ms i (refuse malformed)) (get_or ms' i (refuse malformed))
row_at R r no_rows i = r
row_at R r (row p rows) zero = p
row_at R r (row p rows) (suc i) = row_at R r rows i

pub mark_at : (R : Reader Record → Reader Record → Type 0) → R (refuse malformed) (refuse malformed) → {ms ms' : List (ℕ × ℕ × Reader Record)} → Marks R ms ms' → (a b : ℕ) → R (fields_of ms a b) (fields_of ms' a b)
unfolding fields_of
mark_at R r no_marks a b = r
mark_at R r (mark_row {a = a'} {b = b'} {m = m} {m' = m'} {ms = ms} {ms' = ms'} p marks) a b = go (eqb a a' && eqb b b') (mark_at R r marks a b)
  where
    go : (c : Bool) → R (fields_of ms a b) (fields_of ms' a b) → R (if c then m else fields_of ms a b) (if c then m' else fields_of ms' a b)
    go true q = p
    go false q = q
