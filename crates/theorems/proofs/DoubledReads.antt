-- R-6: our reader beside 01's. Where 01's gives something without a doubled reference, ours gives it too, with the same rest; where with one, ours refuses with 18; where 01's
-- refuses, ours refuses so too, or with 18. So nothing that reading hands back has a doubled reference. Assumes nothing.
-- One relation, `Beside`, goes through the readers field by field: `found` says whether a doubled reference has been met so far, and ours has then refused.
use mathlib.Core.Path.{◌≡◌, refl}
use mathlib.Core.Bool.{Bool, true, false, not, ◌||◌, ◌&&◌}
use mathlib.Core.List.{List, [], ◌∷◌}
use Prim.Native.Nat.{ℕ, zero, suc}
use lib.ListN.{get_or, take, drop}
use lib.Dec.{eqb, leb, ltb}
use borrow.Author.Tests.{ne_eqb}
use native.Mathlib.Omega.{arith}
use Rattle.std.specs.Prelude.{if◌then◌else◌}
use Rattle.definition.specs.Types.{TypeName, Multiple, Builtin, ModuleType, State, Refusal, malformed, unknown_name, doubled_reference}
use Rattle.definition.specs.Store.{taken}
use Rattle.definition.specs.Join.{TypingCase}
use Rattle.definition.specs.Write.{Bytes}
use Rattle.definition.specs.Reader.{Read, got, not_read, Reader, give, refuse, go_on, ◌>>=◌, read_one, read_two, read_three, byte, read_u16, read_u32, byte_if, byte_to, read_bool, name_below, times}
use Rattle.definition.specs.Trees.{Tree, unit_tree, anything_tree, error_tree, ref_tree, param_tree, apply_tree, var_tree, no_trees, ◌then◌, read_trees, read_mark, mark_fits, arity, is_name, is_set, under_ref, read_apply, by_tag, read_nested, read_type}
use Rattle.definition.specs.Record.{Record, SD, FV, NV, SN, JN, SU, UF, RD, IN, TS, NC, BC, SC, SV, RM, CN, XP, read_kind, read_SD, max_record, hand_back, read_record, NL, read_bits, MJ, read_case, is_many, UL, JL, KP, read_KP}
use Rattle.theorems.proofs.DemandOrder.{All}
use Rattle.theorems.proofs.Soundness.{lt_test}
use Rattle.theorems.proofs.Doubled.{is_ref, doubled, doubled_in, doubled_pairs, doubled_many, doubled_record, NoDoubled, NoDoubledRecord, read_01, read_record_01}
use Rattle.theorems.proofs.Doubled.{Rows, no_rows, row, row_at, Marks, no_marks, mark_row, mark_at, by_tag_with, nested_with, pair_with, TS_with, case_pair_with, MJ_with, by_mark_with, fields_with, record_with, record_now}

-- ---- what 01's reader gives, and what ours gives. D: a doubled reference is in it

pub data AsBefore {A : Type 0} (D : A → Bool) : Read A → Read A → Type 0 where
  given_as_before : {a : A} {rest : Bytes} → D a ≡ false → AsBefore D (got a rest) (got a rest)
  given_with_one : {a : A} {rest : Bytes} → D a ≡ true → AsBefore D (got a rest) (not_read doubled_reference)
  refused_as_before : {x : Refusal} → AsBefore D (not_read x) (not_read x)
  refused_sooner : {x : Refusal} → AsBefore D (not_read x) (not_read doubled_reference)

-- once one is found ours has refused
abbrev ours : {A : Type 0} → Bool → Read A → Read A
ours found x = if found then not_read doubled_reference else x

record Beside {A : Type 0} (found : Bool) (D : A → Bool) (m m' : Reader A) : Type 0 where
  at : (bytes : Bytes) → AsBefore D (m bytes) (ours found (m' bytes))

module _ {A B : Type 0} {D : A → Bool} {E : B → Bool} {f f' : A → Reader B} (k : (a : A) → Beside (D a) E (f a) (f' a)) where
  on : {x y : Read A} → AsBefore D x y → AsBefore E (go_on x f) (go_on y f')
  unfolding go_on
  on (given_as_before {a = a} {rest = rest} e) = rw e at ((k a).at rest)
  on (given_with_one {a = a} {rest = rest} e) = rw e at ((k a).at rest)
  on refused_as_before = refused_as_before
  on refused_sooner = refused_sooner

  ours_on : (found : Bool) (y : Read A) → go_on (ours found y) f' ≡ ours found (go_on y f')
  unfolding go_on
  ours_on true y = refl
  ours_on false y = refl

  b_bind : {found : Bool} {m m' : Reader A} → Beside found D m m' → Beside found E (m >>= f) (m' >>= f')
  unfolding ◌>>=◌
  b_bind {found} {m} {m'} p = record { at = λ bytes. rw (← (ours_on found (m' bytes))) (on (p.at bytes)) }

module _ {A : Type 0} {D : A → Bool} where
  b_give : (a : A) (found : Bool) → D a ≡ found → Beside found D (give a) (give a)
  unfolding give
  b_give a true e = record { at = λ bytes. given_with_one e }
  b_give a false e = record { at = λ bytes. given_as_before e }

  b_refuse : (x : Refusal) (found : Bool) → Beside found D (refuse x) (refuse x)
  unfolding refuse
  b_refuse x true = record { at = λ bytes. refused_sooner }
  b_refuse x false = record { at = λ bytes. refused_as_before }

  b_if : {found : Bool} (c : Bool) {x y x' y' : Reader A} → Beside found D x x' → Beside found D y y' → Beside found D (if c then x else y) (if c then x' else y')
  b_if true p q = p
  b_if false p q = q

  -- after what has been found, or not
  b_after : {m m' : Reader A} (found : Bool) → Beside false D m m' → Beside found (λ a. found || D a) m m'
  b_after {m} true p = record { at = λ bytes. go (m bytes) }
    where
      go : (x : Read A) → AsBefore (λ a. true) x (not_read doubled_reference)
      go (got a rest) = given_with_one refl
      go (not_read x) = refused_sooner
  b_after false p = p

-- a reader without types
b_same : {A : Type 0} (m : Reader A) → Beside false (λ a. false) m m
b_same {A} m = record { at = λ bytes. go (m bytes) }
  where
    go : (x : Read A) → AsBefore (λ a. false) x x
    go (got a rest) = given_as_before refl
    go (not_read x) = refused_as_before

-- ---- the first byte tells a reference

data Told (c : Bool) : Read Tree → Type 0 where
  told : {t : Tree} {rest : Bytes} → is_ref t ≡ c → Told c (got t rest)
  untold : {x : Refusal} → Told c (not_read x)

abbrev Tells : Bool → Reader Tree → Type 0
Tells c m = (bytes : Bytes) → Told c (m bytes)

module _ {c : Bool} where
  t_then : {A : Type 0} (m : Reader A) (f : A → Reader Tree) → ((a : A) → Tells c (f a)) → Tells c (m >>= f)
  unfolding ◌>>=◌ go_on
  t_then {A} m f p bytes = go (m bytes)
    where
      go : (x : Read A) → Told c (go_on x f)
      go (got a rest) = p a rest
      go (not_read x) = untold

  t_give : (t : Tree) → is_ref t ≡ c → Tells c (give t)
  unfolding give
  t_give t e bytes = told e

  t_refuse : (x : Refusal) → Tells c (refuse x)
  unfolding refuse
  t_refuse x bytes = untold

  t_if : (b : Bool) {x y : Reader Tree} → Tells c x → Tells c y → Tells c (if b then x else y)
  t_if true p q = p
  t_if false p q = q

  t_get : (ms : List (Reader Tree)) → All (λ m. Tells c m) ms → (i : ℕ) → Tells c (get_or ms i (refuse malformed))
  t_get [] a i = t_refuse malformed
  t_get (m ∷ ms) a zero = a.0
  t_get (m ∷ ms) a (suc i) = t_get ms a.1 i

-- 01's: any type may be a reference's part
abbrev any_part : ℕ → Reader Tree → Reader Tree
any_part left m = m

module _ (s : State) where
  t_apply : (m : Reader Tree) (loc : ℕ) (number : Reader ℕ) (name : ℕ → TypeName) (x : Refusal) → Tells false (read_apply s m loc number name x)
  unfolding read_apply is_ref
  t_apply m loc number name x = t_then read_mark _ (λ k. t_then number _ (λ n.
      t_if (not (is_name s (name n))) (t_refuse x) (t_if (not (mark_fits k (name n))) (t_refuse malformed) (t_then (read_trees (arity s (name n)) m) _ (λ ts. t_give _ refl)))))

  t_tag : (m : Reader Tree) (loc left tag : ℕ) → Tells (eqb tag 1) (get_or (by_tag_with any_part s m loc left) tag (refuse malformed))
  unfolding by_tag_with is_ref read_two read_one
  t_tag m loc left zero = t_give _ refl
  t_tag m loc left (suc zero) = t_then read_bool _ (λ mut. t_then m _ (λ t. t_give _ refl))
  t_tag m loc left (suc (suc tag)) = rw (ne_eqb (suc (suc tag)) 1 (λ d. absurd (omega (arith, d)))) (t_get (drop 2 (by_tag_with any_part s m loc left)) (
    t_then read_u32 _ (λ id. t_then (byte_if is_set) _ (λ a. t_give _ refl)),
    (t_apply m loc _ _ _, (t_apply m loc _ _ _, (t_apply m loc _ _ _, (t_then (name_below (taken s)) _ (λ v. t_give _ refl), (t_give _ refl, (t_give _ refl, tt)))))),
  ) tag)

  t_nested : (n : ℕ) (bytes : Bytes) → Told (ltb 0 n && eqb (get_or bytes 0 0) 1) (nested_with any_part n s bytes)
  unfolding nested_with refuse give byte_if byte ◌>>=◌ go_on
  t_nested zero bytes = untold
  t_nested (suc n) [] = untold
  t_nested (suc n) (b ∷ bytes) = rw (lt_test 0 (suc n) (omega arith)) (go (leb b 8))
    where
      go : (c : Bool) → Told (eqb b 1) (go_on ((if c then give b else refuse malformed) bytes) (λ tag. read_u32 >>= (λ loc. get_or (by_tag_with any_part s (nested_with any_part n s) loc n) tag (refuse malformed))))
      go true = t_then read_u32 _ (λ loc. t_tag (nested_with any_part n s) loc n b) bytes
      go false = untold

-- ---- types

b_trees : {m m' : Reader Tree} → Beside false doubled m m' → (n : ℕ) → Beside false doubled_in (read_trees n m) (read_trees n m')
unfolding read_trees doubled_in
b_trees p zero = b_give no_trees false refl
b_trees p (suc n) = b_bind (λ t. b_bind (λ ts. b_give (◌then◌ t ts) _ refl) (b_after (doubled t) (b_trees p n))) p

module _ (s : State) {m m' : Reader Tree} (p : Beside false doubled m m') (loc left : ℕ) where
  b_apply : (number : Reader ℕ) (name : ℕ → TypeName) (x : Refusal) → Beside false doubled (read_apply s m loc number name x) (read_apply s m' loc number name x)
  unfolding read_apply doubled
  b_apply number name x = b_bind (λ k. b_bind (λ n.
      b_if (not (is_name s (name n))) (b_refuse x false) (b_if (not (mark_fits k (name n))) (b_refuse malformed false)
      (b_bind (λ ts. b_give (apply_tree loc k (name n) ts) _ refl) (b_trees p (arity s (name n)))))) (b_same number)) (b_same read_mark)

  -- at the tag of the part
  under : (c : Bool) {x y : Read Tree} → Told c x → AsBefore doubled x y → AsBefore (λ t. is_ref t || doubled t) x (if c then not_read doubled_reference else y)
  under true (told {t = t} e) q = given_with_one {a = t} (rw e refl)
  under true untold q = refused_sooner
  under false (told {t = t} e) (given_as_before d) = given_as_before {a = t} (rw (e, d) refl)
  under false (told {t = t} e) (given_with_one d) = given_with_one {a = t} (rw (e, d) refl)
  under false untold refused_as_before = refused_as_before
  under false untold refused_sooner = refused_sooner

  module _ (tells : (bytes : Bytes) → Told (ltb 0 left && eqb (get_or bytes 0 0) 1) (m bytes)) where
    b_under : Beside false (λ t. is_ref t || doubled t) m (under_ref left m')
    unfolding under_ref
    b_under = record { at = λ bytes. under _ (tells bytes) (p.at bytes) }

    b_ref : Beside false doubled (read_two (ref_tree loc) read_bool m) (read_two (ref_tree loc) read_bool (under_ref left m'))
    unfolding read_two doubled
    b_ref = b_bind (λ mut. b_bind (λ t. b_give (ref_tree loc mut t) _ refl) b_under) (b_same read_bool)

b_tags : (s : State) {m m' : Reader Tree} (p : Beside false doubled m m') (left : ℕ) → ((bytes : Bytes) → Told (ltb 0 left && eqb (get_or bytes 0 0) 1) (m bytes)) → (loc : ℕ) → Rows (Beside false doubled) (by_tag_with any_part s m loc left) (by_tag s m' loc left)
unfolding by_tag_with by_tag read_two read_one doubled
b_tags s p left tells loc =
    row (b_give (unit_tree loc) false refl) (row (b_ref s p loc left tells) (row (b_bind (λ id. b_bind (λ a. b_give (param_tree loc id a) false refl) (b_same (byte_if is_set))) (b_same read_u32))
    (row (b_apply s p loc left byte Builtin malformed) (row (b_apply s p loc left byte Multiple malformed) (row (b_apply s p loc left read_u16 ModuleType unknown_name)
    (row (b_bind (λ v. b_give (var_tree loc v) false refl) (b_same (name_below (taken s)))) (row (b_give (anything_tree loc) false refl) (row (b_give (error_tree loc) false refl) no_rows))))))))

b_nested : (n : ℕ) (s : State) → Beside false doubled (nested_with any_part n s) (read_nested n s)
unfolding nested_with read_nested
b_nested zero s = b_refuse malformed false
b_nested (suc n) s = b_bind (λ tag. b_bind (λ loc. row_at (Beside false doubled) (b_refuse malformed false) (b_tags s (b_nested n s) n (t_nested s n) loc) tag) (b_same read_u32)) (b_same (byte_to 8))

pub reads_as_before : (s : State) (bytes : Bytes) → AsBefore doubled (read_01 s bytes) (read_type s bytes)
unfolding read_01 read_type
reads_as_before s bytes = (b_nested 64 s).at bytes

given_none : {A : Type 0} {D : A → Bool} {a : A} {rest : Bytes} {x : Read A} → AsBefore D x (got a rest) → D a ≡ false
given_none (given_as_before e) = e

pub none_doubled : (s : State) (bytes : Bytes) (t : Tree) (rest : Bytes) → read_type s bytes ≡ got t rest → NoDoubled t
none_doubled s bytes t rest e = given_none (rw e at (reads_as_before s bytes))

-- ---- records

module _ (s : State) {m m' : Reader Tree} (p : Beside false doubled m m') where
  b_pair : Beside false (λ (q : ℕ × Tree). doubled q.1) (pair_with m s) (pair_with m' s)
  unfolding pair_with read_two
  b_pair = b_bind (λ id. b_bind (λ t. b_give (id, t) _ refl) p) (b_same read_u32)

  b_pairs : (n : ℕ) → Beside false doubled_pairs (times n (pair_with m s)) (times n (pair_with m' s))
  unfolding times doubled_pairs
  b_pairs zero = b_give [] false refl
  b_pairs (suc n) = b_bind (λ q. b_bind (λ qs. b_give (q ∷ qs) _ refl) (b_after (doubled q.1) (b_pairs n))) b_pair

  b_case_pair : Beside false (λ (q : TypingCase × Tree × Tree). doubled q.1 || doubled q.2) (case_pair_with m s) (case_pair_with m' s)
  unfolding case_pair_with read_three
  b_case_pair = b_bind (λ c. b_bind (λ t1. b_bind (λ t2. b_give (c, t1, t2) _ refl) (b_after (doubled t1) p)) p) (b_same read_case)

  b_many : (n : ℕ) → Beside false doubled_many (times n (case_pair_with m s)) (times n (case_pair_with m' s))
  unfolding times doubled_many
  b_many zero = b_give [] false refl
  b_many (suc n) = b_bind (λ q. b_bind (λ qs. b_give (q ∷ qs) _ refl) (b_after (doubled q.1 || doubled q.2) (b_many n))) b_case_pair

  abbrev Whole : Reader Record → Reader Record → Type 0
  Whole f f' = Beside false doubled_record f f'

  b_TS : Whole (TS_with m s) (TS_with m' s)
  unfolding TS_with doubled_record
  b_TS = b_bind (λ n. b_bind (λ pairs. b_bind (λ t. b_give (TS pairs t) _ refl) (b_after (doubled_pairs pairs) p)) (b_pairs n)) (b_same (byte_to 8))

  b_MJ : Whole (MJ_with m s) (MJ_with m' s)
  unfolding MJ_with doubled_record
  b_MJ = b_bind (λ n. b_bind (λ pairs. b_give (MJ pairs) _ refl) (b_many n)) (b_same (byte_if is_many))

  b_two : (mark : Tree → Tree → Record) → ((t1 t2 : Tree) → doubled_record (mark t1 t2) ≡ doubled t1 || doubled t2) → Whole (read_two mark m m) (read_two mark m' m')
  unfolding read_two
  b_two mark e = b_bind (λ t1. b_bind (λ t2. b_give (mark t1 t2) _ (e t1 t2)) (b_after (doubled t1) p)) p

  b_one : (mark : Tree → Record) → ((t : Tree) → doubled_record (mark t) ≡ doubled t) → Whole (read_one mark m) (read_one mark m')
  unfolding read_one
  b_one mark e = b_bind (λ t. b_give (mark t) _ (e t)) p

  b_loc_type : (mark : ℕ → Tree → Record) → ((loc : ℕ) (t : Tree) → doubled_record (mark loc t) ≡ doubled t) → Whole (read_two mark read_u32 m) (read_two mark read_u32 m')
  unfolding read_two
  b_loc_type mark e = b_bind (λ loc. b_bind (λ t. b_give (mark loc t) _ (e loc t)) p) (b_same read_u32)

  b_NC : Whole (read_three NC read_u32 read_kind m) (read_three NC read_u32 read_kind m')
  unfolding read_three doubled_record
  b_NC = b_bind (λ loc. b_bind (λ kind. b_bind (λ t. b_give (NC loc kind t) _ refl) p) (b_same read_kind)) (b_same read_u32)

  b_loc : (mark : ℕ → Record) → ((loc : ℕ) → doubled_record (mark loc) ≡ false) → Whole (read_one mark read_u32) (read_one mark read_u32)
  unfolding read_one
  b_loc mark e = b_bind (λ loc. b_give (mark loc) false (e loc)) (b_same read_u32)

  b_SN : Whole (read_two SN (name_below (taken s)) read_u32) (read_two SN (name_below (taken s)) read_u32)
  unfolding read_two doubled_record
  b_SN = b_bind (λ v. b_bind (λ loc. b_give (SN v loc) false refl) (b_same read_u32)) (b_same (name_below (taken s)))

  b_NL : Whole (read_two NL read_u32 read_bits) (read_two NL read_u32 read_bits)
  unfolding read_two doubled_record
  b_NL = b_bind (λ loc. b_bind (λ bits. b_give (NL loc bits) false refl) (b_same read_bits)) (b_same read_u32)

  b_SD : Whole (read_SD s) (read_SD s)
  unfolding read_SD doubled_record
  b_SD = b_bind (λ a. b_bind (λ n. b_bind (λ ps. b_give (SD a ps) false refl) (b_same _)) (b_same _)) (b_same _)

  b_KP : Whole (read_KP s) (read_KP s)
  unfolding read_KP doubled_record
  b_KP = b_bind (λ n. b_bind (λ vs. b_give (KP vs) false refl) (b_same _)) (b_same _)

  b_marks : Marks (Beside false doubled_record) (by_mark_with m s) (by_mark_with m' s)
  unfolding by_mark_with doubled_record
  b_marks =
      mark_row b_SD (mark_row (b_loc FV (λ l. refl)) (mark_row (b_loc NV (λ l. refl)) (mark_row b_SN (mark_row (b_two JN (λ t u. refl)) (mark_row (b_two SU (λ t u. refl)) (mark_row (b_one UF (λ t. refl)) (mark_row (b_one RD (λ t. refl))
      (mark_row b_TS (mark_row (b_one IN (λ t. refl)) (mark_row b_NC (mark_row (b_loc_type BC (λ l t. refl)) (mark_row (b_loc_type SC (λ l t. refl)) (mark_row (b_give SV false refl) (mark_row (b_one RM (λ t. refl)) (mark_row (b_one CN (λ t. refl)) (mark_row (b_one XP (λ t. refl)) (mark_row b_NL (mark_row b_MJ (mark_row (b_one UL (λ t. refl)) (mark_row (b_two JL (λ t u. refl)) (mark_row b_KP no_marks)))))))))))))))))))))

  b_fields : Whole (fields_with m s) (fields_with m' s)
  unfolding fields_with
  b_fields = b_bind (λ a. b_bind (λ b. mark_at (Beside false doubled_record) (b_refuse malformed false) b_marks a b) (b_same byte)) (b_same byte)

handed_back : {A : Type 0} {D : A → Bool} (more : Bytes) {x y : Read A} → AsBefore D x y → AsBefore D (hand_back more x) (hand_back more y)
unfolding hand_back
handed_back more (given_as_before e) = given_as_before e
handed_back more (given_with_one e) = given_with_one e
handed_back more refused_as_before = refused_as_before
handed_back more refused_sooner = refused_sooner

pub record_as_before : (s : State) (bytes : Bytes) → AsBefore doubled_record (read_record_01 s bytes) (read_record s bytes)
unfolding read_record_01 record_with read_01 read_type
record_as_before s bytes = rw (← (record_now s bytes)) (handed_back (drop max_record bytes) ((b_fields s (b_nested 64 s)).at (take max_record bytes)))

pub record_none_doubled : (s : State) (bytes : Bytes) (r : Record) (rest : Bytes) → read_record s bytes ≡ got r rest → NoDoubledRecord r
record_none_doubled s bytes r rest e = given_none (rw e at (record_as_before s bytes))
