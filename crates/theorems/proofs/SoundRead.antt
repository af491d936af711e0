-- What is read of a record has known names, each name its arguments, and, where its bytes are bytes, fields in range. It takes a byte or more. Assumes nothing.
-- First what a fine tree is and what fields in range are; then one relation, `Given`, through the readers field by field; by the nesting that is left for types.
use mathlib.Core.Path.{◌≡◌, refl, ap}
use mathlib.Core.Bool.{Bool, true, false, not, ◌&&◌}
use mathlib.Core.List.{List, [], ◌∷◌, ◌++◌}
use Rattle.std.specs.Prelude.{None, Some}
use Prim.Native.Nat.{ℕ, zero, suc, ◌+◌, ◌*◌, ◌-◌, ◌≤◌, ◌<◌}
use native.Mathlib.Omega.{arith}
use lib.ListN.{length, get_or, take, drop, length-append, length-take, length-drop}
use lib.Dec.{ltb, leb, eqb, ltb→lt, leb→le}
use Rattle.std.specs.Prelude.{if◌then◌else◌}
use Rattle.definition.specs.Types.{TypeName, AbilityMark, State, Refusal, malformed, unknown_name, doubled_reference}
use Rattle.definition.specs.Store.{taken}
use Rattle.definition.specs.Write.{Bytes, IsBytes}
use Rattle.definition.specs.Reader.{Read, got, not_read, Reader, give, refuse, go_on, ◌>>=◌, byte, read_u16, read_u32, byte_if, byte_to, read_bool, name_below, times, read_one, read_two, read_three}
use Rattle.definition.specs.Join.{TypingCase}
use Rattle.definition.specs.Trees.{Tree, unit_tree, anything_tree, error_tree, ref_tree, param_tree, apply_tree, var_tree, Trees, no_trees, ◌then◌, is_set, is_param, is_count, is_mark, is_name}
use Rattle.definition.specs.Trees.{read_trees, mark_of, read_mark, mark_fits, arity, under_ref, read_apply, by_tag, read_nested, read_type}
use Rattle.definition.specs.Record.{Record, SD, FV, NV, SN, JN, SU, UF, RD, IN, TS, NC, BC, SC, SV, RM, CN, XP, read_kind, read_SD, read_pair, read_TS, by_mark, fields_of, read_fields, max_record, hand_back, read_record, NL, read_bits, MJ, read_case, is_many, read_case_pair, read_MJ, UL, JL, KP, read_KP}
use Rattle.definition.specs.Sound.{is_u32, struct_allowed}
use Rattle.theorems.proofs.DemandOrder.{All, All_map}
use Rattle.theorems.proofs.SoundFacts.{and_l, and_r, not_false, test}
use Rattle.theorems.proofs.Soundness.{and, lt_test}
use Rattle.theorems.proofs.SoundRanges.{all_test, U32, Named, StructIn}

-- ---- trees and records

abbrev pub size : Trees → ℕ
size no_trees = 0
size (◌then◌ t ts) = suc (size ts)

mutual
  pub data Fine (ar : TypeName → ℕ) (vars : ℕ) : Tree → Type 0 where
    fine_unit : {loc : ℕ} → Fine ar vars (unit_tree loc)
    fine_anything : {loc : ℕ} → Fine ar vars (anything_tree loc)
    fine_error : {loc : ℕ} → Fine ar vars (error_tree loc)
    fine_ref : {loc : ℕ} {mut : Bool} {t : Tree} → Fine ar vars t → Fine ar vars (ref_tree loc mut t)
    fine_param : {loc id abilities : ℕ} → Fine ar vars (param_tree loc id abilities)
    fine_apply : {loc : ℕ} {k : AbilityMark} {n : TypeName} {ts : Trees} → Fines ar vars ts → size ts ≡ ar n → Fine ar vars (apply_tree loc k n ts)
    fine_var : {loc v : ℕ} → v < vars → Fine ar vars (var_tree loc v)

  pub data Fines (ar : TypeName → ℕ) (vars : ℕ) : Trees → Type 0 where
    fine_none : Fines ar vars no_trees
    fine_then : {t : Tree} {ts : Trees} → Fine ar vars t → Fines ar vars ts → Fines ar vars (◌then◌ t ts)

abbrev pub FinePairs : (TypeName → ℕ) → ℕ → List (ℕ × Tree) → Type 0
FinePairs ar vars ps = All (λ (p : ℕ × Tree). Fine ar vars p.1) ps

abbrev pub FineMany : (TypeName → ℕ) → ℕ → List (TypingCase × Tree × Tree) → Type 0
FineMany ar vars ps = All (λ (p : TypingCase × Tree × Tree). Fine ar vars p.1 × Fine ar vars p.2) ps

abbrev pub FineRecord : (TypeName → ℕ) → ℕ → Record → Type 0
FineRecord ar vars (SD abilities params) = Unit {0}
FineRecord ar vars (FV loc) = Unit {0}
FineRecord ar vars (NV loc) = Unit {0}
FineRecord ar vars (SN v loc) = Unit {0}
FineRecord ar vars (NL loc bits) = leb bits 256 ≡ true
FineRecord ar vars (JN t1 t2) = Fine ar vars t1 × Fine ar vars t2
FineRecord ar vars (SU t1 t2) = Fine ar vars t1 × Fine ar vars t2
FineRecord ar vars (UF t) = Fine ar vars t
FineRecord ar vars (RD t) = Fine ar vars t
FineRecord ar vars (IN t) = Fine ar vars t
FineRecord ar vars (TS pairs t) = FinePairs ar vars pairs × Fine ar vars t
FineRecord ar vars (NC loc kind t) = Fine ar vars t
FineRecord ar vars (BC loc t) = Fine ar vars t
FineRecord ar vars (SC loc t) = Fine ar vars t
FineRecord ar vars SV = Unit {0}
FineRecord ar vars (RM t) = Fine ar vars t
FineRecord ar vars (CN t) = Fine ar vars t
FineRecord ar vars (XP t) = Fine ar vars t
FineRecord ar vars (UL t) = Fine ar vars t
FineRecord ar vars (JL t1 t2) = Fine ar vars t1 × Fine ar vars t2
FineRecord ar vars (MJ pairs) = FineMany ar vars pairs × (1 ≤ length pairs) × (length pairs ≤ 15)
FineRecord ar vars (KP listed) = All (λ v. v < vars) listed

-- ---- fields in range: the names are those of s

unfoldable mutual
  pub TreeIn : State → Tree → Type 0
  TreeIn s (unit_tree loc) = U32 loc
  TreeIn s (anything_tree loc) = U32 loc
  TreeIn s (error_tree loc) = U32 loc
  TreeIn s (ref_tree loc mut t) = U32 loc × TreeIn s t
  TreeIn s (param_tree loc id abilities) = U32 loc × (is_u32 id && is_set abilities ≡ true)
  TreeIn s (apply_tree loc k n ts) = U32 loc × Named s k n × TreesIn s ts
  TreeIn s (var_tree loc v) = U32 loc

  pub TreesIn : State → Trees → Type 0
  TreesIn s no_trees = Unit {0}
  TreesIn s (◌then◌ t ts) = TreeIn s t × TreesIn s ts

abbrev pub RecordIn : State → Record → Type 0
RecordIn s (SD abilities params) = StructIn (record { abilities = abilities; params = params })
RecordIn s (FV loc) = Unit {0}
RecordIn s (NV loc) = U32 loc
RecordIn s (SN v loc) = U32 loc
RecordIn s (NL loc bits) = U32 loc × (leb bits 256 ≡ true)
RecordIn s (JN t1 t2) = TreeIn s t1 × TreeIn s t2
RecordIn s (SU t1 t2) = TreeIn s t1 × TreeIn s t2
RecordIn s (UF t) = TreeIn s t
RecordIn s (RD t) = TreeIn s t
RecordIn s (IN t) = TreeIn s t
RecordIn s (TS pairs t) = All (λ (p : ℕ × Tree). TreeIn s p.1) pairs × TreeIn s t
RecordIn s (NC loc kind t) = U32 loc × TreeIn s t
RecordIn s (BC loc t) = U32 loc × TreeIn s t
RecordIn s (SC loc t) = U32 loc × TreeIn s t
RecordIn s SV = Unit {0}
RecordIn s (RM t) = TreeIn s t
RecordIn s (CN t) = TreeIn s t
RecordIn s (XP t) = TreeIn s t
RecordIn s (UL t) = TreeIn s t
RecordIn s (JL t1 t2) = TreeIn s t1 × TreeIn s t2
RecordIn s (MJ pairs) = All (λ (p : TypingCase × Tree × Tree). TreeIn s p.1 × TreeIn s p.2) pairs
RecordIn s (KP listed) = Unit {0}

-- ---- bytes

pub bytes_take : (n : ℕ) (l : Bytes) → IsBytes l → IsBytes (take n l)
bytes_take zero l h = tt
bytes_take (suc n) [] h = tt
bytes_take (suc n) (b ∷ l) h = (h.0, bytes_take n l h.1)

bytes_drop : (n : ℕ) (l : Bytes) → IsBytes l → IsBytes (drop n l)
bytes_drop zero l h = h
bytes_drop (suc n) [] h = tt
bytes_drop (suc n) (b ∷ l) h = bytes_drop n l h.1

pub bytes_append : (l m : Bytes) → IsBytes l → IsBytes m → IsBytes (l ++ m)
bytes_append [] m p q = q
bytes_append (b ∷ l) m p q = (p.0, bytes_append l m p.1 q)

-- ---- readers

-- 5, 6 and 18
pub data ReadTime : Refusal → Type 0 where
  five : ReadTime malformed
  six : ReadTime unknown_name
  eighteen : ReadTime doubled_reference

-- at most n bytes are left. H: a claim under which the bytes are bytes; ⊥ where that is not asked
pub data Given (H : Type 0) {A : Type 0} (P : A → Type 0) (n : ℕ) : Read A → Type 0 where
  given : {a : A} {rest : Bytes} → P a → (H → IsBytes rest) → length rest ≤ n → Given H P n (got a rest)
  not_given : {x : Refusal} → ReadTime x → Given H P n (not_read x)

fewer : {H A : Type 0} {P : A → Type 0} {n m : ℕ} {r : Read A} → n ≤ m → Given H P n r → Given H P m r
fewer l (given {rest = rest} p i k) = given {rest = rest} p i (omega arith)
fewer l (not_given r) = not_given r

module _ (H : Type 0) where
  abbrev pub Gives : {A : Type 0} → (A → Type 0) → Reader A → Type 0
  Gives P m = (bytes : Bytes) → (H → IsBytes bytes) → Given H P (length bytes) (m bytes)

  pub gives_then : {A B : Type 0} {P : A → Type 0} {Q : B → Type 0} (m : Reader A) (f : A → Reader B) → Gives P m → ((a : A) → P a → Gives Q (f a)) → Gives Q (m >>= f)
  unfolding ◌>>=◌ go_on
  gives_then {A} {B} {P} {Q} m f g h bytes is = go (m bytes) (g bytes is)
    where
      go : (r : Read A) → Given H P (length bytes) r → Given H Q (length bytes) (go_on r f)
      go (got a rest) (given p i l) = fewer l (h a p rest i)
      go (not_read x) (not_given r) = not_given r

  pub gives_give : {A : Type 0} {P : A → Type 0} (a : A) → P a → Gives P (give a)
  unfolding give
  gives_give a p bytes is = given {rest = bytes} p is (omega arith)

  pub gives_refuse : {A : Type 0} {P : A → Type 0} {x : Refusal} → ReadTime x → Gives P (refuse x)
  unfolding refuse
  gives_refuse r bytes is = not_given r

  pub gives_if : {A : Type 0} {P : A → Type 0} (b : Bool) {x y : Reader A} → (b ≡ true → Gives P x) → (b ≡ false → Gives P y) → Gives P (if b then x else y)
  gives_if true f g = f refl
  gives_if false f g = g refl

  pub gives_byte : Gives (λ b. H → b < 256) byte
  unfolding byte
  gives_byte [] is = not_given five
  gives_byte (b ∷ bytes) is = given {rest = bytes} (λ h. (is h).0) (λ h. (is h).1) (omega arith)

  pub gives_u16 : Gives (λ n. Unit {0}) read_u16
  unfolding read_u16
  gives_u16 = gives_then byte _ gives_byte (λ a p. gives_then byte _ gives_byte (λ b q. gives_give _ tt))

  pub gives_u32 : Gives (λ n. H → U32 n) read_u32
  unfolding read_u32 is_u32
  gives_u32 =
      gives_then byte _ gives_byte (λ a p. gives_then byte _ gives_byte (λ b q. gives_then byte _ gives_byte (λ c r. gives_then byte _ gives_byte (λ d t.
      gives_give _ (λ h. lt_test (a + 256 * b + 65536 * c + 16777216 * d) 4294967296 (omega (arith, p h, q h, r h, t h)))))))

  pub gives_byte_if : (allowed : ℕ → Bool) → Gives (λ b. allowed b ≡ true) (byte_if allowed)
  unfolding byte_if
  gives_byte_if allowed = gives_then byte _ gives_byte (λ b p. gives_if (allowed b) (λ e. gives_give b e) (λ e. gives_refuse five))

  pub gives_bool : Gives (λ b. Unit {0}) read_bool
  unfolding read_bool read_one
  gives_bool = gives_then (byte_to 1) _ (gives_byte_if _) (λ b p. gives_give _ tt)

  gives_kind : Gives (λ k. Unit {0}) read_kind
  unfolding read_kind read_one
  gives_kind = gives_then (byte_to 2) _ (gives_byte_if _) (λ b p. gives_give _ tt)

  gives_case : Gives (λ k. Unit {0}) read_case
  unfolding read_case read_one
  gives_case = gives_then (byte_to 1) _ (gives_byte_if _) (λ b p. gives_give _ tt)

  pub gives_mark : Gives (λ k. is_mark k ≡ true) read_mark
  unfolding read_mark mark_of is_mark
  gives_mark = gives_then byte _ gives_byte (λ b p. go b (eqb b 0) (leb 16 b && is_set (b - 16)) refl)
    where
      go : (b : ℕ) (z m : Bool) → leb 16 b && is_set (b - 16) ≡ m
          → Gives (λ k. is_mark k ≡ true) (elim (if z then Some None else if m then Some (Some (b - 16)) else None) as (λ o. Reader AbilityMark) [ None ↦ refuse malformed | Some k ↦ give k ])
      go b true m e = gives_give None refl
      go b false true e = gives_give (Some (b - 16)) (and_r (leb 16 b) _ e)
      go b false false e = gives_refuse five

  pub gives_name : (known : ℕ) → Gives (λ n. ltb n known ≡ true) (name_below known)
  unfolding name_below
  gives_name known = gives_then read_u16 _ gives_u16 (λ n p. gives_if (ltb n known) (λ e. gives_give n e) (λ e. gives_refuse six))

  pub gives_under : {P : Tree → Type 0} (left : ℕ) (m : Reader Tree) → Gives P m → Gives P (under_ref left m)
  unfolding under_ref
  gives_under {P} left m g bytes is = go (ltb 0 left && eqb (get_or bytes 0 0) 1)
    where
      go : (c : Bool) → Given H P (length bytes) (if c then not_read doubled_reference else m bytes)
      go true = not_given eighteen
      go false = g bytes is

  gives_times : {A : Type 0} {P : A → Type 0} (n : ℕ) (m : Reader A) → Gives P m → Gives (λ as'. All P as' × (length as' ≡ n)) (times n m)
  unfolding times
  gives_times zero m g = gives_give [] (tt, refl)
  gives_times (suc n) m g = gives_then m _ g (λ a p. gives_then (times n m) _ (gives_times n m g) (λ as' q. gives_give (a ∷ as') ((p, q.0), ap suc q.1)))

  module _ (s : State) where
    abbrev pub GoodTree : Tree → Type 0
    GoodTree t = Fine (arity s) (taken s) t × (H → TreeIn s t)

    gives_trees : (n : ℕ) (m : Reader Tree) → Gives GoodTree m → Gives (λ ts. Fines (arity s) (taken s) ts × (size ts ≡ n) × (H → TreesIn s ts)) (read_trees n m)
    unfolding read_trees TreeIn
    gives_trees zero m g = gives_give no_trees (fine_none, refl, λ h. tt)
    gives_trees (suc n) m g = gives_then m _ g (λ t p. gives_then (read_trees n m) _ (gives_trees n m g) (λ ts q. gives_give (◌then◌ t ts) (fine_then p.0 q.0, ap suc q.1, λ h. (p.1 h, q.2 h))))

    module _ (m : Reader Tree) (g : Gives GoodTree m) (loc : ℕ) (l : H → U32 loc) where
      gives_apply : {P : ℕ → Type 0} (number : Reader ℕ) → Gives P number → (name : ℕ → TypeName) (x : Refusal) → ReadTime x → Gives GoodTree (read_apply s m loc number name x)
      unfolding read_apply TreeIn
      gives_apply number q name x r = gives_then read_mark _ gives_mark (λ k hk. gives_then number _ q (λ n p. gives_if (not (is_name s (name n))) (λ e. gives_refuse r) (λ e. gives_if (not (mark_fits k (name n))) (λ f. gives_refuse five) (λ f.
          gives_then (read_trees (arity s (name n)) m) _ (gives_trees (arity s (name n)) m g) (λ ts q. gives_give _ (fine_apply q.0 q.1, λ h. (l h, and (and hk (not_false (is_name s (name n)) e)) (not_false (mark_fits k (name n)) f), q.2 h)))))))

      gives_ref : (left : ℕ) → Gives GoodTree (read_two (ref_tree loc) read_bool (under_ref left m))
      unfolding read_two TreeIn
      gives_ref left = gives_then read_bool _ gives_bool (λ b p. gives_then (under_ref left m) _ (gives_under left m g) (λ t q. gives_give _ (fine_ref q.0, λ h. (l h, q.1 h))))

      gives_param : Gives GoodTree (read_two (param_tree loc) read_u32 (byte_if is_set))
      unfolding read_two TreeIn
      gives_param = gives_then read_u32 _ gives_u32 (λ id p. gives_then (byte_if is_set) _ (gives_byte_if is_set) (λ a q. gives_give _ (fine_param, λ h. (l h, and (p h) q))))

      gives_var : Gives GoodTree (read_one (var_tree loc) (name_below (taken s)))
      unfolding read_one TreeIn
      gives_var = gives_then (name_below (taken s)) _ (gives_name (taken s)) (λ v p. gives_give _ (fine_var (ltb→lt v (taken s) (test p)), l))

      abbrev AllGive : List (Reader Tree) → Type 0
      AllGive [] = Unit {0}
      AllGive (r ∷ rs) = Gives GoodTree r × AllGive rs

      gives_at : (rs : List (Reader Tree)) → AllGive rs → (i : ℕ) → Gives GoodTree (get_or rs i (refuse malformed))
      gives_at [] a i = gives_refuse five
      gives_at (r ∷ rs) a zero = a.0
      gives_at (r ∷ rs) a (suc i) = gives_at rs a.1 i

      gives_by_tag : (left tag : ℕ) → Gives GoodTree (get_or (by_tag s m loc left) tag (refuse malformed))
      unfolding by_tag TreeIn
      gives_by_tag left tag = gives_at (by_tag s m loc left)
          (gives_give _ (fine_unit, l), (gives_ref left, (gives_param, (gives_apply byte gives_byte _ _ five, (gives_apply byte gives_byte _ _ five, (gives_apply read_u16 gives_u16 _ _ six, (gives_var, (gives_give _ (fine_anything, l), (gives_give _ (fine_error, l), tt))))))))) tag

    gives_nested : (n : ℕ) → Gives GoodTree (read_nested n s)
    unfolding read_nested
    gives_nested zero = gives_refuse five
    gives_nested (suc n) = gives_then (byte_to 8) _ (gives_byte_if _) (λ tag p. gives_then read_u32 _ gives_u32 (λ loc q. gives_by_tag (read_nested n s) (gives_nested n) loc q n tag))

    pub gives_type : Gives GoodTree (read_type s)
    unfolding read_type
    gives_type = gives_nested 64

    -- ---- records

    abbrev GoodRecord : Record → Type 0
    GoodRecord r = FineRecord (arity s) (taken s) r × (H → RecordIn s r)

    gives_SD : Gives GoodRecord (read_SD s)
    unfolding read_SD struct_allowed
    gives_SD = gives_then (byte_if is_set) _ (gives_byte_if is_set) (λ a p. gives_then (byte_if is_count) _ (gives_byte_if is_count) (λ n q. gives_then (times n (byte_if is_param)) _ (gives_times n (byte_if is_param) (gives_byte_if is_param)) (λ ps r.
        gives_give _ (tt, λ h. record { struct_in = and (and p (rw r.1 q)) (all_test (λ x. leb x 31) ps r.0) }))))

    gives_SN : Gives GoodRecord (read_two SN (name_below (taken s)) read_u32)
    unfolding read_two
    gives_SN = gives_then (name_below (taken s)) _ (gives_name (taken s)) (λ v p. gives_then read_u32 _ gives_u32 (λ loc q. gives_give _ (tt, q)))

    gives_bits : Gives (λ n. leb n 256 ≡ true) read_bits
    unfolding read_bits
    gives_bits = gives_then read_u16 _ gives_u16 (λ n p. gives_if (leb 1 n && leb n 256) (λ e. gives_give n (and_r (leb 1 n) _ e)) (λ e. gives_refuse five))

    gives_NL : Gives GoodRecord (read_two NL read_u32 read_bits)
    unfolding read_two
    gives_NL = gives_then read_u32 _ gives_u32 (λ loc p. gives_then read_bits _ gives_bits (λ n q. gives_give _ (q, λ h. (p h, q))))

    gives_two : (mark : Tree → Tree → Record) → ((t1 t2 : Tree) → GoodTree t1 → GoodTree t2 → GoodRecord (mark t1 t2)) → Gives GoodRecord (read_two mark (read_type s) (read_type s))
    unfolding read_two
    gives_two mark h = gives_then (read_type s) _ gives_type (λ t1 p. gives_then (read_type s) _ gives_type (λ t2 q. gives_give _ (h t1 t2 p q)))

    gives_one : (mark : Tree → Record) → ((t : Tree) → GoodTree t → GoodRecord (mark t)) → Gives GoodRecord (read_one mark (read_type s))
    unfolding read_one
    gives_one mark h = gives_then (read_type s) _ gives_type (λ t p. gives_give _ (h t p))

    gives_loc : (mark : ℕ → Record) → ((loc : ℕ) → (H → U32 loc) → GoodRecord (mark loc)) → Gives GoodRecord (read_one mark read_u32)
    unfolding read_one
    gives_loc mark h = gives_then read_u32 _ gives_u32 (λ loc p. gives_give _ (h loc p))

    gives_loc_type : (mark : ℕ → Tree → Record) → ((loc : ℕ) (t : Tree) → (H → U32 loc) → GoodTree t → GoodRecord (mark loc t)) → Gives GoodRecord (read_two mark read_u32 (read_type s))
    unfolding read_two
    gives_loc_type mark h = gives_then read_u32 _ gives_u32 (λ loc p. gives_then (read_type s) _ gives_type (λ t q. gives_give _ (h loc t p q)))

    gives_pair : Gives (λ p. GoodTree p.1) (read_pair s)
    unfolding read_pair read_two
    gives_pair = gives_then read_u32 _ gives_u32 (λ id p. gives_then (read_type s) _ gives_type (λ t q. gives_give _ q))

    gives_TS : Gives GoodRecord (read_TS s)
    unfolding read_TS
    gives_TS = gives_then (byte_to 8) _ (gives_byte_if _) (λ n p. gives_then (times n (read_pair s)) _ (gives_times n (read_pair s) gives_pair) (λ ps q. gives_then (read_type s) _ gives_type (λ t r.
        gives_give _ ((All_map (λ x y. y.0) ps q.0, r.0), λ h. (All_map (λ x y. y.1 h) ps q.0, r.1 h)))))

    gives_NC : Gives GoodRecord (read_three NC read_u32 read_kind (read_type s))
    unfolding read_three
    gives_NC = gives_then read_u32 _ gives_u32 (λ loc p. gives_then read_kind _ gives_kind (λ k q. gives_then (read_type s) _ gives_type (λ t r. gives_give _ (r.0, λ h. (p h, r.1 h)))))

    gives_case_pair : Gives (λ p. GoodTree p.1 × GoodTree p.2) (read_case_pair s)
    unfolding read_case_pair read_three
    gives_case_pair = gives_then read_case _ gives_case (λ c u. gives_then (read_type s) _ gives_type (λ t1 p. gives_then (read_type s) _ gives_type (λ t2 q. gives_give _ (p, q))))

    few_pairs : (n : ℕ) → is_many n ≡ true → (1 ≤ n) × (n ≤ 15)
    unfolding is_many
    few_pairs n e = (leb→le 1 n (test (and_l (leb 1 n) (leb n 15) e)), leb→le n 15 (test (and_r (leb 1 n) (leb n 15) e)))

    gives_MJ : Gives GoodRecord (read_MJ s)
    unfolding read_MJ
    gives_MJ = gives_then (byte_if is_many) _ (gives_byte_if is_many) (λ n p. gives_then (times n (read_case_pair s)) _ (gives_times n (read_case_pair s) gives_case_pair) (λ ps q.
        gives_give _ ((All_map (λ x y. (y.0.0, y.1.0)) ps q.0, omega (arith, q.1, (few_pairs n p).0), omega (arith, q.1, (few_pairs n p).1)), λ h. All_map (λ x y. (y.0.1 h, y.1.1 h)) ps q.0)))

    gives_KP : Gives GoodRecord (read_KP s)
    unfolding read_KP
    gives_KP = gives_then byte _ gives_byte (λ n p. gives_then (times n (name_below (taken s))) _ (gives_times n (name_below (taken s)) (gives_name (taken s))) (λ vs q.
        gives_give _ (All_map (λ v l. ltb→lt v (taken s) (test l)) vs q.0, λ h. tt)))

    abbrev AllMarks : List (ℕ × ℕ × Reader Record) → Type 0
    AllMarks [] = Unit {0}
    AllMarks (e ∷ es) = Gives GoodRecord e.2 × AllMarks es

    gives_fields_of : (es : List (ℕ × ℕ × Reader Record)) → AllMarks es → (a b : ℕ) → Gives GoodRecord (fields_of es a b)
    unfolding fields_of
    gives_fields_of [] h a b = gives_refuse five
    gives_fields_of (e ∷ es) h a b = gives_if (eqb a e.0 && eqb b e.1) (λ d. h.0) (λ d. gives_fields_of es h.1 a b)

    two : {A B C D : Type 0} → A × (H → B) → C × (H → D) → (A × C) × (H → B × D)
    two p q = ((p.0, q.0), λ h. (p.1 h, q.1 h))

    gives_marks : AllMarks (by_mark s)
    unfolding by_mark
    gives_marks = (
      gives_SD,
      (
        gives_loc FV (λ l p. (tt, λ h. tt)),
        (
          gives_loc NV (λ l p. (tt, p)),
          (
            gives_SN,
            (
              gives_two JN (λ a b p q. two p q),
              (
                gives_two SU (λ a b p q. two p q),
                (
                  gives_one UF (λ t p. p),
                  (
                    gives_one RD (λ t p. p),
                    (gives_TS, (gives_one IN (λ t p. p), (gives_NC, (gives_loc_type BC (λ l t p q. (q.0, λ h. (p h, q.1 h))), (gives_loc_type SC (λ l t p q. (q.0, λ h. (p h, q.1 h))), (gives_give SV (tt, λ h. tt), (gives_one RM (λ t p. p), (gives_one CN (λ t p. p), (gives_one XP (λ t p. p), (gives_NL, (gives_MJ, (gives_one UL (λ t p. p), (gives_two JL (λ a b p q. two p q), (gives_KP, tt)))))))))))))),
                  ),
                ),
              ),
            ),
          ),
        ),
      ),
    )

    gives_fields : (bytes : Bytes) → (H → IsBytes bytes) → Given H GoodRecord (length bytes - 1) (read_fields s bytes)
    unfolding read_fields byte ◌>>=◌ go_on
    gives_fields [] is = not_given five
    gives_fields (a ∷ bytes) is = fewer (omega arith) (gives_then byte (λ b. fields_of (by_mark s) a b) gives_byte (λ b q. gives_fields_of (by_mark s) gives_marks a b) bytes (λ h. (is h).1))

    gives_record : (bytes : Bytes) → (H → IsBytes bytes) → Given H GoodRecord (length bytes - 1) (read_record s bytes)
    unfolding read_record hand_back max_record
    gives_record bytes is = back (read_fields s (take max_record bytes)) (gives_fields (take max_record bytes) (λ h. bytes_take max_record bytes (is h)))
      where
        back : (r : Read Record) → Given H GoodRecord (length (take max_record bytes) - 1) r → Given H GoodRecord (length bytes - 1) (hand_back (drop max_record bytes) r)
        back (got a rest) (given p i l) =
            given {rest = rest ++ drop max_record bytes} p (λ h. bytes_append rest _ (i h) (bytes_drop max_record bytes (is h))) (omega (arith, length-append rest (drop max_record bytes), length-take max_record bytes, length-drop max_record bytes))
        back (not_read x) (not_given r) = not_given r

-- a record that is read has known names, and what is left is at most n bytes
abbrev pub ReadWell : Type 0 → State → ℕ → Read Record → Type 0
ReadWell H s n r = Given H (λ r. FineRecord (arity s) (taken s) r × (H → RecordIn s r)) n r

pub well_read : (H : Type 0) (s : State) (bytes : Bytes) → (H → IsBytes bytes) → ReadWell H s (length bytes - 1) (read_record s bytes)
well_read H s bytes is = gives_record H s bytes is

pub read_fine : (s : State) (bytes : Bytes) (r : Record) (rest : Bytes) → read_record s bytes ≡ got r rest → FineRecord (arity s) (taken s) r
read_fine s bytes r rest e = go (rw e at (well_read ⊥ s bytes (λ h. absurd h)))
  where
    go : {n : ℕ} → ReadWell ⊥ s n (got r rest) → FineRecord (arity s) (taken s) r
    go (given f i l) = f.0
