-- R-6: where 18 is met. Bytes are refused with 18 exactly if a front of them is read right up to the tag under a reference, one that may still nest, and the byte there is 1.
-- What follows does not count, not even the location. Assumes nothing.
-- `Both` relates two readers, one that tells where its bytes end at such a tag, and ours: `finds` is the one direction, `meets` the other. It goes through them field by field.
use mathlib.Core.Path.{◌≡◌, refl, sym, ap, ◌∙◌}
use mathlib.Core.Logic.{◌≢◌}
use mathlib.Core.Bool.{Bool, true, false, not, ◌&&◌}
use mathlib.Core.List.{[], ◌∷◌, ◌++◌, append_assoc}
use Rattle.std.specs.Prelude.{Option, None, Some}
use Prim.Native.Nat.{ℕ, zero, suc}
use lib.ListN.{get_or, take, drop}
use lib.Dec.{eqb, ltb, eqb→eq, leb}
use Rattle.std.specs.Prelude.{if◌then◌else◌}
use Rattle.definition.specs.Types.{TypeName, Multiple, Builtin, ModuleType, AbilityMark, State, Refusal, malformed, unknown_name, doubled_reference}
use Rattle.definition.specs.Store.{taken}
use Rattle.definition.specs.Write.{Bytes}
use Rattle.definition.specs.Reader.{Read, got, not_read, Reader, give, refuse, go_on, ◌>>=◌, read_one, read_two, read_three, byte, read_u16, read_u32, byte_if, read_bool, name_below, times}
use Rattle.definition.specs.Trees.{Tree, no_trees, ◌then◌, read_trees, mark_of, read_mark, mark_fits, arity, is_name, is_set, under_ref, read_apply, by_tag, read_nested, read_type}
use Rattle.definition.specs.Record.{Record, FV, NV, SN, JN, SU, UF, RD, IN, NC, BC, SC, SV, RM, CN, XP, read_kind, read_SD, max_record, hand_back, read_record, NL, read_bits, read_case, UL, JL, read_KP}
use Rattle.theorems.proofs.SoundFacts.{and_l, and_r, test}
use Rattle.theorems.proofs.DemandTracks.{never}
use Rattle.theorems.proofs.Doubled.{Rows, no_rows, row, row_at, Marks, no_marks, mark_row, mark_at, by_tag_with, nested_with, pair_with, TS_with, case_pair_with, MJ_with, by_mark_with, fields_with, record_with, record_now}

-- ---- bytes that end right before the tag under a reference: 01's reader, but that it tells this place, by 18

unfoldable pub told_at_end : ℕ → Reader Tree → Reader Tree
told_at_end left m [] = if ltb 0 left then not_read doubled_reference else m []
told_at_end left m (b ∷ bytes) = m (b ∷ bytes)

unfoldable pub read_up_to : State → Reader Tree
read_up_to s = nested_with (λ left m. told_at_end left m) 64 s

unfoldable pub fields_up_to : State → Reader Record
fields_up_to s = fields_with (read_up_to s) s

-- all bytes before an inner tag are read, and that tag is 1
pub record InnerTag {A : Type 0} (up_to : Reader A) (bytes : Bytes) : Type 0 where
  pub front : Bytes
  pub rest : Bytes
  pub split : bytes ≡ front ++ 1 ∷ rest
  pub reached : up_to front ≡ not_read doubled_reference

-- ---- p tells the place, o is ours

data Found {A : Type 0} (p : Reader A) (bytes : Bytes) : Read A → Type 0 where
  found : (front rest : Bytes) → bytes ≡ front ++ 1 ∷ rest → p front ≡ not_read doubled_reference → Found p bytes (not_read doubled_reference)
  passed : {a : A} (seen rest : Bytes) → bytes ≡ seen ++ rest → ((more : Bytes) → p (seen ++ more) ≡ got a more) → Found p bytes (got a rest)
  elsewhere : {x : Refusal} → x ≢ doubled_reference → Found p bytes (not_read x)

data Met {A : Type 0} (o : Reader A) (front : Bytes) : Read A → Type 0 where
  met : ((more : Bytes) → o (front ++ 1 ∷ more) ≡ not_read doubled_reference) → Met o front (not_read doubled_reference)
  went_on : {a : A} {rest : Bytes} → ((more : Bytes) → o (front ++ more) ≡ got a (rest ++ more)) → Met o front (got a rest)
  -- ours has refused before
  went_past : {a : A} {rest : Bytes} → ((more : Bytes) → o (front ++ more) ≡ not_read doubled_reference) → Met o front (got a rest)
  not_met : {x : Refusal} → x ≢ doubled_reference → Met o front (not_read x)

record Both {A : Type 0} (p o : Reader A) : Type 0 where
  finds : (bytes : Bytes) → Found p bytes (o bytes)
  meets : (front : Bytes) → Met o front (p front)

-- if ours has refused, whatever comes
refused_before : {A : Type 0} (o : Reader A) (front : Bytes) → ((more : Bytes) → o (front ++ more) ≡ not_read doubled_reference) → {o' : Reader A} {front' : Bytes} {y : Read A} → Met o' front' y → Met o front y
refused_before o front h (met k) = met (λ more. h (1 ∷ more))
refused_before o front h (went_on k) = went_past h
refused_before o front h (went_past k) = went_past h
refused_before o front h (not_met n) = not_met n

module _ {A B : Type 0} (p o : Reader A) (q r : A → Reader B) (k : (a : A) → Both (q a) (r a)) where
  find_after : (a : A) {bytes : Bytes} (seen rest : Bytes) → bytes ≡ seen ++ rest → ((more : Bytes) → p (seen ++ more) ≡ got a more) → {y : Read B} → Found (q a) rest y → Found (p >>= q) bytes y
  unfolding ◌>>=◌ go_on
  find_after a seen rest e h (found front2 rest2 e2 h2) =
      found (seen ++ front2) rest2 (e ∙ ap (λ (l : Bytes). seen ++ l) e2 ∙ sym (append_assoc seen front2 (1 ∷ rest2))) (ap (λ x. go_on x q) (h front2) ∙ h2)
  find_after a seen rest e h (passed {a = b} seen2 rest2 e2 h2) =
      passed {a = b} (seen ++ seen2) rest2 (e ∙ ap (λ (l : Bytes). seen ++ l) e2 ∙ sym (append_assoc seen seen2 rest2)) (λ more. rw (append_assoc seen seen2 more) (ap (λ x. go_on x q) (h (seen2 ++ more)) ∙ h2 more))
  find_after a seen rest e h (elsewhere n) = elsewhere n

  find_on : {bytes : Bytes} {x : Read A} → Found p bytes x → Found (p >>= q) bytes (go_on x r)
  unfolding ◌>>=◌ go_on
  find_on (found front rest e h) = found front rest e (ap (λ x. go_on x q) h)
  find_on (passed {a = a} seen rest e h) = find_after a seen rest e h ((k a).finds rest)
  find_on (elsewhere n) = elsewhere n

  meet_after : (a : A) (front rest : Bytes) → ((more : Bytes) → o (front ++ more) ≡ got a (rest ++ more)) → {y : Read B} → Met (r a) rest y → Met (o >>= r) front y
  unfolding ◌>>=◌ go_on
  meet_after a front rest h (met k) = met (λ more. ap (λ x. go_on x r) (h (1 ∷ more)) ∙ k more)
  meet_after a front rest h (went_on {a = b} {rest = rest2} k) = went_on {a = b} {rest = rest2} (λ more. ap (λ x. go_on x r) (h more) ∙ k more)
  meet_after a front rest h (went_past k) = went_past (λ more. ap (λ x. go_on x r) (h more) ∙ k more)
  meet_after a front rest h (not_met n) = not_met n

  meet_on : (front : Bytes) {x : Read A} → Met o front x → Met (o >>= r) front (go_on x q)
  unfolding ◌>>=◌ go_on
  meet_on front (met h) = met (λ more. ap (λ x. go_on x r) (h more))
  meet_on front (went_on {a = a} {rest = rest} h) = meet_after a front rest h ((k a).meets rest)
  meet_on front (went_past {a = a} {rest = rest} h) = refused_before (o >>= r) front (λ more. ap (λ x. go_on x r) (h more)) ((k a).meets rest)
  meet_on front (not_met n) = not_met n

x_bind : {A B : Type 0} {p o : Reader A} {q r : A → Reader B} → Both p o → ((a : A) → Both (q a) (r a)) → Both (p >>= q) (o >>= r)
unfolding ◌>>=◌
x_bind {p = p} {o = o} {q = q} {r = r} b k = record { finds = λ bytes. find_on p o q r k (b.finds bytes); meets = λ front. meet_on p o q r k front (b.meets front) }

module _ {A : Type 0} where
  x_give : (a : A) → Both (give a) (give a)
  unfolding give
  x_give a = record { finds = λ bytes. passed [] bytes refl (λ more. refl); meets = λ front. went_on (λ more. refl) }

  x_refuse : (x : Refusal) → x ≢ doubled_reference → Both {A = A} (refuse x) (refuse x)
  unfolding refuse
  x_refuse x n = record { finds = λ bytes. elsewhere n; meets = λ front. not_met n }

  x_if : (c : Bool) {p p' o o' : Reader A} → Both p o → Both p' o' → Both (if c then p else p') (if c then o else o')
  x_if true b k = b
  x_if false b k = k

x_times : {A : Type 0} (n : ℕ) {p o : Reader A} → Both p o → Both (times n p) (times n o)
unfolding times
x_times zero b = x_give []
x_times (suc n) b = x_bind b (λ a. x_bind (x_times n b) (λ as'. x_give (a ∷ as')))

no_5 : malformed ≢ doubled_reference
no_5 e = never (cc)

no_6 : unknown_name ≢ doubled_reference
no_6 e = never (cc)

-- ---- fields

x_byte : Both byte byte
unfolding byte
x_byte = record { finds = find; meets = meet }
  where
    find : (bytes : Bytes) → Found byte bytes (byte bytes)
    find [] = elsewhere no_5
    find (b ∷ bytes) = passed (b ∷ []) bytes refl (λ more. refl)

    meet : (front : Bytes) → Met byte front (byte front)
    meet [] = not_met no_5
    meet (b ∷ front) = went_on {a = b} {rest = front} (λ more. refl)

x_u16 : Both read_u16 read_u16
unfolding read_u16
x_u16 = x_bind x_byte (λ a. x_bind x_byte (λ b. x_give _))

x_u32 : Both read_u32 read_u32
unfolding read_u32
x_u32 = x_bind x_byte (λ a. x_bind x_byte (λ b. x_bind x_byte (λ c. x_bind x_byte (λ d. x_give _))))

x_byte_if : (allowed : ℕ → Bool) → Both (byte_if allowed) (byte_if allowed)
unfolding byte_if
x_byte_if allowed = x_bind x_byte (λ b. x_if (allowed b) (x_give b) (x_refuse malformed no_5))

x_bool : Both read_bool read_bool
unfolding read_bool read_one
x_bool = x_bind (x_byte_if _) (λ b. x_give _)

x_name : (known : ℕ) → Both (name_below known) (name_below known)
unfolding name_below
x_name known = x_bind x_u16 (λ n. x_if (ltb n known) (x_give n) (x_refuse unknown_name no_6))

x_mark : Both read_mark read_mark
unfolding read_mark
x_mark = x_bind x_byte (λ b. go (mark_of b))
  where
    go : (o : Option AbilityMark) → Both {A = AbilityMark} (elim o [ None ↦ refuse malformed | Some k ↦ give k ]) (elim o [ None ↦ refuse malformed | Some k ↦ give k ])
    go None = x_refuse malformed no_5
    go (Some k) = x_give k

-- ---- types

x_trees : (n : ℕ) {p o : Reader Tree} → Both p o → Both (read_trees n p) (read_trees n o)
unfolding read_trees
x_trees zero b = x_give no_trees
x_trees (suc n) b = x_bind b (λ t. x_bind (x_trees n b) (λ ts. x_give (◌then◌ t ts)))

-- the part of a reference. A type has a byte or more
module _ (left : ℕ) (p o : Reader Tree) (nothing : p [] ≡ not_read malformed) where
  abbrev looks : Bytes → Bool
  looks bytes = ltb 0 left && eqb (get_or bytes 0 0) 1

  found_here : (bytes : Bytes) → looks bytes ≡ true → Found (told_at_end left p) bytes (not_read doubled_reference)
  unfolding told_at_end
  found_here [] e = never (let t : ◌≡◌ {A = Bool} false true = and_r (ltb 0 left) (eqb 0 1) e in cc)
  found_here (b ∷ rest) e = found [] rest (ap (λ (x : ℕ). x ∷ rest) (eqb→eq b 1 (test (and_r (ltb 0 left) _ e)))) (rw (and_l (ltb 0 left) (eqb b 1) e) refl)

  found_further : {bytes : Bytes} {y : Read Tree} → Found p bytes y → Found (told_at_end left p) bytes y
  unfolding told_at_end
  found_further (found [] rest e h) = never (let t : ◌≡◌ {A = Read Tree} (not_read malformed) (not_read doubled_reference) = sym nothing ∙ h in cc)
  found_further (found (b ∷ front) rest e h) = found (b ∷ front) rest e h
  found_further (passed {a = a} [] rest e h) = never (let t : ◌≡◌ {A = Read Tree} (not_read malformed) (got a []) = sym nothing ∙ h [] in cc)
  found_further (passed {a = a} (b ∷ seen) rest e h) = passed {a = a} (b ∷ seen) rest e h
  found_further (elsewhere n) = elsewhere n

  find_under : (bytes : Bytes) (c : Bool) → looks bytes ≡ c → {y : Read Tree} → Found p bytes y → Found (told_at_end left p) bytes (if c then not_read doubled_reference else y)
  find_under bytes true e f = found_here bytes e
  find_under bytes false e f = found_further f

  met_here : (c : Bool) → ltb 0 left ≡ c → Met (under_ref left o) [] (if c then not_read doubled_reference else p [])
  unfolding under_ref
  met_here true e = met (λ more. rw e refl)
  met_here false e = rw nothing (not_met no_5)

  met_further : (b : ℕ) (front : Bytes) (c : Bool) → looks (b ∷ front) ≡ c → {y : Read Tree} → Met o (b ∷ front) y → Met (under_ref left o) (b ∷ front) y
  unfolding under_ref
  met_further b front true e k = refused_before (under_ref left o) (b ∷ front) (λ more. rw e refl) k
  met_further b front false e (met h) = met (λ more. rw e (h more))
  met_further b front false e (went_on {a = a} {rest = rest} h) = went_on {a = a} {rest = rest} (λ more. rw e (h more))
  met_further b front false e (went_past h) = went_past (λ more. rw e (h more))
  met_further b front false e (not_met n) = not_met n

  x_under : Both p o → Both (told_at_end left p) (under_ref left o)
  unfolding told_at_end under_ref
  x_under b = record { finds = λ bytes. find_under bytes _ refl (b.finds bytes); meets = meet }
    where
      meet : (front : Bytes) → Met (under_ref left o) front (told_at_end left p front)
      meet [] = met_here _ refl
      meet (c ∷ front) = met_further c front _ refl (b.meets (c ∷ front))

abbrev up_to : ℕ → State → Reader Tree
up_to n s = nested_with (λ left m. told_at_end left m) n s

x_apply : (s : State) {p o : Reader Tree} → Both p o → (loc : ℕ) {number : Reader ℕ} → Both number number → (name : ℕ → TypeName) (x : Refusal) → x ≢ doubled_reference → Both (read_apply s p loc number name x) (read_apply s o loc number name x)
unfolding read_apply
x_apply s b loc num name x n = x_bind x_mark (λ k. x_bind num (λ i.
    x_if (not (is_name s (name i))) (x_refuse x n) (x_if (not (mark_fits k (name i))) (x_refuse malformed no_5) (x_bind (x_trees (arity s (name i)) b) (λ ts. x_give _)))))

x_tags : (s : State) {p o : Reader Tree} → Both p o → (left : ℕ) → p [] ≡ not_read malformed → (loc : ℕ) → Rows Both (by_tag_with (λ left m. told_at_end left m) s p loc left) (by_tag s o loc left)
unfolding by_tag_with by_tag read_two read_one
x_tags s {p} {o} b left e loc =
    row (x_give _) (row (x_bind x_bool (λ mut. x_bind (x_under left p o e b) (λ t. x_give _))) (row (x_bind x_u32 (λ id. x_bind (x_byte_if is_set) (λ a. x_give _)))
    (row (x_apply s b loc x_byte Builtin malformed no_5) (row (x_apply s b loc x_byte Multiple malformed no_5) (row (x_apply s b loc x_u16 ModuleType unknown_name no_6)
    (row (x_bind (x_name (taken s)) (λ v. x_give _)) (row (x_give _) (row (x_give _) no_rows))))))))

up_to_nothing : (n : ℕ) (s : State) → up_to n s [] ≡ not_read malformed
unfolding nested_with refuse byte_if byte ◌>>=◌ go_on
up_to_nothing zero s = refl
up_to_nothing (suc n) s = refl

x_nested : (n : ℕ) (s : State) → Both (up_to n s) (read_nested n s)
unfolding nested_with read_nested
x_nested zero s = x_refuse malformed no_5
x_nested (suc n) s = x_bind (x_byte_if _) (λ tag. x_bind x_u32 (λ loc. row_at Both (x_refuse malformed no_5) (x_tags s (x_nested n s) n (up_to_nothing n s) loc) tag))

x_type : (s : State) → Both (read_up_to s) (read_type s)
unfolding read_up_to read_type
x_type s = x_nested 64 s

-- ---- records

module _ (s : State) {p o : Reader Tree} (b : Both p o) where
  x_two : (mark : Tree → Tree → Record) → Both (read_two mark p p) (read_two mark o o)
  unfolding read_two
  x_two mark = x_bind b (λ t. x_bind b (λ u. x_give _))

  x_one : (mark : Tree → Record) → Both (read_one mark p) (read_one mark o)
  unfolding read_one
  x_one mark = x_bind b (λ t. x_give _)

  x_loc : (mark : ℕ → Record) → Both (read_one mark read_u32) (read_one mark read_u32)
  unfolding read_one
  x_loc mark = x_bind x_u32 (λ l. x_give _)

  x_loc_type : (mark : ℕ → Tree → Record) → Both (read_two mark read_u32 p) (read_two mark read_u32 o)
  unfolding read_two
  x_loc_type mark = x_bind x_u32 (λ l. x_bind b (λ t. x_give _))

  x_SD : Both (read_SD s) (read_SD s)
  unfolding read_SD
  x_SD = x_bind (x_byte_if _) (λ a. x_bind (x_byte_if _) (λ n. x_bind (x_times n (x_byte_if _)) (λ ps. x_give _)))

  x_SN : Both (read_two SN (name_below (taken s)) read_u32) (read_two SN (name_below (taken s)) read_u32)
  unfolding read_two
  x_SN = x_bind (x_name (taken s)) (λ v. x_bind x_u32 (λ l. x_give _))

  x_NL : Both (read_two NL read_u32 read_bits) (read_two NL read_u32 read_bits)
  unfolding read_two read_bits
  x_NL = x_bind x_u32 (λ l. x_bind (x_bind x_u16 (λ n. x_if (leb 1 n && leb n 256) (x_give n) (x_refuse malformed no_5))) (λ n. x_give _))

  x_MJ : Both (MJ_with p s) (MJ_with o s)
  unfolding MJ_with case_pair_with read_three read_case read_one
  x_MJ = x_bind (x_byte_if _) (λ n. x_bind (x_times n (x_bind (x_bind (x_byte_if _) (λ k. x_give _)) (λ c. x_bind b (λ t1. x_bind b (λ t2. x_give _))))) (λ ps. x_give _))

  x_TS : Both (TS_with p s) (TS_with o s)
  unfolding TS_with pair_with read_two
  x_TS = x_bind (x_byte_if _) (λ n. x_bind (x_times n (x_bind x_u32 (λ id. x_bind b (λ t. x_give _)))) (λ ps. x_bind b (λ t. x_give _)))

  x_NC : Both (read_three NC read_u32 read_kind p) (read_three NC read_u32 read_kind o)
  unfolding read_three read_kind read_one
  x_NC = x_bind x_u32 (λ l. x_bind (x_bind (x_byte_if _) (λ k. x_give _)) (λ kind. x_bind b (λ t. x_give _)))

  x_KP : Both (read_KP s) (read_KP s)
  unfolding read_KP
  x_KP = x_bind x_byte (λ n. x_bind (x_times n (x_name (taken s))) (λ vs. x_give _))

  x_marks : Marks Both (by_mark_with p s) (by_mark_with o s)
  unfolding by_mark_with
  x_marks =
      mark_row x_SD (mark_row (x_loc FV) (mark_row (x_loc NV) (mark_row x_SN (mark_row (x_two JN) (mark_row (x_two SU) (mark_row (x_one UF) (mark_row (x_one RD)
      (mark_row x_TS (mark_row (x_one IN) (mark_row x_NC (mark_row (x_loc_type BC) (mark_row (x_loc_type SC) (mark_row (x_give SV) (mark_row (x_one RM) (mark_row (x_one CN) (mark_row (x_one XP) (mark_row x_NL (mark_row x_MJ (mark_row (x_one UL) (mark_row (x_two JL) (mark_row x_KP no_marks)))))))))))))))))))))

  x_fields : Both (fields_with p s) (fields_with o s)
  unfolding fields_with
  x_fields = x_bind x_byte (λ a. x_bind x_byte (λ c. mark_at Both (x_refuse malformed no_5) x_marks a c))

-- ---- the theorem

module _ {A : Type 0} (p o : Reader A) where
  inner_tag_of : {bytes : Bytes} {y : Read A} → Found p bytes y → y ≡ not_read doubled_reference → InnerTag p bytes
  inner_tag_of (found front rest e h) d = record { front = front; rest = rest; split = e; reached = h }
  inner_tag_of (passed {a = a} seen rest e h) d = never (let t : ◌≡◌ {A = Read A} (got a rest) (not_read doubled_reference) = d in cc)
  inner_tag_of (elsewhere n) d = absurd (n (cc))

  refused_there : {front : Bytes} {y : Read A} → Met o front y → y ≡ not_read doubled_reference → (rest : Bytes) → o (front ++ 1 ∷ rest) ≡ not_read doubled_reference
  refused_there (met h) d rest = h rest
  refused_there (went_on {a = a} {rest = r} h) d rest = never (let t : ◌≡◌ {A = Read A} (got a r) (not_read doubled_reference) = d in cc)
  refused_there (went_past {a = a} {rest = r} h) d rest = never (let t : ◌≡◌ {A = Read A} (got a r) (not_read doubled_reference) = d in cc)
  refused_there (not_met n) d rest = absurd (n (cc))

  exactly : Both p o → (bytes : Bytes) → (o bytes ≡ not_read doubled_reference → InnerTag p bytes) × (InnerTag p bytes → o bytes ≡ not_read doubled_reference)
  exactly b bytes = (λ d. inner_tag_of (b.finds bytes) d, λ i. rw i.split (refused_there (b.meets i.front) i.reached i.rest))

pub at_the_inner_tag : (s : State) (bytes : Bytes) → (read_type s bytes ≡ not_read doubled_reference → InnerTag (read_up_to s) bytes) × (InnerTag (read_up_to s) bytes → read_type s bytes ≡ not_read doubled_reference)
at_the_inner_tag s bytes = exactly (read_up_to s) (read_type s) (x_type s) bytes

back_18 : (more : Bytes) (x : Read Record) → hand_back more x ≡ not_read doubled_reference → x ≡ not_read doubled_reference
unfolding hand_back
back_18 more (got r rest) e = never (cc)
back_18 more (not_read x) e = e

-- of a record: among its first 4,096 bytes
pub record_at_the_inner_tag : (s : State) (bytes : Bytes) → (read_record s bytes ≡ not_read doubled_reference → InnerTag (fields_up_to s) (take max_record bytes))
    × (InnerTag (fields_up_to s) (take max_record bytes) → read_record s bytes ≡ not_read doubled_reference)
unfolding fields_up_to record_with hand_back
record_at_the_inner_tag s bytes =
    let e = exactly (fields_with (read_up_to s) s) (fields_with (read_type s) s) (x_fields s (x_type s)) (take max_record bytes) in
    (λ d. e.0 (back_18 (drop max_record bytes) _ (record_now s bytes ∙ d)), λ i. sym (record_now s bytes) ∙ ap (λ x. hand_back (drop max_record bytes) x) (e.1 i))
