-- A JN or SU whose join succeeds answers 0: its two types are written in the bytes that they were read from, and the join's result in no more. Assumes nothing.
-- First the bytes that a value is read from, by a relation through the readers (`Spent`, `Weighs`); then types placed and written; the join's result by JoinWrites.
use mathlib.Core.Path.{◌≡◌, refl, sym, subst}
use mathlib.Core.Bool.{Bool, true, false, not, ◌&&◌}
use mathlib.Core.List.{List, [], ◌∷◌, ◌++◌, Memᴰ}
use Rattle.std.specs.Prelude.{None, Some}
use Prim.Native.Nat.{ℕ, zero, suc, ◌+◌, ◌-◌, ◌≤◌, ◌<◌}
use native.Mathlib.Omega.{arith}
use lib.ListN.{length, get_or, take, drop, length-take}
use lib.Dec.{ltb, leb, eqb}
use Rattle.std.specs.Prelude.{if◌then◌else◌}
use Rattle.definition.specs.Types.{TypeName, Multiple, Builtin, ModuleType, AbilityMark, TypeValue, UnitType, Ref, Param, Apply, Var, Anything, UnresolvedError, State, Refusal, malformed, unknown_name, doubled_reference, unsound_state, max_depth, Result, ok, ◌>>=◌ as ◌then_run◌}
use Rattle.definition.specs.Store.{count, taken, sp}
use Rattle.definition.specs.Subst.{parts}
use Rattle.definition.specs.Join.{TypingCase, Join, Subtype, join_impl, join, subtype}
use Rattle.definition.specs.Write.{Bytes, write}
use Rattle.definition.specs.Reader.{Read, got, not_read, Reader, give, refuse, go_on, ◌>>=◌, byte, read_u16, read_u32, byte_if, byte_to, read_bool, name_below, times, read_one, read_two, read_three}
use Rattle.definition.specs.Trees.{Tree, unit_tree, anything_tree, error_tree, ref_tree, param_tree, apply_tree, var_tree, Trees, no_trees, ◌then◌}
use Rattle.definition.specs.Trees.{read_trees, mark_of, read_mark, mark_fits, arity, under_ref, read_apply, by_tag, is_set, is_name, read_nested, read_type}
use Rattle.definition.specs.Record.{Record, SD, FV, NV, SN, JN, SU, UF, RD, IN, TS, NC, BC, SC, SV, RM, CN, XP, read_kind, read_SD, read_pair, read_TS, by_mark, fields_of, read_fields, max_record, hand_back, read_record, NL, read_bits, MJ, read_case, is_many, read_case_pair, read_MJ, UL, JL, KP, read_KP}
use Rattle.definition.specs.Build.{build, build_all}
use Rattle.definition.specs.Step.{Answer, refusal, max_payload, answer_with, answer_within, apart, most_of, reply, usable, two_types, lent, run, step, behind, tail_of, links_of_two}
use Rattle.definition.specs.Demand.{JoinCall, outcome, run_calls, Event, nothing_done, events_by, lent_events, events, one_event}
use Rattle.theorems.proofs.DemandOrder.{All, Sound}
use Rattle.theorems.proofs.LawsAnswer.{sound_of, behind_length, counted_short}
use Rattle.theorems.proofs.LawsPost.{grown_refl, Post, p_ok, post_map, bind_post}
use Rattle.theorems.proofs.SoundFacts.{facts}
use Rattle.theorems.proofs.Soundness.{le_test}
use Rattle.theorems.proofs.DemandMade.{OneJoin, not_placed, joined, JN_calls, SU_calls, JL_calls}
use Rattle.theorems.proofs.SoundRead.{Fine, fine_unit, fine_anything, fine_error, fine_ref, fine_param, fine_apply, fine_var, Fines, fine_none, fine_then, FineRecord, ReadWell, given, well_read}
use Rattle.theorems.proofs.DemandWent.{WentTo}
use Rattle.theorems.proofs.DemandRuns.{place_went}
use Rattle.theorems.proofs.JoinWrites.{wrote, wrote_all, name_size, head_size, wrote_of, ref_wrote, apply_wrote, wrote_kept, wrote_all_kept, post_both, post_is, sp_value, join_impl_slim}

-- ---- the bytes that a type is read from

unfoldable mutual
  pub tree_size : Tree → ℕ
  tree_size (unit_tree loc) = 5
  tree_size (anything_tree loc) = 5
  tree_size (error_tree loc) = 5
  tree_size (ref_tree loc mut t) = 6 + tree_size t
  tree_size (param_tree loc id abilities) = 10
  tree_size (apply_tree loc k n ts) = name_size n + trees_size ts
  tree_size (var_tree loc v) = 7

  pub trees_size : Trees → ℕ
  trees_size no_trees = 0
  trees_size (◌then◌ t ts) = tree_size t + trees_size ts

-- what is read and what is left make up n bytes at most. f: the bytes that a value takes at most
pub data Spent {A : Type 0} (f : A → ℕ) (n : ℕ) : Read A → Type 0 where
  spent : {a : A} {rest : Bytes} → f a + length rest ≤ n → Spent f n (got a rest)
  unread : {x : Refusal} → Spent f n (not_read x)

more : {A : Type 0} {f : A → ℕ} {n m : ℕ} {r : Read A} → n ≤ m → Spent f n r → Spent f m r
more l (spent {a = a} {rest = rest} h) = spent {a = a} {rest = rest} (omega arith)
more l unread = unread

-- k bytes have been read before
abbrev pub Pays : {A : Type 0} → ℕ → (A → ℕ) → Reader A → Type 0
Pays k f m = (bytes : Bytes) → Spent f (k + length bytes) (m bytes)

pays_then : {A B : Type 0} (f : A → ℕ) (g : B → ℕ) (k : ℕ) (m : Reader A) (h : A → Reader B) → Pays 0 f m → ((a : A) → Pays (k + f a) g (h a)) → Pays k g (m >>= h)
unfolding ◌>>=◌ go_on
pays_then {A} {B} f g k m h p q bytes = go (m bytes) (p bytes)
  where
    go : (r : Read A) → Spent f (0 + length bytes) r → Spent g (k + length bytes) (go_on r h)
    go (got a rest) (spent l) = more (omega arith) (q a rest)
    go (not_read x) unread = unread

pays_give : {A : Type 0} (f : A → ℕ) (k : ℕ) (a : A) → f a ≤ k → Pays k f (give a)
unfolding give
pays_give f k a h bytes = spent {a = a} {rest = bytes} (omega arith)

pays_refuse : {A : Type 0} (f : A → ℕ) (k : ℕ) (x : Refusal) → Pays k f (refuse x)
unfolding refuse
pays_refuse f k x bytes = unread

pays_if : {A : Type 0} (f : A → ℕ) (k : ℕ) (b : Bool) {x y : Reader A} → Pays k f x → Pays k f y → Pays k f (if b then x else y)
pays_if f k true p q = p
pays_if f k false p q = q

pays_byte : Pays 0 (λ b. 1) byte
unfolding byte
pays_byte [] = unread
pays_byte (b ∷ bytes) = spent {a = b} {rest = bytes} (omega arith)

pays_u16 : Pays 0 (λ n. 2) read_u16
unfolding read_u16
pays_u16 = pays_then (λ b. 1) (λ n. 2) 0 byte _ pays_byte (λ a. pays_then (λ b. 1) (λ n. 2) 1 byte _ pays_byte (λ b. pays_give (λ n. 2) 2 _ (omega arith)))

pays_u32 : Pays 0 (λ n. 4) read_u32
unfolding read_u32
pays_u32 =
    pays_then (λ b. 1) (λ n. 4) 0 byte _ pays_byte (λ a. pays_then (λ b. 1) (λ n. 4) 1 byte _ pays_byte (λ b. pays_then (λ b. 1) (λ n. 4) 2 byte _ pays_byte (λ c. pays_then (λ b. 1) (λ n. 4) 3 byte _ pays_byte (λ d.
    pays_give (λ n. 4) 4 _ (omega arith)))))

pays_byte_if : (allowed : ℕ → Bool) → Pays 0 (λ b. 1) (byte_if allowed)
unfolding byte_if
pays_byte_if allowed = pays_then (λ b. 1) (λ b. 1) 0 byte _ pays_byte (λ b. pays_if (λ b. 1) 1 (allowed b) (pays_give (λ b. 1) 1 b (omega arith)) (pays_refuse (λ b. 1) 1 malformed))

pays_bool : Pays 0 (λ b. 1) read_bool
unfolding read_bool read_one
pays_bool = pays_then (λ b. 1) (λ b. 1) 0 (byte_to 1) _ (pays_byte_if _) (λ b. pays_give (λ b. 1) 1 _ (omega arith))

pays_mark : Pays 0 (λ k. 1) read_mark
unfolding read_mark mark_of
pays_mark = pays_then (λ b. 1) (λ k. 1) 0 byte _ pays_byte (λ b. go b (eqb b 0) (leb 16 b && is_set (b - 16)))
  where
    go : (b : ℕ) (z m : Bool) → Pays {A = AbilityMark} 1 (λ k. 1) (elim (if z then Some None else if m then Some (Some (b - 16)) else None) as (λ o. Reader AbilityMark) [ None ↦ refuse malformed | Some k ↦ give k ])
    go b true m = pays_give (λ k. 1) 1 None (omega arith)
    go b false true = pays_give (λ k. 1) 1 (Some (b - 16)) (omega arith)
    go b false false = pays_refuse (λ k. 1) 1 malformed

pays_name : (known : ℕ) → Pays 0 (λ n. 2) (name_below known)
unfolding name_below
pays_name known = pays_then (λ n. 2) (λ n. 2) 0 read_u16 _ pays_u16 (λ n. pays_if (λ n. 2) 2 (ltb n known) (pays_give (λ n. 2) 2 n (omega arith)) (pays_refuse (λ n. 2) 2 _))

module _ (s : State) where
  pays_trees : (n : ℕ) (m : Reader Tree) → Pays 0 tree_size m → Pays 0 trees_size (read_trees n m)
  unfolding read_trees tree_size trees_size
  pays_trees zero m p = pays_give trees_size 0 no_trees (omega arith)
  pays_trees (suc n) m p =
      pays_then tree_size trees_size 0 m _ p (λ t. pays_then trees_size trees_size (0 + tree_size t) (read_trees n m) _ (pays_trees n m p) (λ ts. pays_give trees_size (0 + tree_size t + trees_size ts) (◌then◌ t ts) (omega arith)))

  module _ (m : Reader Tree) (p : Pays 0 tree_size m) (loc : ℕ) where
    -- w: how many bytes the number takes
    pays_apply : (w : ℕ) (number : Reader ℕ) → Pays 0 (λ n. w) number → (name : ℕ → TypeName) (x : Refusal) → ((n : ℕ) → name_size (name n) ≡ 6 + w) → Pays 5 tree_size (read_apply s m loc number name x)
    unfolding read_apply tree_size trees_size
    pays_apply w number q name x e = pays_then (λ b. 1) tree_size 5 read_mark _ pays_mark (λ k. pays_then (λ b. w) tree_size 6 number _ q (λ n.
        pays_if tree_size (6 + w) (not (is_name s (name n))) (pays_refuse tree_size (6 + w) x) (pays_if tree_size (6 + w) (not (mark_fits k (name n))) (pays_refuse tree_size (6 + w) malformed)
        (pays_then trees_size tree_size (6 + w) (read_trees (arity s (name n)) m) _ (pays_trees (arity s (name n)) m p) (λ ts. pays_give tree_size (6 + w + trees_size ts) (apply_tree loc k (name n) ts) (omega (arith, e n)))))))

    pays_under : (left : ℕ) → Pays 0 tree_size (under_ref left m)
    unfolding under_ref
    pays_under left bytes = go (ltb 0 left && eqb (get_or bytes 0 0) 1)
      where
        go : (c : Bool) → Spent tree_size (0 + length bytes) (if c then not_read doubled_reference else m bytes)
        go true = unread
        go false = p bytes

    pays_ref : (left : ℕ) → Pays 5 tree_size (read_two (ref_tree loc) read_bool (under_ref left m))
    unfolding read_two tree_size trees_size
    pays_ref left = pays_then (λ b. 1) tree_size 5 read_bool _ pays_bool (λ b. pays_then tree_size tree_size 6 (under_ref left m) _ (pays_under left) (λ t. pays_give tree_size (6 + tree_size t) (ref_tree loc b t) (omega arith)))

    pays_param : Pays 5 tree_size (read_two (param_tree loc) read_u32 (byte_if is_set))
    unfolding read_two tree_size trees_size
    pays_param = pays_then (λ b. 4) tree_size 5 read_u32 _ pays_u32 (λ id. pays_then (λ b. 1) tree_size 9 (byte_if is_set) _ (pays_byte_if is_set) (λ a. pays_give tree_size 10 (param_tree loc id a) (omega arith)))

    pays_builtin : Pays 5 tree_size (read_apply s m loc byte Builtin malformed)
    unfolding name_size
    pays_builtin = pays_apply 1 byte pays_byte Builtin malformed (λ n. refl)

    pays_list : Pays 5 tree_size (read_apply s m loc byte Multiple malformed)
    unfolding name_size
    pays_list = pays_apply 1 byte pays_byte Multiple malformed (λ n. refl)

    pays_struct : Pays 5 tree_size (read_apply s m loc read_u16 ModuleType unknown_name)
    unfolding name_size
    pays_struct = pays_apply 2 read_u16 pays_u16 ModuleType unknown_name (λ n. refl)

    pays_var : Pays 5 tree_size (read_one (var_tree loc) (name_below (taken s)))
    unfolding read_one tree_size trees_size
    pays_var = pays_then (λ b. 2) tree_size 5 (name_below (taken s)) _ (pays_name (taken s)) (λ v. pays_give tree_size 7 (var_tree loc v) (omega arith))

    abbrev AllPay : List (Reader Tree) → Type 0
    AllPay [] = Unit {0}
    AllPay (r ∷ rs) = Pays 5 tree_size r × AllPay rs

    pays_at : (rs : List (Reader Tree)) → AllPay rs → (i : ℕ) → Pays 5 tree_size (get_or rs i (refuse malformed))
    pays_at [] a i = pays_refuse tree_size 5 malformed
    pays_at (r ∷ rs) a zero = a.0
    pays_at (r ∷ rs) a (suc i) = pays_at rs a.1 i

    pays_by_tag : (left tag : ℕ) → Pays 5 tree_size (get_or (by_tag s m loc left) tag (refuse malformed))
    unfolding by_tag tree_size trees_size
    pays_by_tag left tag = pays_at (by_tag s m loc left) (
      pays_give tree_size 5 (unit_tree loc) (omega arith),
      (pays_ref left, (pays_param, (pays_builtin, (pays_list, (pays_struct, (pays_var, (pays_give tree_size 5 (anything_tree loc) (omega arith), (pays_give tree_size 5 (error_tree loc) (omega arith), tt)))))))),
    ) tag

  pub pays_nested : (n : ℕ) → Pays 0 tree_size (read_nested n s)
  unfolding read_nested
  pays_nested zero = pays_refuse tree_size 0 malformed
  pays_nested (suc n) =
      pays_then (λ b. 1) tree_size 0 (byte_to 8) _ (pays_byte_if _) (λ tag. pays_then (λ b. 4) tree_size 1 read_u32 _ pays_u32 (λ loc. pays_by_tag (read_nested n s) (pays_nested n) loc n tag))

  pub pays_type : Pays 0 tree_size (read_type s)
  unfolding read_type
  pays_type = pays_nested 64

-- ---- the types of a JN, SU, JL or MJ

unfoldable pub many_size : List (TypingCase × Tree × Tree) → ℕ
many_size [] = 0
many_size ((c, t1, t2) ∷ ps) = tree_size t1 + tree_size t2 + many_size ps

unfoldable pub weight : Record → ℕ
weight (SD abilities params) = 0
weight (FV loc) = 0
weight (NV loc) = 0
weight (SN v loc) = 0
weight (NL loc bits) = 0
weight (JN t1 t2) = tree_size t1 + tree_size t2
weight (SU t1 t2) = tree_size t1 + tree_size t2
weight (UF t) = 0
weight (RD t) = 0
weight (IN t) = 0
weight (TS pairs t) = 0
weight (NC loc kind t) = 0
weight (BC loc t) = 0
weight (SC loc t) = 0
weight SV = 0
weight (RM t) = 0
weight (CN t) = 0
weight (XP t) = 0
weight (MJ pairs) = many_size pairs
weight (KP listed) = 0
weight (UL t) = 0
weight (JL t1 t2) = tree_size t1 + tree_size t2

pub data Weighs (n : ℕ) : Read Record → Type 0 where
  weighs : {r : Record} {rest : Bytes} → weight r ≤ n → Weighs n (got r rest)
  not_weighed : {x : Refusal} → Weighs n (not_read x)

module _ (n : ℕ) where
  -- whatever it is given
  abbrev Always : Reader Record → Type 0
  Always m = (bytes : Bytes) → Weighs n (m bytes)

  always_then : {A : Type 0} (m : Reader A) (h : A → Reader Record) → ((a : A) → Always (h a)) → Always (m >>= h)
  unfolding ◌>>=◌ go_on
  always_then {A} m h f bytes = go (m bytes)
    where
      go : (r : Read A) → Weighs n (go_on r h)
      go (got a rest) = f a rest
      go (not_read x) = not_weighed

  always_give : (r : Record) → weight r ≡ 0 → Always (give r)
  unfolding give
  always_give r e bytes = weighs {r = r} {rest = bytes} (omega (arith, e))

  -- given n bytes at most
  abbrev Light : Reader Record → Type 0
  Light m = (bytes : Bytes) → length bytes ≤ n → Weighs n (m bytes)

  light : {m : Reader Record} → Always m → Light m
  light f bytes h = f bytes

  light_pays : (m : Reader Record) → Pays 0 weight m → Light m
  light_pays m p bytes h = go (m bytes) (p bytes)
    where
      go : (r : Read Record) → Spent weight (0 + length bytes) r → Weighs n r
      go (got r rest) (spent l) = weighs {r = r} {rest = rest} (omega arith)
      go (not_read x) unread = not_weighed

  light_refuse : Light (refuse malformed)
  unfolding refuse
  light_refuse bytes h = not_weighed

  light_if : (b : Bool) {x y : Reader Record} → Light x → Light y → Light (if b then x else y)
  light_if true p q = p
  light_if false p q = q

  module _ (s : State) where
    light_two : (mark : Tree → Tree → Record) → ((t1 t2 : Tree) → weight (mark t1 t2) ≡ tree_size t1 + tree_size t2) → Light (read_two mark (read_type s) (read_type s))
    unfolding read_two
    light_two mark e = light_pays _ (pays_then tree_size weight 0 (read_type s) _ (pays_type s) (λ t1. pays_then tree_size weight (0 + tree_size t1) (read_type s) _ (pays_type s) (λ t2. pays_give weight (0 + tree_size t1 + tree_size t2) (mark t1 t2) (omega (arith, e t1 t2)))))

    light_one : (mark : Tree → Record) → ((t : Tree) → weight (mark t) ≡ 0) → Light (read_one mark (read_type s))
    unfolding read_one
    light_one mark e = light (always_then (read_type s) _ (λ t. always_give (mark t) (e t)))

    light_loc : (mark : ℕ → Record) → ((loc : ℕ) → weight (mark loc) ≡ 0) → Light (read_one mark read_u32)
    unfolding read_one
    light_loc mark e = light (always_then read_u32 _ (λ loc. always_give (mark loc) (e loc)))

    light_loc_type : (mark : ℕ → Tree → Record) → ((loc : ℕ) (t : Tree) → weight (mark loc t) ≡ 0) → Light (read_two mark read_u32 (read_type s))
    unfolding read_two
    light_loc_type mark e = light (always_then read_u32 _ (λ loc. always_then (read_type s) _ (λ t. always_give (mark loc t) (e loc t))))

    light_SD : Light (read_SD s)
    unfolding read_SD weight
    light_SD = light (always_then (byte_to 15) _ (λ a. always_then (byte_to 8) _ (λ n. always_then (times n (byte_to 31)) _ (λ ps. always_give (SD a ps) refl))))

    light_SN : Light (read_two SN (name_below (taken s)) read_u32)
    unfolding read_two weight
    light_SN = light (always_then (name_below (taken s)) _ (λ v. always_then read_u32 _ (λ loc. always_give (SN v loc) refl)))

    light_NL : Light (read_two NL read_u32 read_bits)
    unfolding read_two weight
    light_NL = light (always_then read_u32 _ (λ loc. always_then read_bits _ (λ n. always_give (NL loc n) refl)))

    light_TS : Light (read_TS s)
    unfolding read_TS weight
    light_TS = light (always_then (byte_to 8) _ (λ n. always_then (times n (read_pair s)) _ (λ ps. always_then (read_type s) _ (λ t. always_give (TS ps t) refl))))

    light_NC : Light (read_three NC read_u32 read_kind (read_type s))
    unfolding read_three weight
    light_NC = light (always_then read_u32 _ (λ loc. always_then read_kind _ (λ k. always_then (read_type s) _ (λ t. always_give (NC loc k t) refl))))

    pays_case : Pays 0 (λ k. 1) read_case
    unfolding read_case read_one
    pays_case = pays_then (λ b. 1) (λ k. 1) 0 (byte_to 1) _ (pays_byte_if _) (λ b. pays_give (λ k. 1) 1 _ (omega arith))

    pays_many : (k : ℕ) → Pays 0 many_size (times k (read_case_pair s))
    unfolding times read_case_pair read_three many_size
    pays_many zero = pays_give many_size 0 [] (omega arith)
    pays_many (suc k) =
        pays_then (λ (p : TypingCase × Tree × Tree). tree_size p.1 + tree_size p.2) many_size 0 _ _
        (pays_then (λ c. 1) (λ (p : TypingCase × Tree × Tree). tree_size p.1 + tree_size p.2) 0 read_case _ pays_case (λ c.
        pays_then tree_size (λ (p : TypingCase × Tree × Tree). tree_size p.1 + tree_size p.2) 1 (read_type s) _ (pays_type s) (λ t1.
        pays_then tree_size (λ (p : TypingCase × Tree × Tree). tree_size p.1 + tree_size p.2) (1 + tree_size t1) (read_type s) _ (pays_type s) (λ t2.
        pays_give (λ (p : TypingCase × Tree × Tree). tree_size p.1 + tree_size p.2) (1 + tree_size t1 + tree_size t2) (c, t1, t2) (omega arith)))))
        (λ p. pays_then many_size many_size (0 + (tree_size p.1 + tree_size p.2)) (times k (read_case_pair s)) _ (pays_many k)
        (λ ps. pays_give many_size (0 + (tree_size p.1 + tree_size p.2) + many_size ps) (p ∷ ps) (omega arith)))

    light_MJ : Light (read_MJ s)
    unfolding read_MJ weight
    light_MJ = light_pays _ (pays_then (λ b. 1) weight 0 (byte_if is_many) _ (pays_byte_if is_many) (λ k. pays_then many_size weight 1 (times k (read_case_pair s)) _ (pays_many k) (λ ps. pays_give weight (1 + many_size ps) (MJ ps) (omega arith))))

    light_KP : Light (read_KP s)
    unfolding read_KP weight
    light_KP = light (always_then byte _ (λ n. always_then (times n (name_below (taken s))) _ (λ vs. always_give (KP vs) refl)))

    abbrev AllLight : List (ℕ × ℕ × Reader Record) → Type 0
    AllLight [] = Unit {0}
    AllLight (e ∷ es) = Light e.2 × AllLight es

    light_fields_of : (es : List (ℕ × ℕ × Reader Record)) → AllLight es → (a b : ℕ) → Light (fields_of es a b)
    unfolding fields_of
    light_fields_of [] h a b = light_refuse
    light_fields_of (e ∷ es) h a b = light_if (eqb a e.0 && eqb b e.1) h.0 (light_fields_of es h.1 a b)

    light_marks : AllLight (by_mark s)
    unfolding by_mark weight
    light_marks = (
      light_SD,
      (
        light_loc FV (λ l. refl),
        (
          light_loc NV (λ l. refl),
          (
            light_SN,
            (
              light_two JN (λ a b. refl),
              (
                light_two SU (λ a b. refl),
                (
                  light_one UF (λ t. refl),
                  (light_one RD (λ t. refl), (light_TS, (light_one IN (λ t. refl), (light_NC, (light_loc_type BC (λ l t. refl), (light_loc_type SC (λ l t. refl), (light (always_give SV refl), (light_one RM (λ t. refl), (light_one CN (λ t. refl), (light_one XP (λ t. refl), (light_NL, (light_MJ, (light_one UL (λ t. refl), (light_two JL (λ a b. refl), (light_KP, tt))))))))))))))),
                ),
              ),
            ),
          ),
        ),
      ),
    )

    light_fields : Light (read_fields s)
    unfolding read_fields byte ◌>>=◌ go_on
    light_fields [] h = not_weighed
    light_fields (a ∷ []) h = not_weighed
    light_fields (a ∷ b ∷ bytes) h = light_fields_of (by_mark s) light_marks a b bytes (omega arith)

-- the types of a JN, SU or MJ are read from 4,096 bytes at most, as many as a payload may have
pub record_weighs : (s : State) (bytes : Bytes) → Weighs max_payload (read_record s bytes)
unfolding read_record hand_back max_record max_payload
record_weighs s bytes = back (read_fields s (take max_record bytes)) (light_fields max_payload s (take max_record bytes) (omega (arith, length-take max_record bytes)))
  where
    back : (r : Read Record) → Weighs max_payload r → Weighs max_payload (hand_back (drop max_record bytes) r)
    back (got r rest) (weighs h) = weighs {r = r} {rest = rest ++ drop max_record bytes} h
    back (not_read x) not_weighed = not_weighed

-- ---- types placed: each is written in the bytes that it was read from

pub record Put (ar : TypeName → ℕ) (size : ℕ) (S : State) (t : ℕ) : Type 0 where
  pub sound : Sound ar S
  pub t_in : t < count S
  pub written : wrote S t ≡ size

pub record PutAll (ar : TypeName → ℕ) (size : ℕ) (S : State) (ts : List ℕ) : Type 0 where
  pub sound : Sound ar S
  pub ts_in : All (λ t. t < count S) ts
  pub written : wrote_all S ts ≡ size

-- .. if the state is sound and has t
abbrev PutIn : (TypeName → ℕ) → ℕ → State → ℕ → Type 0
PutIn ar size S t = Sound ar S → t < count S → wrote S t ≡ size

module _ {ar : TypeName → ℕ} where
  put : {S : State} {size : ℕ} {m : Result (State × ℕ)} → Post ar S (WentTo ar S) m → Post ar S (PutIn ar size) m → Post ar S (Put ar size) m
  put p q = post_map (λ S' t g x. record { sound = x.0.sound; t_in = x.0.t_in; written = x.1 x.0.sound x.0.t_in }) (post_both p q)

  leaf : {S : State} → Sound ar S → (loc size : ℕ) (L : TypeValue) → head_size L ≡ size → parts L ≡ [] → Post ar S (PutIn ar size) (sp S loc L)
  unfolding wrote_all
  leaf s loc size L e n = post_map (λ S' t g is s' i. let h = wrote_of s' t L is i in let k : wrote S' t ≡ head_size L + 0 = rw n at h in omega (arith, k, e)) (sp_value s loc L)

  module _ {vars : ℕ} where
    mutual
      unfolding build build_all tree_size trees_size wrote_all head_size parts

      pub place_put : {t : Tree} → Fine ar vars t → {S : State} → Sound ar S → vars ≤ taken S → Post ar S (Put ar (tree_size t)) (build t S)
      place_put (fine_unit {loc = loc}) s h = put (place_went fine_unit s h) (leaf s loc 5 UnitType refl refl)
      place_put (fine_anything {loc = loc}) s h = put (place_went fine_anything s h) (leaf s loc 5 Anything refl refl)
      place_put (fine_error {loc = loc}) s h = put (place_went fine_error s h) (leaf s loc 5 UnresolvedError refl refl)
      place_put (fine_ref {loc = loc} {mut = mut} f) s h = put (place_went (fine_ref f) s h) (bind_post _ (place_put f s h) (λ S1 t g p.
          post_map (λ S2 n g2 is s2 i. omega (arith, ref_wrote s2 n mut t is i, wrote_kept p.sound s2 g2 t p.t_in, p.written)) (sp_value p.sound loc (Ref mut t))))
      place_put (fine_param {loc = loc} {id = id} {abilities = a}) s h = put (place_went fine_param s h) (leaf s loc 10 (Param id a) refl refl)
      place_put (fine_apply {loc = loc} {k = k} {n = n} fs e) s h = put (place_went (fine_apply fs e) s h) (bind_post _ (place_all_put fs s h) (λ S1 ts g p.
          post_map (λ S2 t g2 is s2 i. omega (arith, apply_wrote s2 t k n ts is i, wrote_all_kept p.sound s2 g2 ts p.ts_in, p.written)) (sp_value p.sound loc (Apply k n ts))))
      place_put (fine_var {loc = loc} {v = v} l) s h = put (place_went (fine_var l) s h) (leaf s loc 7 (Var v) refl refl)

      pub place_all_put : {ts : Trees} → Fines ar vars ts → {S : State} → Sound ar S → vars ≤ taken S → Post ar S (PutAll ar (trees_size ts)) (build_all ts S)
      place_all_put fine_none {S} s h = p_ok {b = []} (grown_refl S) (record { sound = s; ts_in = tt; written = refl })
      place_all_put (fine_then f fs) s h =
          bind_post _ (place_put f s h) (λ S1 t g p. bind_post _ (place_all_put fs p.sound (omega (arith, g.g_vars))) (λ S2 ts g2 q. p_ok {b = t ∷ ts} (grown_refl S2) (record {
            sound = q.sound;
            ts_in = (omega (arith, p.t_in, g2.g_nodes), q.ts_in);
            written = omega (arith, p.written, q.written, wrote_kept p.sound q.sound g2 t p.t_in);
          })))

-- ---- the payload of a JN or SU

pub length_wrote : (S : State) (t : ℕ) → length (write S t) ≡ wrote S t
unfolding wrote
length_wrote S t = refl

pub two_payload : {ar : TypeName → ℕ} (c : TypingCase) {S : State} → Sound ar S → (t1 t2 : Tree) → Fine ar (taken S) t1 → Fine ar (taken S) t2
    → Post ar S (λ S' p. length p + 5 ≤ tree_size t1 + tree_size t2) (two_types (λ s l r. join_impl max_depth s c l r) S t1 t2)
unfolding two_types
two_payload c {S} s t1 t2 f1 f2 =
    bind_post _ (place_put f1 s (omega arith)) (λ S1 l g1 p.
    bind_post _ (place_put f2 p.sound g1.g_vars) (λ S2 r g2 q.
    bind_post _ (join_impl_slim max_depth S2 c l r q.sound (omega (arith, p.t_in, g2.g_nodes)) q.t_in) (λ S3 t g3 n.
    p_ok {b = write S3 t} (grown_refl S3) (omega (arith, length_wrote S3 t, n, p.written, q.written, wrote_kept p.sound q.sound g2 l p.t_in)))))

abbrev pub two_of : TypingCase → Tree → Tree → Record
two_of Join t1 t2 = JN t1 t2
two_of Subtype t1 t2 = SU t1 t2

pub fitting : (most : ℕ) (tail : Bytes) (S S' : State) (p : Bytes) → length (behind tail p) ≤ most → answer_within most tail S (ok (S', p)) ≡ record { number = 0; payload = behind tail p; state = S' }
unfolding answer_within answer_with
fitting most tail S S' p h = rw (le_test (length (behind tail p)) most h) refl

pub run_fits : {ar : TypeName → ℕ} {S : State} → Sound ar S → (c : TypingCase) (t1 t2 : Tree) → FineRecord ar (taken S) (two_of c t1 t2) → weight (two_of c t1 t2) ≤ max_payload → (S' : State) (p : Bytes)
    → run S (two_of c t1 t2) ≡ ok (S', p) → reply S (two_of c t1 t2) ≡ record { number = 0; payload = p; state = S' }
unfolding reply apart most_of tail_of behind run join subtype weight
run_fits {S = S} s Join t1 t2 f h S' p e = rw e (fitting max_payload [] S S' p (omega (arith, h, post_is (two_payload Join s t1 t2 f.0 f.1) e)))
run_fits {S = S} s Subtype t1 t2 f h S' p e = rw e (fitting max_payload [] S S' p (omega (arith, h, post_is (two_payload Subtype s t1 t2 f.0 f.1) e)))

tail_short : (S : State) (t1 t2 : Tree) → length (tail_of S (links_of_two t1 t2)) ≤ 4
unfolding tail_of
tail_short S t1 t2 = counted_short _

-- a JL's payload has room for its count: the join writes five bytes less than its types
pub links_fit : {ar : TypeName → ℕ} {S : State} → Sound ar S → (t1 t2 : Tree) → FineRecord ar (taken S) (JL t1 t2) → weight (JL t1 t2) ≤ max_payload → (S' : State) (p : Bytes)
    → run S (JL t1 t2) ≡ ok (S', p) → reply S (JL t1 t2) ≡ record { number = 0; payload = behind (tail_of S (links_of_two t1 t2)) p; state = S' }
unfolding reply apart most_of tail_of run join weight
links_fit {S = S} s t1 t2 f h S' p e =
    rw e (fitting max_payload (tail_of S (links_of_two t1 t2)) S S' p (omega (arith, h, post_is (two_payload Join s t1 t2 f.0 f.1) e, tail_short S t1 t2, behind_length (tail_of S (links_of_two t1 t2)) p)))

-- ---- a JN, SU or JL whose join succeeds answers 0, with the state that the join leaves

-- such a record, where it was read
abbrev Fitted : State → Record → Type 0
Fitted s r = Sound (arity s) s → FineRecord (arity s) (taken s) r → weight r ≤ max_payload → (s' : State) (p : Bytes) → run s r ≡ ok (s', p) → reply s r ≡ record { number = 0; payload = behind (tail_of s (apart r)) p; state = s' }

two_fitted : (c : TypingCase) (s : State) (t1 t2 : Tree) → Fitted s (two_of c t1 t2)
unfolding apart tail_of behind
two_fitted Join s t1 t2 h f w s' p e = run_fits h Join t1 t2 f w s' p e
two_fitted Subtype s t1 t2 h f w s' p e = run_fits h Subtype t1 t2 f w s' p e

links_fitted : (s : State) (t1 t2 : Tree) → Fitted s (JL t1 t2)
unfolding apart
links_fitted s t1 t2 h f w s' p e = links_fit h t1 t2 f w s' p e

one_run : {m : Result (State × Bytes)} {l : List JoinCall} → OneJoin m l → (a : JoinCall) → Memᴰ a l → (s : State) (t : ℕ) → outcome a ≡ ok (s, t) → m ≡ ok (s, write s t)
unfolding ◌then_run◌
one_run not_placed a mem s t e = absurd (mathlib.Core.List.Memᴰ.not-nil mem)
one_run (joined b) a mem s t e = let d : a ≡ b = mathlib.Core.List.Memᴰ.eq_of_singleton mem in let k : outcome b ≡ ok (s, t) = rw d at e in rw k refl

two_types_made : (c : TypingCase) (s : State) (t1 t2 : Tree) → OneJoin (run s (two_of c t1 t2)) (run_calls s (two_of c t1 t2))
two_types_made Join s t1 t2 = JN_calls s t1 t2
two_types_made Subtype s t1 t2 = SU_calls s t1 t2

-- each is one event
two_events : (c : TypingCase) (s : State) (t1 t2 : Tree) → lent_events s (got (two_of c t1 t2) []) ≡ one_event s (two_of c t1 t2)
unfolding lent_events events_by apart
two_events Join s t1 t2 = refl
two_events Subtype s t1 t2 = refl

links_events : (s : State) (t1 t2 : Tree) → lent_events s (got (JL t1 t2) []) ≡ one_event s (JL t1 t2)
unfolding lent_events events_by apart
links_events s t1 t2 = refl

pub calls_of : {e x : Event} (a : JoinCall) → Memᴰ e (x ∷ []) → Memᴰ a e.calls → Memᴰ a x.calls
calls_of a m n = subst (λ (y : Event). Memᴰ a y.calls) (mathlib.Core.List.Memᴰ.eq_of_singleton m) n

pub no_calls : (s : State) {e : Event} (a : JoinCall) → Memᴰ e (nothing_done s) → Memᴰ a e.calls → ⊥
unfolding nothing_done
no_calls s a m n = absurd (mathlib.Core.List.Memᴰ.not-nil (calls_of a m n))

module _ (s : State) (bytes : Bytes) (buffer : ℕ) (r : Record) (e : read_record s bytes ≡ got r []) (fit : Fitted s r) (made : OneJoin (run s r) (run_calls s r)) (one : lent_events s (got r []) ≡ one_event s r) where
  one_join_answers : (x : Event) → Memᴰ x (events s bytes buffer) → (a : JoinCall) → Memᴰ a x.calls → (s' : State) (t : ℕ) → outcome a ≡ ok (s', t)
      → step s bytes buffer ≡ record { number = 0; payload = behind (tail_of s (apart r)) (write s' t); state = s' }
  unfolding step events lent one_event
  one_join_answers x mem a call s' t d = go (usable s bytes buffer) refl mem
    where
      fine : {n : ℕ} → ReadWell ⊥ s n (got r []) → FineRecord (arity s) (taken s) r
      fine (given f i l) = f.0

      light : Weighs max_payload (got r []) → weight r ≤ max_payload
      light (weighs w) = w

      go : (b : Bool) → usable s bytes buffer ≡ b → Memᴰ x (elim b as (λ x. List Event) [ true ↦ lent_events s (read_record s bytes) | false ↦ nothing_done s ])
          → ◌≡◌ {A = Answer} (elim b [ true ↦ lent s (read_record s bytes) | false ↦ refusal s unsound_state ]) (record { number = 0; payload = behind (tail_of s (apart r)) (write s' t); state = s' })
      go true u m =
          let m' : Memᴰ x (lent_events s (got r [])) = subst (λ (y : Read Record). Memᴰ x (lent_events s y)) e m in
          let n : Memᴰ a (run_calls s r) = calls_of a (subst (λ (l : List Event). Memᴰ x l) one m') call in
          let f = fine (subst (λ (y : Read Record). ReadWell ⊥ s (length bytes - 1) y) e (well_read ⊥ s bytes (λ h. absurd h))) in
          let w = light (subst (λ (y : Read Record). Weighs max_payload y) e (record_weighs s bytes)) in
          subst (λ (y : Read Record). lent s y ≡ record { number = 0; payload = behind (tail_of s (apart r)) (write s' t); state = s' }) (sym e)
          (fit (facts s (sound_of s bytes buffer u)) f w s' (write s' t) (one_run made a n s' t d))
      go false u m = absurd (no_calls s a m call)

pub join_answers_0 : (s : State) (bytes : Bytes) (buffer : ℕ) (c : TypingCase) (t1 t2 : Tree) → read_record s bytes ≡ got (two_of c t1 t2) [] → (e : Event) → Memᴰ e (events s bytes buffer)
    → (a : JoinCall) → Memᴰ a e.calls → (s' : State) (t : ℕ) → outcome a ≡ ok (s', t) → step s bytes buffer ≡ record { number = 0; payload = write s' t; state = s' }
unfolding apart tail_of behind
join_answers_0 s bytes buffer Join t1 t2 e = one_join_answers s bytes buffer (JN t1 t2) e (two_fitted Join s t1 t2) (two_types_made Join s t1 t2) (two_events Join s t1 t2)
join_answers_0 s bytes buffer Subtype t1 t2 e = one_join_answers s bytes buffer (SU t1 t2) e (two_fitted Subtype s t1 t2) (two_types_made Subtype s t1 t2) (two_events Subtype s t1 t2)

-- .. a JL with its count behind: it is never 14 either
pub links_answer_0 : (s : State) (bytes : Bytes) (buffer : ℕ) (t1 t2 : Tree) → read_record s bytes ≡ got (JL t1 t2) [] → (e : Event) → Memᴰ e (events s bytes buffer)
    → (a : JoinCall) → Memᴰ a e.calls → (s' : State) (t : ℕ) → outcome a ≡ ok (s', t) → step s bytes buffer ≡ record { number = 0; payload = behind (tail_of s (links_of_two t1 t2)) (write s' t); state = s' }
unfolding apart
links_answer_0 s bytes buffer t1 t2 e = one_join_answers s bytes buffer (JL t1 t2) e (links_fitted s t1 t2) (JL_calls s t1 t2) (links_events s t1 t2)
