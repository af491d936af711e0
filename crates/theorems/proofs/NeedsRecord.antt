-- R-3 over whole records: RM answers 0 with four numbers, or 11 where a variable is inside. Where it answers 0, IN of the same bytes answers 7 just if one of them is more than what
-- is left, and else 0, having taken just these. Assumes nothing.
-- First that IN's payload is short, by a walk over the readers with the nesting left; then what reading, `foretold` and `IN_of_a_variable` say, put together.
use mathlib.Core.Path.{◌≡◌, refl, sym, ap, ◌∙◌}
use mathlib.Core.Logic.{◌≢◌, ◌⊎◌, inl, inr, ◌↔◌}
use mathlib.Core.Bool.{Bool, true, false, not, ◌&&◌}
use mathlib.Core.List.{List, [], ◌∷◌, ◌++◌}
use Rattle.std.specs.Prelude.{Option, None, Some}
use Prim.Native.Nat.{ℕ, zero, suc, ◌+◌, ◌*◌, ◌≤◌}
use native.Mathlib.Omega.{arith}
use lib.ListN.{length, get_or, take, drop, length-take}
use lib.Dec.{eqb, leb→le}
use Rattle.std.specs.Prelude.{if◌then◌else◌}
use Rattle.definition.specs.Types.{TypeName, Multiple, Builtin, ModuleType, Struct, State, Refusal, malformed, unknown_name, doubled_reference, full, open_variable, Result, refused}
use Rattle.definition.specs.Store.{taken, all_of}
use Rattle.definition.specs.Instantiate.{builtin_tparams, struct_tparams}
use Rattle.definition.specs.Write.{Bytes, u32}
use Rattle.definition.specs.Reader.{Read, got, not_read, Reader, give, refuse, go_on, ◌>>=◌, read_one, read_two, byte, read_u16, read_u32, byte_if, byte_to, read_bool, name_below}
use Rattle.definition.specs.Trees.{Tree, ref_tree, param_tree, var_tree, no_trees, ◌then◌, is_set, is_param, is_count, is_name, mark_fits, arity}
use Rattle.definition.specs.Trees.{read_trees, read_mark, under_ref, read_apply, by_tag, read_nested, read_type}
use Rattle.definition.specs.Record.{IN, RM, by_mark, fields_of, read_fields, max_record, hand_back, read_record}
use Rattle.definition.specs.Needs.{Needs, needs, write_needs}
use Rattle.definition.specs.Sound.{struct_allowed, sound}
use Rattle.definition.specs.Step.{tell, run, Answer, number_of_refusal, refusal, max_payload, answer_with, answer_within, apart, most_of, reply, max_buffer, least_buffer, usable, lent, step, behind, tail_of}
use Rattle.theorems.proofs.DemandTracks.{never}
use Rattle.theorems.proofs.SoundFacts.{and_l, and_r, not_false, test}
use Rattle.theorems.proofs.Soundness.{le_test, and}
use Rattle.theorems.proofs.SoundRanges.{all_get, StructIn}
use Rattle.theorems.proofs.SoundKept.{ranges_of}
use Rattle.theorems.proofs.SoundRead.{size, Fine, ReadTime, five, six, eighteen, Given, given, not_given, Gives, gives_then, gives_give, gives_refuse, gives_if, gives_byte, gives_u16, gives_u32, gives_byte_if, gives_bool, gives_mark, gives_name, gives_under, GoodTree, gives_type}
use Rattle.theorems.proofs.JoinWrites.{name_size}
use Rattle.theorems.proofs.JoinAnswers.{tree_size, Spent, spent, unread as not_spent, pays_type, fitting}
use Rattle.theorems.proofs.NeedsExact.{Fits, More}
use Rattle.theorems.proofs.NeedsIn.{shown}
use Rattle.theorems.proofs.Needs.{VarIn, Few, needs_few, needs_none, Foretold, it_fits, it_does_not, foretold}
use Rattle.theorems.proofs.NeedsOpen.{SevenOrEleven, is_seven, is_eleven, IN_of_a_variable}

-- ---- IN's payload is short: below references there is one name, and its arguments are variables

few_params : (d : Struct) → struct_allowed d ≡ true → length d.params ≤ 8
unfolding struct_allowed
few_params d e = leb→le (length d.params) 8 (test (and_r (is_set d.abilities) (is_count (length d.params)) (and_l (is_set d.abilities && is_count (length d.params)) (all_of is_param d.params) e)))

few_arguments : (s : State) → sound s ≡ true → (n : TypeName) → is_name s n ≡ true → arity s n ≤ 8
unfolding is_name arity builtin_tparams struct_tparams struct_allowed all_of
few_arguments s h (Multiple n) e = leb→le n 8 (test e)
few_arguments s h (Builtin b) e = go (eqb b 5)
  where
    go : (c : Bool) → length {A = ℕ} (if c then 0 ∷ [] else []) ≤ 8
    go true = omega arith
    go false = omega arith
few_arguments s h (ModuleType n) e = few_params (get_or s.structs n none_declared) (all_get StructIn none_declared s.structs (ranges_of s h).structs_in (record { struct_in = refl }) n).struct_in
  where
    none_declared : Struct
    none_declared = record { abilities = 0; params = [] }

head_few : (n : TypeName) → name_size n ≤ 8
unfolding name_size
head_few (Multiple n) = omega arith
head_few (Builtin b) = omega arith
head_few (ModuleType n) = omega arith

module _ (s : State) (h : sound s ≡ true) where
  -- of a type that nests n deep
  abbrev Short : ℕ → Tree → Type 0
  Short n t = shown t ≤ 64 + 6 * n

  counted : {P : Tree → Type 0} (n : ℕ) (m : Reader Tree) → Gives ⊥ P m → Gives ⊥ (λ ts. size ts ≡ n) (read_trees n m)
  unfolding read_trees
  counted zero m g = gives_give ⊥ no_trees refl
  counted (suc n) m g = gives_then ⊥ m _ g (λ t p. gives_then ⊥ (read_trees n m) _ (counted n m g) (λ ts q. gives_give ⊥ (◌then◌ t ts) (omega arith)))

  module _ (n : ℕ) (m : Reader Tree) (g : Gives ⊥ (Short n) m) (loc : ℕ) where
    short_apply : {P : ℕ → Type 0} (number : Reader ℕ) → Gives ⊥ P number → (name : ℕ → TypeName) (x : Refusal) → ReadTime x → Gives ⊥ (Short (suc n)) (read_apply s m loc number name x)
    unfolding read_apply shown
    short_apply number q name x r = gives_then ⊥ read_mark _ (gives_mark ⊥) (λ k hk. gives_then ⊥ number _ q (λ i p.
        gives_if ⊥ (not (is_name s (name i))) (λ e. gives_refuse ⊥ r) (λ e. gives_if ⊥ (not (mark_fits k (name i))) (λ f. gives_refuse ⊥ five) (λ f.
        gives_then ⊥ (read_trees (arity s (name i)) m) _ (counted (arity s (name i)) m g) (λ ts z. gives_give ⊥ _ (omega (arith, z, head_few (name i), few_arguments s h (name i) (not_false (is_name s (name i)) e))))))))

    short_ref : Gives ⊥ (Short (suc n)) (read_two (ref_tree loc) read_bool (under_ref n m))
    unfolding read_two shown
    short_ref = gives_then ⊥ read_bool _ (gives_bool ⊥) (λ b p. gives_then ⊥ (under_ref n m) _ (gives_under ⊥ n m g) (λ t q. gives_give ⊥ _ (omega arith)))

    short_param : Gives ⊥ (Short (suc n)) (read_two (param_tree loc) read_u32 (byte_if is_set))
    unfolding read_two shown
    short_param = gives_then ⊥ read_u32 _ (gives_u32 ⊥) (λ id p. gives_then ⊥ (byte_if is_set) _ (gives_byte_if ⊥ is_set) (λ a q. gives_give ⊥ _ (omega arith)))

    short_var : Gives ⊥ (Short (suc n)) (read_one (var_tree loc) (name_below (taken s)))
    unfolding read_one shown
    short_var = gives_then ⊥ (name_below (taken s)) _ (gives_name ⊥ (taken s)) (λ v p. gives_give ⊥ _ (omega arith))

    abbrev AllShort : List (Reader Tree) → Type 0
    AllShort [] = Unit {0}
    AllShort (r ∷ rs) = Gives ⊥ (Short (suc n)) r × AllShort rs

    short_at : (rs : List (Reader Tree)) → AllShort rs → (i : ℕ) → Gives ⊥ (Short (suc n)) (get_or rs i (refuse malformed))
    short_at [] a i = gives_refuse ⊥ five
    short_at (r ∷ rs) a zero = a.0
    short_at (r ∷ rs) a (suc i) = short_at rs a.1 i

    short_by_tag : (tag : ℕ) → Gives ⊥ (Short (suc n)) (get_or (by_tag s m loc n) tag (refuse malformed))
    unfolding by_tag shown
    short_by_tag tag = short_at (by_tag s m loc n) (
      gives_give ⊥ _ (omega arith),
      (short_ref, (short_param, (short_apply byte (gives_byte ⊥) _ _ five, (short_apply byte (gives_byte ⊥) _ _ five, (short_apply read_u16 (gives_u16 ⊥) _ _ six, (short_var, (gives_give ⊥ _ (omega arith), (gives_give ⊥ _ (omega arith), tt)))))))),
    ) tag

  short_nested : (n : ℕ) → Gives ⊥ (Short n) (read_nested n s)
  unfolding read_nested
  short_nested zero = gives_refuse ⊥ five
  short_nested (suc n) = gives_then ⊥ (byte_to 8) _ (gives_byte_if ⊥ _) (λ tag p. gives_then ⊥ read_u32 _ (gives_u32 ⊥) (λ loc q. short_by_tag n (read_nested n s) (short_nested n) loc tag))

  short_type : Gives ⊥ (λ t. shown t ≤ max_payload) (read_type s)
  unfolding read_type max_payload
  short_type bytes is = go (short_nested 64 bytes is)
    where
      go : {n : ℕ} {r : Read Tree} → Given ⊥ (Short 64) n r → Given ⊥ (λ t. shown t ≤ 4096) n r
      go (given {a = t} {rest = rest} p i l) = given {a = t} {rest = rest} (omega arith) i l
      go (not_given x) = not_given x

-- ---- the two records

-- 0 with the four numbers of n. Each is written whole: a u32 has room for more
pub record Tells (s : State) (n : Needs) (a : Answer) : Type 0 where
  pub is : a ≡ record { number = 0; payload = write_needs n; state = s }
  pub few : Few n 4094

-- RM's and IN's answers to the same type. 5 and 6 come from reading
pub data Foretells (s : State) (RM_answer IN_answer : Answer) : Type 0 where
  unread : (x : Refusal) → ReadTime x → RM_answer ≡ refusal s x → IN_answer ≡ refusal s x → Foretells s RM_answer IN_answer
  variable_inside : RM_answer ≡ refusal s open_variable → (IN_answer ≡ refusal s full) ⊎ (IN_answer ≡ refusal s open_variable) → Foretells s RM_answer IN_answer
  enough_left : (n : Needs) → Tells s n RM_answer → Fits s n → IN_answer.number ≡ 0 → More s n IN_answer.state → Foretells s RM_answer IN_answer
  too_little_left : (n : Needs) → Tells s n RM_answer → (Fits s n → ⊥) → IN_answer ≡ refusal s full → Foretells s RM_answer IN_answer

told_0 : (s : State) (n : Needs) → answer_within max_payload [] s (tell s (Some n)) ≡ record { number = 0; payload = write_needs n; state = s }
unfolding answer_within behind answer_with tell write_needs u32 max_payload
told_0 s n = refl

IN_answers : (s : State) (n : Needs) (t : Tree) {a : Answer} → Tells s n a → shown t ≤ max_payload → {m : Result (State × Bytes)} → Foretold s n t m → Foretells s a (answer_within max_payload [] s m)
unfolding answer_within behind
IN_answers s n t k h (it_fits {s' = s'} {payload = payload} f m l) = rw (fitting max_payload [] s s' payload (omega arith)) (enough_left n k f refl m)
IN_answers s n t k h (it_does_not f) = too_little_left n k f refl

seven_or_eleven : (s : State) {m : Result (State × Bytes)} → SevenOrEleven m → (answer_within max_payload [] s m ≡ refusal s full) ⊎ (answer_within max_payload [] s m ≡ refusal s open_variable)
unfolding answer_within
seven_or_eleven s is_seven = inl refl
seven_or_eleven s is_eleven = inr refl

module _ (s : State) (h : sound s ≡ true) where
  runs_foretell : (t : Tree) → Fine (arity s) (taken s) t → shown t ≤ max_payload → tree_size t ≤ 4094 → Foretells s (reply s (RM t)) (reply s (IN t))
  unfolding reply apart most_of tail_of run tell answer_within
  runs_foretell t f l b = go (needs t) refl
    where
      go : (o : Option Needs) → needs t ≡ o → Foretells s (answer_within max_payload [] s (tell s o)) (answer_within max_payload [] s (run s (IN t)))
      go None e = variable_inside refl (seven_or_eleven s (IN_of_a_variable s h t f ((needs_none t).0 e)))
      go (Some n) e = let w = needs_few t n e in IN_answers s n t (record { is = told_0 s n; few = omega arith }) l (foretold s h t f n e)

  lent_foretell : (more : Bytes) (r : Read Tree) {n : ℕ} → Given ⊥ (GoodTree ⊥ s) n r → Given ⊥ (λ t. shown t ≤ max_payload) n r → Spent tree_size 4094 r
      → Foretells s (lent s (hand_back more (go_on r (λ t. give (RM t))))) (lent s (hand_back more (go_on r (λ t. give (IN t)))))
  unfolding lent hand_back go_on give
  lent_foretell more (got t rest) (given p i l) (given q j k) (spent b) = go (rest ++ more)
    where
      go : (left : Bytes) → Foretells s (lent s (got (RM t) left)) (lent s (got (IN t) left))
      go [] = runs_foretell t p.0 q (omega arith)
      go (b ∷ left) = unread malformed five refl refl
  lent_foretell more (not_read x) (not_given r) q b = unread x r refl refl

  read_spent : (bytes : Bytes) → Spent tree_size 4094 (read_type s (take 4094 bytes))
  read_spent bytes = go (pays_type s (take 4094 bytes))
    where
      go : {r : Read Tree} → Spent tree_size (0 + length (take 4094 bytes)) r → Spent tree_size 4094 r
      go (spent {a = t} {rest = rest} l) = spent {a = t} {rest = rest} (omega (arith, length-take 4094 bytes))
      go not_spent = not_spent

  RM_read : (bytes : Bytes) → read_record s (82 ∷ 77 ∷ bytes) ≡ hand_back (drop 4094 bytes) (go_on (read_type s (take 4094 bytes)) (λ t. give (RM t)))
  unfolding read_record max_record read_fields by_mark fields_of ◌>>=◌ go_on byte read_one
  RM_read bytes = refl

  IN_read : (bytes : Bytes) → read_record s (73 ∷ 78 ∷ bytes) ≡ hand_back (drop 4094 bytes) (go_on (read_type s (take 4094 bytes)) (λ t. give (IN t)))
  unfolding read_record max_record read_fields by_mark fields_of ◌>>=◌ go_on byte read_one
  IN_read bytes = refl

  ready : (bytes : Bytes) (buffer : ℕ) → least_buffer bytes ≡ max_buffer → max_buffer ≤ buffer → usable s bytes buffer ≡ true
  unfolding usable
  ready bytes buffer e l = and (le_test (least_buffer bytes) buffer (omega arith)) h

  pub RM_foretells : (bytes : Bytes) (buffer : ℕ) → max_buffer ≤ buffer → Foretells s (step s (82 ∷ 77 ∷ bytes) buffer) (step s (73 ∷ 78 ∷ bytes) buffer)
  unfolding step least_buffer
  RM_foretells bytes buffer l = rw (ready (82 ∷ 77 ∷ bytes) buffer refl l, ready (73 ∷ 78 ∷ bytes) buffer refl l, step) (rw (RM_read bytes, IN_read bytes)
      (lent_foretell (drop 4094 bytes) (read_type s (take 4094 bytes)) (gives_type ⊥ s (take 4094 bytes) (λ e. absurd e)) (short_type s h (take 4094 bytes) (λ e. absurd e)) (read_spent bytes)))

  -- IN is never 14: every argument in its result is a variable
  pub IN_never_14 : (bytes : Bytes) (buffer : ℕ) → max_buffer ≤ buffer → (step s (73 ∷ 78 ∷ bytes) buffer).number ≢ 14
  unfolding refusal number_of_refusal
  IN_never_14 bytes buffer l = go (RM_foretells bytes buffer l)
    where
      of_reading : (x : Refusal) → ReadTime x → number_of_refusal x ≢ 14
      of_reading malformed five d = omega arith
      of_reading unknown_name six d = omega arith
      of_reading doubled_reference eighteen d = omega arith
      of_reading x t d = elim t [ ]

      go : {a b : Answer} → Foretells s a b → b.number ≢ 14
      go (unread x r p q) d = of_reading x r (ap (λ (a : Answer). a.number) (sym q) ∙ d)
      go (variable_inside p (inl q)) d = let z = ap (λ (a : Answer). a.number) (sym q) ∙ d in omega arith
      go (variable_inside p (inr q)) d = let z = ap (λ (a : Answer). a.number) (sym q) ∙ d in omega arith
      go (enough_left n t f e m) d = omega arith
      go (too_little_left n t f q) d = let z = ap (λ (a : Answer). a.number) (sym q) ∙ d in omega arith

-- RM's run gives 11 just where a variable is inside
pub RM_eleven : (s : State) (t : Tree) → (run s (RM t) ≡ refused open_variable) ↔ VarIn t
unfolding run tell
RM_eleven s t = (λ e. (needs_none t).0 (only (needs t) e), λ v. rw ((needs_none t).1 v) refl)
  where
    only : (o : Option Needs) → tell s o ≡ refused open_variable → o ≡ None
    only None e = refl
    only (Some n) e = never (cc)
