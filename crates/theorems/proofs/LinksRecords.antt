-- R-9: UL and JL beside UF and JN of the same bytes but the mark (`ul_is_uf`, `jl_is_jn`). Assumes nothing.
-- First the two answers to one run, one of them with a count behind; then that the count is small; then records, which are read alike.
use mathlib.Core.Path.{◌≡◌, refl}
use mathlib.Core.Bool.{Bool, true, false, ◌&&◌}
use mathlib.Core.List.{[], ◌∷◌, ◌++◌}
use Rattle.std.specs.Prelude.{Option, None, Some, if◌then◌else◌}
use Prim.Native.Nat.{ℕ, ◌+◌, ◌≤◌, ◌<◌}
use native.Mathlib.Omega.{arith}
use lib.ListN.{length, take, drop, length-append}
use lib.Dec.{leb, leb→le}
use Rattle.std.proofs.lemmas.Bool.{leb-false}
use Rattle.definition.specs.Types.{TypeName, State, Refusal, answer_too_long, unsound_state, malformed, max_vars, Result, ok, err, refused}
use Rattle.definition.specs.Store.{count, taken, type_at}
use Rattle.definition.specs.Subst.{as_var, links, links_of}
use Rattle.definition.specs.Join.{join}
use Rattle.definition.specs.Write.{Bytes, u32, write_error}
use Rattle.definition.specs.Reader.{Read, got, not_read, Reader, give, go_on, ◌>>=◌, read_one, read_two, byte}
use Rattle.definition.specs.Trees.{Tree, arity, read_type}
use Rattle.definition.specs.Record.{Record, JN, UF, UL, JL, by_mark, fields_of, read_fields, max_record, hand_back, read_record}
use Rattle.definition.specs.Sound.{sound}
use Rattle.definition.specs.Step.{number_of_error, refusal, put_back, max_payload, answer_with, behind, answer_within, unfolded, two_types, run, apart, links_of_one, links_of_two, most_of, tail_of, reply, max_buffer, least_buffer, usable, lent, step}
use Rattle.definition.specs.Counted.{Counts, count_behind, no_room, as_refused, LinksOfOne, of_the_type, LinksOfTwo, of_the_merges, ULIsUF, JLIsJN}
use Rattle.theorems.proofs.SoundFacts.{facts, test, and_r}
use Rattle.theorems.proofs.SoundRead.{Fine, ReadWell, given, well_read}
use Rattle.theorems.proofs.SoundRefusals.{error_number}
use Rattle.theorems.proofs.LawsAnswer.{refusal_number_5}
use Rattle.theorems.proofs.SoundKept.{ranges_of}
use Rattle.theorems.proofs.LawsChains.{as_var_is}
use Rattle.theorems.proofs.DemandOrder.{Sound}
use Rattle.theorems.proofs.JoinWrites.{post_is}
use Rattle.theorems.proofs.DemandRuns.{place_went}
use Rattle.theorems.proofs.ManyPairs.{place_vars, ends_is}
use Rattle.theorems.proofs.LinksFew.{chain_few, links_u32}
use Rattle.theorems.proofs.LinksTail.{Tail, of_links, nothing_shown, OfOne, of_one, OfTwo, of_two, one_tail, two_tail}

-- ---- two answers to one run

-- a refusal is 5 or more
both_refused : (P : ℕ → Type 0) (s : State) (x : Refusal) → Counts P s (refusal s x) (refusal s x)
unfolding refusal
both_refused P s x = as_refused (refusal_number_5 x)

module _ (P : ℕ → Type 0) (s : State) where
  counts_with : (number n : ℕ) (p : Bytes) (s' : State) → number ≤ 4 → P n → n < 4294967296 → Counts P s (answer_with max_payload s number p s') (answer_with max_payload s number (behind (u32 n) p) s')
  unfolding answer_with behind u32 max_payload
  counts_with number n p s' h q small = go (leb (length p) 4096) (leb (length (p ++ u32 n)) 4096) refl refl
    where
      long : length (p ++ u32 n) ≡ length p + 4
      long = length-append p (u32 n)

      go : (b c : Bool) → leb (length p) 4096 ≡ b → leb (length (p ++ u32 n)) 4096 ≡ c
          → Counts P s (if b then record { number = number; payload = p; state = s' } else refusal s answer_too_long) (if c then record { number = number; payload = p ++ u32 n; state = s' } else refusal s answer_too_long)
      go true true d e = count_behind h (omega (arith, long, leb→le (length (p ++ u32 n)) 4096 (test e))) q small
      go true false d e = no_room h (omega (arith, long, leb-false (length (p ++ u32 n)) 4096 e))
      go false true d e = absurd (omega (arith, long, leb-false (length p) 4096 d, leb→le (length (p ++ u32 n)) 4096 (test e)))
      go false false d e = both_refused P s answer_too_long

  counts_within : (tail : Bytes) (m : Result (State × Bytes)) → Tail (λ n. P n × (n < 4294967296)) tail m → Counts P s (answer_within max_payload [] s m) (answer_within max_payload tail s m)
  unfolding answer_within behind
  counts_within tail (ok (s', p)) (of_links {n = n} e q) = rw e (counts_with 0 n p s' (omega arith) q.0 q.1)
  counts_within tail (err s' x) (of_links {n = n} e q) = rw e (counts_with (number_of_error x) n (write_error s' x) (put_back s s') (error_number x) q.0 q.1)
  counts_within tail (refused x) t = both_refused P s x

-- ---- the count is small

module _ {ar : TypeName → ℕ} {S : State} (s : Sound ar S) (few : taken S ≤ 1024) where
  links_of_small : (ty : ℕ) → ty < count S → links_of S ty < 4294967296
  unfolding links_of
  links_of_small ty i = go (as_var (type_at S ty)) refl
    where
      go : (o : Option ℕ) → as_var (type_at S ty) ≡ o → (elim o [ None ↦ 0 | Some v ↦ links S v ]) < 4294967296
      go None e = omega arith
      go (Some v) e = omega (arith, few, chain_few s v (s.var_in ty v i (as_var_is (type_at S ty) v e)))

module _ (s : State) (h : sound s ≡ true) where
  -- placing takes no variables
  few_there : (s' : State) → s'.vars ≡ s.vars → taken s' ≤ 1024
  unfolding max_vars
  few_there s' e = let few : length s.vars ≤ 1024 = (ranges_of s h).few_vars in rw e few

  one_small : (t : Tree) → Fine (arity s) (taken s) t → (n : ℕ) → OfOne s t n → n < 4294967296
  one_small t f n (of_one {s' = s'} {ty = ty} e) =
      let w = post_is (place_went f (facts s h) (omega arith)) e in
      links_of_small w.sound (few_there s' (ends_is (place_vars t s s.vars refl) e)) ty w.t_in

  two_small : (t1 t2 : Tree) → Fine (arity s) (taken s) t1 → Fine (arity s) (taken s) t2 → (n : ℕ) → OfTwo s t1 t2 n → n < 4294967296
  two_small t1 t2 f1 f2 n (of_two {s1 = s1} {s2 = s2} {lhs = l} {rhs = r} e d) =
      let w1 = post_is (place_went f1 (facts s h) (omega arith)) e in
      let w2 = post_is (place_went f2 w1.sound w1.above.more_vars) d in
      links_u32 s2 w2.sound (few_there s2 (ends_is (place_vars t2 s1 s.vars (ends_is (place_vars t1 s s.vars refl) e)) d)) l r (omega (arith, w1.t_in, w2.above.more_nodes)) w2.t_in

-- ---- records of the same bytes but the mark are read alike

-- what m reads, made into a record by either mark
data OneRead (M N : Tree → Record) : Read Record → Read Record → Type 0 where
  one_got : {t : Tree} {rest : Bytes} → OneRead M N (got (M t) rest) (got (N t) rest)
  one_not : {x : Refusal} → OneRead M N (not_read x) (not_read x)

data TwoRead (M N : Tree → Tree → Record) : Read Record → Read Record → Type 0 where
  two_got : {t1 t2 : Tree} {rest : Bytes} → TwoRead M N (got (M t1 t2) rest) (got (N t1 t2) rest)
  two_not : {x : Refusal} → TwoRead M N (not_read x) (not_read x)

one_read : (M N : Tree → Record) (m : Reader Tree) (more bytes : Bytes) → OneRead M N (hand_back more (read_one M m bytes)) (hand_back more (read_one N m bytes))
unfolding read_one ◌>>=◌ go_on give hand_back
one_read M N m more bytes = go (m bytes)
  where
    go : (x : Read Tree) → OneRead M N (hand_back more (go_on x (λ t. give (M t)))) (hand_back more (go_on x (λ t. give (N t))))
    go (got t rest) = one_got
    go (not_read x) = one_not

two_read : (M N : Tree → Tree → Record) (m : Reader Tree) (more bytes : Bytes) → TwoRead M N (hand_back more (read_two M m m bytes)) (hand_back more (read_two N m m bytes))
unfolding read_two ◌>>=◌ go_on give hand_back
two_read M N m more bytes = first (m bytes)
  where
    second : (t : Tree) (x : Read Tree) → TwoRead M N (hand_back more (go_on x (λ u. give (M t u)))) (hand_back more (go_on x (λ u. give (N t u))))
    second t (got u rest) = two_got
    second t (not_read x) = two_not

    first : (x : Read Tree) → TwoRead M N (hand_back more (go_on x (λ t. m >>= λ u. give (M t u)))) (hand_back more (go_on x (λ t. m >>= λ u. give (N t u))))
    first (got t rest) = second t (m rest)
    first (not_read x) = two_not

module _ (s : State) (fields : Bytes) where
  UF_and_UL : OneRead UF UL (read_record s (85 ∷ 70 ∷ fields)) (read_record s (85 ∷ 76 ∷ fields))
  unfolding read_record max_record read_fields by_mark fields_of ◌>>=◌ go_on byte
  UF_and_UL = one_read UF UL (read_type s) (drop 4094 fields) (take 4094 fields)

  JN_and_JL : TwoRead JN JL (read_record s (74 ∷ 78 ∷ fields)) (read_record s (74 ∷ 76 ∷ fields))
  unfolding read_record max_record read_fields by_mark fields_of ◌>>=◌ go_on byte
  JN_and_JL = two_read JN JL (read_type s) (drop 4094 fields) (take 4094 fields)

-- ---- the theorems

tail_as : {P Q : ℕ → Type 0} {tail : Bytes} {m : Result (State × Bytes)} → ((n : ℕ) → P n → Q n) → Tail P tail m → Tail Q tail m
tail_as f (of_links {n = n} e p) = of_links e (f n p)
tail_as f nothing_shown = nothing_shown

module _ (s : State) (h : sound s ≡ true) (fields : Bytes) where
  one_reply : (t : Tree) → Fine (arity s) (taken s) t → read_record s (85 ∷ 70 ∷ fields) ≡ got (UF t) [] → Counts (LinksOfOne s fields) s (reply s (UF t)) (reply s (UL t))
  unfolding reply apart most_of tail_of run
  one_reply t f e = counts_within (LinksOfOne s fields) s (tail_of s (links_of_one t)) (unfolded s t) (tail_as as_read (one_tail s t))
    where
      as_read : (n : ℕ) → OfOne s t n → LinksOfOne s fields n × (n < 4294967296)
      as_read n (of_one d) = (of_the_type e d, one_small s h t f n (of_one d))

  two_reply : (t1 t2 : Tree) → Fine (arity s) (taken s) t1 → Fine (arity s) (taken s) t2 → read_record s (74 ∷ 78 ∷ fields) ≡ got (JN t1 t2) [] → Counts (LinksOfTwo s fields) s (reply s (JN t1 t2)) (reply s (JL t1 t2))
  unfolding reply apart most_of tail_of run
  two_reply t1 t2 f1 f2 e = counts_within (LinksOfTwo s fields) s (tail_of s (links_of_two t1 t2)) (two_types join s t1 t2) (tail_as as_read (two_tail s t1 t2))
    where
      as_read : (n : ℕ) → OfTwo s t1 t2 n → LinksOfTwo s fields n × (n < 4294967296)
      as_read n (of_two d g) = (of_the_merges e d g, two_small s h t1 t2 f1 f2 n (of_two d g))

  one_lent : {n : ℕ} {x y : Read Record} → read_record s (85 ∷ 70 ∷ fields) ≡ x → ReadWell ⊥ s n x → OneRead UF UL x y → Counts (LinksOfOne s fields) s (lent s x) (lent s y)
  unfolding lent
  one_lent e (given f i l) (one_got {t = t} {rest = []}) = one_reply t f.0 e
  one_lent e w (one_got {rest = b ∷ rest}) = both_refused _ s malformed
  one_lent e w (one_not {x = x}) = both_refused _ s x

  two_lent : {n : ℕ} {x y : Read Record} → read_record s (74 ∷ 78 ∷ fields) ≡ x → ReadWell ⊥ s n x → TwoRead JN JL x y → Counts (LinksOfTwo s fields) s (lent s x) (lent s y)
  unfolding lent
  two_lent e (given f i l) (two_got {t1 = t1} {t2 = t2} {rest = []}) = two_reply t1 t2 f.0.0 f.0.1 e
  two_lent e w (two_got {rest = b ∷ rest}) = both_refused _ s malformed
  two_lent e w (two_not {x = x}) = both_refused _ s x

pub ul_is_uf : (s : State) → ULIsUF s
unfolding ULIsUF step usable least_buffer
ul_is_uf s fields buffer = go (leb max_buffer buffer && sound s) refl
  where
    go : (b : Bool) → leb max_buffer buffer && sound s ≡ b
        → Counts (LinksOfOne s fields) s (elim b [ true ↦ lent s (read_record s (85 ∷ 70 ∷ fields)) | false ↦ refusal s unsound_state ]) (elim b [ true ↦ lent s (read_record s (85 ∷ 76 ∷ fields)) | false ↦ refusal s unsound_state ])
    go true e = one_lent s (and_r (leb max_buffer buffer) (sound s) e) fields refl (well_read ⊥ s (85 ∷ 70 ∷ fields) (λ z. absurd z)) (UF_and_UL s fields)
    go false e = both_refused _ s unsound_state

pub jl_is_jn : (s : State) → JLIsJN s
unfolding JLIsJN step usable least_buffer
jl_is_jn s fields buffer = go (leb max_buffer buffer && sound s) refl
  where
    go : (b : Bool) → leb max_buffer buffer && sound s ≡ b
        → Counts (LinksOfTwo s fields) s (elim b [ true ↦ lent s (read_record s (74 ∷ 78 ∷ fields)) | false ↦ refusal s unsound_state ]) (elim b [ true ↦ lent s (read_record s (74 ∷ 76 ∷ fields)) | false ↦ refusal s unsound_state ])
    go true e = two_lent s (and_r (leb max_buffer buffer) (sound s) e) fields refl (well_read ⊥ s (74 ∷ 78 ∷ fields) (λ z. absurd z)) (JN_and_JL s fields)
    go false e = both_refused _ s unsound_state
