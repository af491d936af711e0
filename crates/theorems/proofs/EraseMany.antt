-- MJ's pairs with all locations set to 0 are answered as the pairs, with locations set to 0 in what they show and leave. Assumes nothing.
-- First rows of types that end where their length says: what is written is such a row. Then one pair by cases of its join, its bytes, and the pairs by induction.
use mathlib.Core.Path.{◌≡◌, refl, sym, ap, ◌∙◌}
use mathlib.Core.Bool.{Bool, true, false}
use mathlib.Core.List.{List, [], ◌∷◌, ◌++◌, map, map-append, append_assoc, append-nil}
use Prim.Native.Nat.{ℕ, zero, suc, ◌+◌, ◌*◌, ◌-◌, ◌/◌, ◌%◌, ◌≤◌, ◌<◌}
use native.Mathlib.Omega.{arith}
use lib.Dec.{leb, eqb}
use lib.ListN.{length, get_or, replicate, length-append}
use borrow.Author.Tests.{ne_eqb}
use Rattle.std.specs.Prelude.{if◌then◌else◌}
use Rattle.definition.specs.Types.{Multiple, Builtin, ModuleType, UnitType, Ref, Param, Apply, Var, Anything, UnresolvedError, TypeValue, Spanned, Cell, unbound, State, max_depth}
use Rattle.definition.specs.Types.{TypingError, SubtypeError, Incompatible, ArityMismatch, RecursiveType, Refusal}
use Rattle.definition.specs.Types.{answer_too_long, Result, ok, ◌>>=◌}
use Rattle.definition.specs.Store.{count, taken, spanned}
use Rattle.definition.specs.Subst.{parts}
use Rattle.definition.specs.Write.{Bytes, u16, u32, bool, mark, apply_head, head, each, write_down, write_spanned, write, write_error}
use Rattle.definition.specs.Step.{Answer, number_of_error, number_of_refusal, refusal, put_back, max_payload, answer_with, answer_within, answer, pair_answer, pair_bytes, run_pairs, behind}
use Rattle.definition.specs.Locations.{Part, plain, types, pair, loc_field, tag_widths, row, expand, blank}
use Rattle.theorems.proofs.Erase.{erase_cell, erase_spanned, erase_error, erase, count_erase, taken_erase, spanned_erase, vars_erase, Erased, er_ok, er_err, er_refused, with_state}
use Rattle.theorems.proofs.EraseJoin.{join_impl_erase}
use Rattle.theorems.proofs.EraseRead.{length_blank}
use Rattle.theorems.proofs.EraseWrite.{write_row, error_shown}
use Rattle.theorems.proofs.LawsAnswer.{refusal_number_5}
use Rattle.theorems.proofs.ManyPairs.{Pair, pair_short}

-- ---- the state put back

pub error_number_erase : (e : TypingError) → number_of_error (erase_error e) ≡ number_of_error e
unfolding number_of_error
error_number_erase (SubtypeError t u) = refl
error_number_erase (Incompatible t u) = refl
error_number_erase (ArityMismatch t u) = refl
error_number_erase (RecursiveType loc) = refl

unbounds : (n : ℕ) → map erase_cell (replicate n unbound) ≡ replicate n unbound
unbounds zero = refl
unbounds (suc n) = ap (λ (l : List Cell). unbound ∷ l) (unbounds n)

vars_are : (s : State) → (erase s).vars ≡ map erase_cell s.vars
unfolding erase
vars_are s = refl

pub put_back_erase : (S s : State) → put_back (erase S) (erase s) ≡ erase (put_back S s)
unfolding put_back
put_back_erase S s = rw (taken_erase S, taken_erase s, vars_erase s (S.vars ++ replicate (taken s - taken S) unbound), map-append erase_cell S.vars (replicate (taken s - taken S) unbound), unbounds (taken s - taken S), vars_are S) refl

module _ (B : State) where
  -- ---- rows of types that end where their length says

  -- m bytes of the row are awaited, n of them behind p
  record Ended (p p' : Bytes) : Type 0 where
    at : (m n : ℕ) → m ≡ length p + n → (rest : Bytes) (more : List Part) → blank B (p ++ rest) (row m ++ more) ≡ p' ++ blank B rest (row n ++ more)

  tag_ended : (b w : ℕ) → get_or tag_widths b 0 ≡ w → (m n : ℕ) → m ≡ 5 + w + n → (bytes : Bytes) (more : List Part) → blank B (b ∷ bytes) (row m ++ more) ≡ b ∷ blank B bytes ((loc_field ++ replicate w plain ++ row n) ++ more)
  unfolding row blank expand
  tag_ended b w d m n e bytes more =
      let some : eqb m 0 ≡ false = ne_eqb m 0 (λ z. omega (arith, e, z)) in
      let left : m - 5 - w ≡ n = omega (arith, e) in
      rw (some, d) (rw left refl)

  head_ended : (l : ℕ) (x : TypeValue) → Ended (head l x) (head 0 x)
  unfolding head apply_head u32 u16 blank expand loc_field tag_widths
  head_ended l UnitType = record { at = λ m n e rest more. tag_ended 0 0 refl m n (omega (arith, e)) (u32 l ++ rest) more }
  head_ended l (Ref mut t) = record { at = λ m n e rest more. tag_ended 1 1 refl m n (omega (arith, e)) (u32 l ++ bool mut ∷ rest) more }
  head_ended l (Param id a) = record { at = λ m n e rest more. tag_ended 2 5 refl m n (omega (arith, e)) (u32 l ++ u32 id ++ a ∷ rest) more }
  head_ended l (Apply k (Builtin b) tys) = record { at = λ m n e rest more. tag_ended 3 2 refl m n (omega (arith, e)) (u32 l ++ mark k ∷ b ∷ rest) more }
  head_ended l (Apply k (Multiple c) tys) = record { at = λ m n e rest more. tag_ended 4 2 refl m n (omega (arith, e)) (u32 l ++ mark k ∷ c ∷ rest) more }
  head_ended l (Apply k (ModuleType c) tys) = record { at = λ m n e rest more. tag_ended 5 3 refl m n (omega (arith, e)) (u32 l ++ mark k ∷ u16 c ++ rest) more }
  head_ended l (Var v) = record { at = λ m n e rest more. tag_ended 6 2 refl m n (omega (arith, e)) (u32 l ++ u16 v ++ rest) more }
  head_ended l Anything = record { at = λ m n e rest more. tag_ended 7 0 refl m n (omega (arith, e)) (u32 l ++ rest) more }
  head_ended l UnresolvedError = record { at = λ m n e rest more. tag_ended 8 0 refl m n (omega (arith, e)) (u32 l ++ rest) more }

  nothing_ended : Ended [] []
  nothing_ended = record { at = λ m n e rest more. let d : m ≡ n = omega (arith, e) in rw d refl }

  ended_append : {p p' q q' : Bytes} → Ended p p' → Ended q q' → Ended (p ++ q) (p' ++ q')
  ended_append {p} {p'} {q} {q'} h k = record {
    at = λ m n e rest more.
        rw (append_assoc p q rest, append_assoc p' q' (blank B rest (row n ++ more)))
        (h.at m (length q + n) (omega (arith, e, length-append p q)) (q ++ rest) more ∙ ap (λ (l : Bytes). p' ++ l) (k.at (length q + n) n refl rest more));
  }

  each_ended : (f f' : ℕ → Bytes) → ((p : ℕ) → Ended (f p) (f' p)) → (ps : List ℕ) → Ended (each f ps) (each f' ps)
  unfolding each
  each_ended f f' h [] = nothing_ended
  each_ended f f' h (p ∷ ps) = ended_append (h p) (each_ended f f' h ps)

  down_ended : (k : ℕ) (s : State) (t : Spanned TypeValue) → Ended (write_down k s t) (write_down k (erase s) (erase_spanned t))
  unfolding write_down
  down_ended zero s t = nothing_ended
  down_ended (suc k) s t = ended_append (head_ended t.loc t.value) (each_ended (λ p. write_down k s (spanned s p)) (λ p. write_down k (erase s) (spanned (erase s) p)) (λ p. rw (spanned_erase s p) (down_ended k s (spanned s p))) (parts t.value))

  write_ended : (s : State) (t : ℕ) → Ended (write s t) (write (erase s) t)
  unfolding write write_spanned
  write_ended s t = rw (spanned_erase s t, count_erase s) (down_ended (suc (count s)) s (spanned s t))

  -- ---- a pair's payload, by its number

  abbrev Pays : ℕ → Bytes → Bytes → Type 0
  Pays number p p' = (rest : Bytes) → blank B (p ++ rest) ((if eqb number 4 then loc_field else row (length p)) ++ (pair ∷ [])) ≡ p' ++ blank B rest (pair ∷ [])

  pays_row : (number : ℕ) → eqb number 4 ≡ false → {p p' : Bytes} → Ended p p' → Pays number p p'
  unfolding row
  pays_row number e {p} {p'} h rest = rw e (h.at (length p) 0 (omega arith) rest (pair ∷ []))

  location_pays : (loc : ℕ) → Pays 4 (u32 loc) (u32 0)
  unfolding u32 blank expand loc_field
  location_pays loc rest = refl

  error_pays : (s : State) (e : TypingError) → Pays (number_of_error e) (write_error s e) (write_error (erase s) (erase_error e))
  unfolding write_error number_of_error
  error_pays s (SubtypeError t u) = pays_row 1 refl (ended_append (write_ended s t) (write_ended s u))
  error_pays s (Incompatible t u) = pays_row 2 refl (ended_append (write_ended s t) (write_ended s u))
  error_pays s (ArityMismatch t u) = pays_row 3 refl (ended_append (write_ended s t) (write_ended s u))
  error_pays s (RecursiveType loc) = location_pays loc

  refusal_4 : (x : Refusal) → eqb (number_of_refusal x) 4 ≡ false
  refusal_4 x = ne_eqb (number_of_refusal x) 4 (λ z. omega (arith, z, refusal_number_5 x))

  -- ---- one pair

  record Alike (a a' : Answer) : Type 0 where
    same_number : a'.number ≡ a.number
    same_length : length a'.payload ≡ length a.payload
    pays : Pays a.number a.payload a'.payload
    same_state : a'.state ≡ erase a.state

  refusal_alike : (s : State) (x : Refusal) → Alike (refusal s x) (refusal (erase s) x)
  unfolding refusal
  refusal_alike s x = record { same_number = refl; same_length = refl; pays = pays_row (number_of_refusal x) (refusal_4 x) nothing_ended; same_state = refl }

  with_alike : (s : State) (n : ℕ) (p p' : Bytes) (s1 s1' : State) → length p' ≡ length p → Pays n p p' → s1' ≡ erase s1 → Alike (answer_with max_payload s n p s1) (answer_with max_payload (erase s) n p' s1')
  unfolding answer_with
  with_alike s n p p' s1 s1' e h d = rw e (go (leb (length p) max_payload))
    where
      go : (b : Bool) → Alike (if b then record { number = n; payload = p; state = s1 } else refusal s answer_too_long) (if b then record { number = n; payload = p'; state = s1' } else refusal (erase s) answer_too_long)
      go true = record { same_number = refl; same_length = e; pays = h; same_state = d }
      go false = refusal_alike s answer_too_long

  join_alike : (s : State) {j j' : Result (State × ℕ)} → Erased with_state j j'
      → Alike (answer s (j >>= λ (x : State × ℕ). ok (x.0, write x.0 x.1))) (answer (erase s) (j' >>= λ (x : State × ℕ). ok (x.0, write x.0 x.1)))
  unfolding answer answer_within behind ◌>>=◌
  join_alike s (er_ok {a = x} e) = rw e (
      with_alike s 0 (write x.0 x.1) (write (erase x.0) x.1) x.0 (erase x.0) (ap length (sym (write_row B x.0 x.1)) ∙ length_blank B (write x.0 x.1) (types ∷ []))
      (pays_row 0 refl (write_ended x.0 x.1)) refl)
  join_alike s (er_err {s = s1} {e = e} p q) = rw (p, q, error_number_erase e) (
      with_alike s (number_of_error e) (write_error s1 e) (write_error (erase s1) (erase_error e)) (put_back s s1) (put_back (erase s) (erase s1)) (ap length (sym (error_shown B (types ∷ []) s1 e)) ∙ length_blank B (write_error s1 e) _) (error_pays s1 e) (put_back_erase s s1))
  join_alike s (er_refused {x = x}) = refusal_alike s x

  pair_alike : (s : State) (p : Pair) → Alike (pair_answer s p) (pair_answer (erase s) p)
  unfolding pair_answer
  pair_alike s (c, l, r) = join_alike s (join_impl_erase max_depth s c l r)

  -- ---- its bytes, and those behind it

  u16_back : (n : ℕ) → n < 65536 → n % 256 + 256 * (n / 256 % 256) ≡ n
  u16_back n h = omega arith

  bytes_alike : (a a' : Answer) → Alike a a' → length a.payload ≤ 4096 → (rest : Bytes) → pair_bytes a' ++ blank B rest (pair ∷ []) ≡ blank B (pair_bytes a ++ rest) (pair ∷ [])
  unfolding pair_bytes u16 blank expand
  bytes_alike a a' h short rest =
      let size : length a.payload % 256 + 256 * (length a.payload / 256 % 256) ≡ length a.payload = u16_back (length a.payload) (omega arith) in
      rw (h.same_number, h.same_length, size, append-nil ((if eqb a.number 4 then loc_field else row (length a.payload)) ++ (pair ∷ [])))
      (ap (λ (l : Bytes). a.number ∷ length a.payload % 256 ∷ length a.payload / 256 % 256 ∷ l) (sym (h.pays rest)))

  pub pairs_erase : (ps : List Pair) (s : State) → ((run_pairs (erase s) ps).0 ≡ erase (run_pairs s ps).0) × ((run_pairs (erase s) ps).1 ≡ blank B (run_pairs s ps).1 (pair ∷ []))
  unfolding run_pairs blank
  pairs_erase [] s = (refl, refl)
  pairs_erase (p ∷ ps) s =
      let h = pair_alike s p in
      let later = pairs_erase ps (pair_answer s p).state in (
        ap (λ (z : State). (run_pairs z ps).0) h.same_state ∙ later.0,
        ap (λ (z : State). pair_bytes (pair_answer (erase s) p) ++ (run_pairs z ps).1) h.same_state ∙ ap (λ (l : Bytes). pair_bytes (pair_answer (erase s) p) ++ l) later.1 ∙ bytes_alike (pair_answer s p) (pair_answer (erase s) p) h (pair_short s p) (run_pairs (pair_answer s p).state ps).1,
      )
