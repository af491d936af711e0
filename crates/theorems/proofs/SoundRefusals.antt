-- 5 and above leave the state as at entry, and no payload. No number has three digits. Assumes nothing.
-- By cases: the call's test fails, or the record is read and run; each way a number of 5 or more comes from puts the state back.
use mathlib.Core.Path.{◌≡◌, refl}
use mathlib.Core.Bool.{Bool, true, false}
use mathlib.Core.List.{[], ◌∷◌}
use Prim.Native.Nat.{ℕ, ◌≤◌, ◌<◌}
use native.Mathlib.Omega.{arith}
use lib.ListN.{length}
use lib.Dec.{leb}
use Rattle.definition.specs.Types.{State, TypingError, SubtypeError, Incompatible, ArityMismatch, RecursiveType, Refusal, malformed, unknown_name, full, too_deep, runs_into_itself, abilities_disagree}
use Rattle.std.specs.Prelude.{if◌then◌else◌}
use Rattle.definition.specs.Types.{open_variable, no_argument, parameter_twice, answer_too_long, unsound_state, mark_contradicted, already_expanded, doubled_reference, Result, ok, err, refused}
use Rattle.definition.specs.Join.{TypingCase}
use Rattle.definition.specs.Write.{Bytes}
use Rattle.definition.specs.Reader.{Read, got, not_read}
use Rattle.definition.specs.Record.{Record, read_record}
use Rattle.definition.specs.Step.{run, Answer, number_of_error, number_of_refusal, refusal, put_back, answer_with, answer_within, answer, pair_answer, apart, most_of, reply, usable, max_payload, lent, step, streamed, step_stream, behind, tail_of}

-- ---- the test of a call passes, or it is 15

pub step_cases : (s : State) (bytes : Bytes) (buffer : ℕ) (P : Answer → Type 0) → P (lent s (read_record s bytes)) → P (refusal s unsound_state) → P (step s bytes buffer)
unfolding step
step_cases s bytes buffer P p q = go (usable s bytes buffer)
  where
    go : (b : Bool) → P (elim b as (λ x. Answer) [ true ↦ lent s (read_record s bytes) | false ↦ refusal s unsound_state ])
    go true = p
    go false = q

pub stream_cases : (s : State) (bytes : Bytes) (buffer : ℕ) (P : Answer × Bytes → Type 0) → P (streamed s bytes (read_record s bytes)) → P (refusal s unsound_state, bytes) → P (step_stream s bytes buffer)
unfolding step_stream
stream_cases s bytes buffer P p q = go (usable s bytes buffer)
  where
    go : (b : Bool) → P (elim b as (λ x. Answer × Bytes) [ true ↦ streamed s bytes (read_record s bytes) | false ↦ (refusal s unsound_state, bytes) ])
    go true = p
    go false = q

-- ---- the answer

pub error_number : (e : TypingError) → number_of_error e ≤ 4
unfolding number_of_error
error_number (SubtypeError a b) = omega arith
error_number (Incompatible a b) = omega arith
error_number (ArityMismatch a b) = omega arith
error_number (RecursiveType loc) = omega arith

abbrev pub Untouched : State → Answer → Type 0
Untouched s a = 5 ≤ a.number → (a.state ≡ s) × (a.payload ≡ [])

refusal_untouched : (s : State) (x : Refusal) → Untouched s (refusal s x)
unfolding refusal
refusal_untouched s x l = (refl, refl)

with_untouched : (most : ℕ) (s : State) (n : ℕ) (p : Bytes) (s' : State) → n ≤ 4 → Untouched s (answer_with most s n p s')
unfolding answer_with
with_untouched most s n p s' h = go (leb (length p) most)
  where
    go : (b : Bool) → Untouched s (if b then record { number = n; payload = p; state = s' } else refusal s answer_too_long)
    go true = λ l. absurd (omega arith)
    go false = refusal_untouched s answer_too_long

answer_untouched : (most : ℕ) (tail : Bytes) (s : State) (m : Result (State × Bytes)) → Untouched s (answer_within most tail s m)
unfolding answer_within
answer_untouched most tail s (ok (s', p)) = with_untouched most s 0 (behind tail p) s' (omega arith)
answer_untouched most tail s (err s' e) = with_untouched most s (number_of_error e) _ (put_back s s') (error_number e)
answer_untouched most tail s (refused x) = refusal_untouched s x

pub reply_untouched : (s : State) (r : Record) → Untouched s (reply s r)
unfolding reply
reply_untouched s r = answer_untouched (most_of (apart r)) (tail_of s (apart r)) s (run s r)

-- a pair of MJ that is 5 or above has no payload, and leaves the state that it began with
pub pair_refused_leaves : (s : State) (pair : TypingCase × ℕ × ℕ) → 5 ≤ (pair_answer s pair).number → ((pair_answer s pair).state ≡ s) × ((pair_answer s pair).payload ≡ [])
unfolding pair_answer answer
pair_refused_leaves s (case, lhs, rhs) = answer_untouched max_payload [] s _

lent_untouched : (s : State) (r : Read Record) → Untouched s (lent s r)
unfolding lent
lent_untouched s (got r []) = reply_untouched s r
lent_untouched s (got r (b ∷ rest)) = refusal_untouched s _
lent_untouched s (not_read x) = refusal_untouched s x

streamed_untouched : (s : State) (bytes : Bytes) (r : Read Record) → Untouched s (streamed s bytes r).0
unfolding streamed
streamed_untouched s bytes (got r rest) = reply_untouched s r
streamed_untouched s bytes (not_read x) = refusal_untouched s x

pub refusal_leaves : (s : State) (bytes : Bytes) (buffer : ℕ) → 5 ≤ (step s bytes buffer).number → ((step s bytes buffer).state ≡ s) × ((step s bytes buffer).payload ≡ [])
refusal_leaves s bytes buffer = step_cases s bytes buffer (λ a. Untouched s a) (lent_untouched s (read_record s bytes)) (refusal_untouched s unsound_state)

pub stream_refusal_leaves : (s : State) (bytes : Bytes) (buffer : ℕ) → 5 ≤ (step_stream s bytes buffer).0.number → ((step_stream s bytes buffer).0.state ≡ s) × ((step_stream s bytes buffer).0.payload ≡ [])
stream_refusal_leaves s bytes buffer = stream_cases s bytes buffer (λ x. Untouched s x.0) (streamed_untouched s bytes (read_record s bytes)) (refusal_untouched s unsound_state)

-- ---- no number has more than two digits

refusal_number : (x : Refusal) → number_of_refusal x < 100
unfolding number_of_refusal
refusal_number malformed = omega arith
refusal_number unknown_name = omega arith
refusal_number full = omega arith
refusal_number too_deep = omega arith
refusal_number runs_into_itself = omega arith
refusal_number abilities_disagree = omega arith
refusal_number open_variable = omega arith
refusal_number no_argument = omega arith
refusal_number parameter_twice = omega arith
refusal_number answer_too_long = omega arith
refusal_number unsound_state = omega arith
refusal_number mark_contradicted = omega arith
refusal_number already_expanded = omega arith
refusal_number doubled_reference = omega arith

with_number : (most : ℕ) (s : State) (n : ℕ) (p : Bytes) (s' : State) → n < 100 → (answer_with most s n p s').number < 100
unfolding answer_with refusal
with_number most s n p s' h = go (leb (length p) most)
  where
    go : (b : Bool) → (if b then record { number = n; payload = p; state = s' } else refusal s answer_too_long).number < 100
    go true = h
    go false = refusal_number answer_too_long

pub answer_number : (most : ℕ) (tail : Bytes) (s : State) (m : Result (State × Bytes)) → (answer_within most tail s m).number < 100
unfolding answer_within refusal
answer_number most tail s (ok (s', p)) = with_number most s 0 (behind tail p) s' (omega arith)
answer_number most tail s (err s' e) = with_number most s (number_of_error e) _ (put_back s s') (omega (arith, error_number e))
answer_number most tail s (refused x) = refusal_number x

streamed_number : (s : State) (bytes : Bytes) (r : Read Record) → (streamed s bytes r).0.number < 100
unfolding streamed refusal reply
streamed_number s bytes (got r rest) = answer_number (most_of (apart r)) (tail_of s (apart r)) s (run s r)
streamed_number s bytes (not_read x) = refusal_number x

pub stream_two_digits : (s : State) (bytes : Bytes) (buffer : ℕ) → (step_stream s bytes buffer).0.number < 100
unfolding refusal
stream_two_digits s bytes buffer = stream_cases s bytes buffer (λ x. x.0.number < 100) (streamed_number s bytes (read_record s bytes)) (refusal_number unsound_state)
