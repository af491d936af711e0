-- The number of an answer: what 0 and 7 say of the run, and of state and buffer. Assumes nothing.
use mathlib.Core.Path.{◌≡◌, refl, ap}
use mathlib.Core.Bool.{Bool, true, false}
use mathlib.Core.List.{[], ◌∷◌}
use Prim.Native.Nat.{ℕ, ◌≤◌, ◌+◌}
use native.Mathlib.Omega.{arith}
use lib.ListN.{length, length-append}
use lib.Dec.{leb, leb→le}
use Rattle.std.specs.Prelude.{if◌then◌else◌}
use Rattle.definition.specs.Types.{State, TypingError, SubtypeError, Incompatible, ArityMismatch, RecursiveType, Refusal, malformed, unknown_name, full, too_deep, runs_into_itself, abilities_disagree, open_variable, no_argument, parameter_twice, answer_too_long, unsound_state, mark_contradicted, already_expanded, doubled_reference, Result, ok, err, refused}
use Rattle.definition.specs.Write.{Bytes, write_error, u32}
use Rattle.definition.specs.Reader.{got}
use Rattle.definition.specs.Record.{Record, read_record}
use Rattle.definition.specs.Sound.{sound}
use Rattle.definition.specs.Step.{run, number_of_error, number_of_refusal, refusal, put_back, max_payload, answer_with, answer_within, answer, as_others, apart, most_of, reply, least_buffer, usable, lent, step, Answer, behind, tail_of, counted}
use Rattle.theorems.proofs.SoundFacts.{and_r, test}

-- ---- the number of an answer

abbrev pub if_short : State → ℕ → Bytes → State → Bool → Answer
if_short before n p after b = if b then record { number = n; payload = p; state = after } else record { number = 14; payload = []; state = before }

pub with_is : (before : State) (n : ℕ) (p : Bytes) (after : State) → answer_with max_payload before n p after ≡ if_short before n p after (leb (length p) 4096)
unfolding answer_with refusal number_of_refusal max_payload
with_is before n p after = refl

-- a payload of 0
pub record Zero (m : Result (State × Bytes)) (p : Bytes) : Type 0 where
  pub left : State
  pub is_ok : m ≡ ok (left, p)
  pub short : length p ≤ 4096

error_low : (e : TypingError) → (number_of_error e ≡ 0 → ⊥) × (number_of_error e ≡ 7 → ⊥)
unfolding number_of_error
error_low (SubtypeError a b) = (λ h. absurd (omega (arith, h)), λ h. absurd (omega (arith, h)))
error_low (Incompatible a b) = (λ h. absurd (omega (arith, h)), λ h. absurd (omega (arith, h)))
error_low (ArityMismatch a b) = (λ h. absurd (omega (arith, h)), λ h. absurd (omega (arith, h)))
error_low (RecursiveType l) = (λ h. absurd (omega (arith, h)), λ h. absurd (omega (arith, h)))

seven_full : (x : Refusal) → number_of_refusal x ≡ 7 → x ≡ full
unfolding number_of_refusal
seven_full malformed h = absurd (omega (arith, h))
seven_full unknown_name h = absurd (omega (arith, h))
seven_full full h = refl
seven_full too_deep h = absurd (omega (arith, h))
seven_full runs_into_itself h = absurd (omega (arith, h))
seven_full abilities_disagree h = absurd (omega (arith, h))
seven_full open_variable h = absurd (omega (arith, h))
seven_full no_argument h = absurd (omega (arith, h))
seven_full parameter_twice h = absurd (omega (arith, h))
seven_full answer_too_long h = absurd (omega (arith, h))
seven_full unsound_state h = absurd (omega (arith, h))
seven_full mark_contradicted h = absurd (omega (arith, h))
seven_full already_expanded h = absurd (omega (arith, h))
seven_full doubled_reference h = absurd (omega (arith, h))

-- a refusal is 5 or more
pub refusal_number_5 : (x : Refusal) → 5 ≤ number_of_refusal x
unfolding number_of_refusal
refusal_number_5 malformed = omega arith
refusal_number_5 unknown_name = omega arith
refusal_number_5 full = omega arith
refusal_number_5 too_deep = omega arith
refusal_number_5 runs_into_itself = omega arith
refusal_number_5 abilities_disagree = omega arith
refusal_number_5 open_variable = omega arith
refusal_number_5 no_argument = omega arith
refusal_number_5 parameter_twice = omega arith
refusal_number_5 answer_too_long = omega arith
refusal_number_5 unsound_state = omega arith
refusal_number_5 mark_contradicted = omega arith
refusal_number_5 already_expanded = omega arith
refusal_number_5 doubled_reference = omega arith

ok_0 : (S after : State) (p : Bytes) (b : Bool) → leb (length p) 4096 ≡ b → (if_short S 0 p after b).number ≡ 0 → Zero (ok (after, p)) (if_short S 0 p after b).payload
ok_0 S after p true e h = record { left = after; is_ok = refl; short = leb→le (length p) 4096 (test e) }
ok_0 S after p false e h = absurd (omega (arith, h))

err_not : (S after : State) (n k : ℕ) (p : Bytes) (b : Bool) → (n ≡ k → ⊥) → (14 ≡ k → ⊥) → (if_short S n p after b).number ≡ k → ⊥
err_not S after n k p true d c h = d h
err_not S after n k p false d c h = c h

pub answered_0 : (S : State) (m : Result (State × Bytes)) → (answer S m).number ≡ 0 → Zero m (answer S m).payload
unfolding answer answer_within behind refusal
answered_0 S (ok (after, p)) h = rw (with_is S 0 p after) (ok_0 S after p (leb (length p) 4096) refl (rw (with_is S 0 p after) at h))
answered_0 S (err after e) h = absurd (err_not S (put_back S after) (number_of_error e) 0 (write_error after e) (leb (length (write_error after e)) 4096) (error_low e).0 (λ q. absurd (omega (arith, q))) (rw (with_is S (number_of_error e) (write_error after e) (put_back S after)) at h))
answered_0 S (refused x) h = absurd (omega (arith, h, refusal_number_5 x))

-- 7 is the refusal of a run
pub answered_7 : (S : State) (m : Result (State × Bytes)) → (answer S m).number ≡ 7 → m ≡ refused full
unfolding answer answer_within behind refusal
answered_7 S (ok (after, p)) h = absurd (err_not S after 0 7 p (leb (length p) 4096) (λ q. absurd (omega (arith, q))) (λ q. absurd (omega (arith, q))) (rw (with_is S 0 p after) at h))
answered_7 S (err after e) h = absurd (err_not S (put_back S after) (number_of_error e) 7 (write_error after e) (leb (length (write_error after e)) 4096) (error_low e).1 (λ q. absurd (omega (arith, q))) (rw (with_is S (number_of_error e) (write_error after e) (put_back S after)) at h))
answered_7 S (refused x) h = ap refused (seven_full x h)

pub full_7 : (S : State) → (answer S (refused full)).number ≡ 7
unfolding answer answer_within refusal number_of_refusal
full_7 S = refl

-- ---- a count behind a payload

pub behind_length : (tail p : Bytes) → length (behind tail p) ≡ length p + length tail
unfolding behind
behind_length [] p = omega arith
behind_length (b ∷ tail) p = length-append p (b ∷ tail)

pub counted_short : (m : Result ℕ) → length (counted m) ≤ 4
unfolding counted u32
counted_short (ok n) = omega arith
counted_short (err s e) = omega arith
counted_short (refused x) = omega arith

-- ---- a lent record

abbrev by_test : Bool → Answer → Answer → Answer
by_test b one other = elim b [ true ↦ one | false ↦ other ]

pub usable_is : (S : State) (bytes : Bytes) (buffer : ℕ) → (step S bytes buffer).number ≡ 0 → usable S bytes buffer ≡ true
unfolding step refusal number_of_refusal
usable_is S bytes buffer number = go (usable S bytes buffer) number
  where
    go : (b : Bool) → (by_test b (lent S (read_record S bytes)) (refusal S unsound_state)).number ≡ 0 → b ≡ true
    go true h = refl
    go false h = absurd (omega (arith, h))

-- what it asked of state and buffer
pub sound_of : (S : State) (bytes : Bytes) (buffer : ℕ) → usable S bytes buffer ≡ true → sound S ≡ true
unfolding usable
sound_of S bytes buffer u = and_r (leb (least_buffer bytes) buffer) (sound S) u

-- of a record that is answered as the others are
pub step_runs : (S : State) (bytes : Bytes) (buffer : ℕ) (r : Record) → usable S bytes buffer ≡ true → read_record S bytes ≡ got r [] → apart r ≡ as_others → step S bytes buffer ≡ answer S (run S r)
unfolding step lent reply most_of tail_of answer
step_runs S bytes buffer r u e a = rw (u, step) (rw e (rw a refl))
