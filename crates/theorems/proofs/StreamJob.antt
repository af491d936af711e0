-- A stream's log is the log of its records, each cut off and lent alone. So R-4 holds of streams. Assumes nothing.
-- First that a run's answer does not end the job, then one record (Cuts: it is read alike alone), then the log by induction on the records. R-4 is Locations', of these records.
use mathlib.Core.Path.{◌≡◌, refl, sym, ap, ◌∙◌, subst}
use mathlib.Core.Bool.{Bool, true, false}
use mathlib.Core.List.{List, [], ◌∷◌, map}
use Prim.Native.Nat.{ℕ, zero, suc, ◌-◌}
use lib.ListN.{length}
use lib.Dec.{leb}
use Rattle.std.specs.Prelude.{if◌then◌else◌}
use Rattle.definition.specs.Types.{State, fresh, TypingError, SubtypeError, Incompatible, ArityMismatch, RecursiveType, Refusal, answer_too_long, Result, ok, err, refused}
use Rattle.definition.specs.Write.{Bytes, IsBytes}
use Rattle.definition.specs.Reader.{Read, got, not_read}
use Rattle.definition.specs.Record.{Record, read_record}
use Rattle.definition.specs.Sound.{sound}
use Rattle.definition.specs.Step.{run, Answer, number_of_error, number_of_refusal, refusal, answer_with, answer_within, apart, most_of, reply, job_buffer, lent, step, streamed, step_stream, behind, tail_of}
use Rattle.definition.specs.Job.{Entry, ends_job, job_from, job_log}
use Rattle.theorems.proofs.StreamRecords.{front, records_from, records_of, entries}
use Rattle.definition.specs.Locations.{blank_job, Seen, seen, blank_log, JobOfBytes, LocationsDecideNothing}
use Rattle.theorems.proofs.TotalWalk.{RunTime, seven, eight, nine, ten, eleven, twelve, thirteen, sixteen, seventeen}
use Rattle.theorems.proofs.TotalLate.{Late, fine, wrong, down, run_late}
use Rattle.theorems.proofs.SoundRead.{bytes_take, ReadTime, ReadWell, not_given, well_read}
use Rattle.theorems.proofs.SoundKept.{stream_sound_kept, usable_sound, trusted, fresh_sound}
use Rattle.theorems.proofs.Stream.{ends}
use Rattle.theorems.proofs.StreamCuts.{Fronted, fronted, not_fronted, fronts}
use Rattle.theorems.proofs.EraseLocations.{locations_decide_nothing}

-- ---- a run's answer does not end the job

run_goes_on : {z : Bool} {x : Refusal} → RunTime z x → ends_job (number_of_refusal x) ≡ false
unfolding ends_job number_of_refusal
run_goes_on seven = refl
run_goes_on eight = refl
run_goes_on (nine y) = refl
run_goes_on ten = refl
run_goes_on eleven = refl
run_goes_on twelve = refl
run_goes_on thirteen = refl
run_goes_on (sixteen y) = refl
run_goes_on (seventeen y) = refl

error_goes_on : (e : TypingError) → ends_job (number_of_error e) ≡ false
unfolding ends_job number_of_error
error_goes_on (SubtypeError t u) = refl
error_goes_on (Incompatible t u) = refl
error_goes_on (ArityMismatch t u) = refl
error_goes_on (RecursiveType loc) = refl

with_goes_on : (most : ℕ) (s : State) (n : ℕ) (p : Bytes) (s' : State) → ends_job n ≡ false → ends_job (answer_with most s n p s').number ≡ false
unfolding answer_with refusal ends_job number_of_refusal
with_goes_on most s n p s' e = go (leb (length p) most)
  where
    go : (b : Bool) → ends_job (if b then record { number = n; payload = p; state = s' } else refusal s answer_too_long).number ≡ false
    go true = e
    go false = refl

answer_goes_on : (most : ℕ) (tail : Bytes) (s : State) (m : Result (State × Bytes)) → Late true m → ends_job (answer_within most tail s m).number ≡ false
unfolding answer_within refusal ends_job
answer_goes_on most tail s (ok (s', p)) fine = with_goes_on most s 0 (behind tail p) s' refl
answer_goes_on most tail s (err s' e) wrong = with_goes_on most s (number_of_error e) _ _ (error_goes_on e)
answer_goes_on most tail s (refused x) (down r) = run_goes_on r

reply_goes_on : (s : State) (r : Record) → ends_job (reply s r).number ≡ false
unfolding reply
reply_goes_on s r = answer_goes_on (most_of (apart r)) (tail_of s (apart r)) s (run s r) (run_late s r)

-- ---- one record

step_lent : (s : State) (bytes : Bytes) → sound s ≡ true → step s bytes job_buffer ≡ lent s (read_record s bytes)
unfolding step
step_lent s bytes h = rw (usable_sound s bytes h, step) refl

abbrev entry : ℕ → Answer → Entry
entry i a = record { index = i; number = a.number; payload = a.payload }

entries_step : (i : ℕ) (s : State) (bytes : Bytes) (records : List (Bytes × ℕ)) (a : Answer) → step s bytes job_buffer ≡ a → entries i s ((bytes, job_buffer) ∷ records) ≡ entry i a ∷ entries (suc i) a.state records
unfolding entries
entries_step i s bytes records a e = rw e refl

ended : (o : Bool) (es fs : List Entry) → o ≡ true → ◌≡◌ {A = List Entry} es (elim o [ true ↦ es | false ↦ fs ])
ended o es fs e = rw e refl

going_on : (o : Bool) (es fs : List Entry) → o ≡ false → ◌≡◌ {A = List Entry} fs (elim o [ true ↦ es | false ↦ fs ])
going_on o es fs e = rw e refl

-- ---- the log

module _ (i : ℕ) (s : State) (h : sound s ≡ true) (bytes : Bytes) (n : ℕ) where
  -- what the log has after an answer
  abbrev onward : Answer × Bytes → List Entry
  onward q = elim (ends_job q.0.number) as (λ o. List Entry) [ true ↦ entry i q.0 ∷ [] | false ↦ entry i q.0 ∷ job_from n (suc i) q.0.state q.1 ]

  -- a record that is read
  read_on : (r : Record) (rest : Bytes) → read_record s (front bytes rest) ≡ got r [] → (q : Answer × Bytes) → q ≡ (reply s r, rest)
      → entries (suc i) q.0.state (records_from n q.0.state q.1) ≡ job_from n (suc i) q.0.state q.1
      → entries i s ((front bytes rest, job_buffer) ∷ records_from n q.0.state rest) ≡ onward q
  unfolding lent
  read_on r rest f q e later =
      let a = reply s r in
      let left : q.1 ≡ rest = ap (λ (q : Answer × Bytes). q.1) e in
      let is : q.0 ≡ a = ap (λ (q : Answer × Bytes). q.0) e in
      let alone : step s (front bytes rest) job_buffer ≡ q.0 = step_lent s (front bytes rest) h ∙ ap (λ (x : Read Record). lent s x) f ∙ sym is in
      let goes : ends_job q.0.number ≡ false = ap (λ (a : Answer). ends_job a.number) is ∙ reply_goes_on s r in
      entries_step i s (front bytes rest) (records_from n q.0.state rest) q.0 alone
      ∙ ap (λ (l : Bytes). entry i q.0 ∷ entries (suc i) q.0.state (records_from n q.0.state l)) (sym left)
      ∙ ap (λ (es : List Entry). entry i q.0 ∷ es) later
      ∙ going_on (ends_job q.0.number) _ _ goes

  -- one that is not
  not_on : (x : Refusal) → ReadTime x → read_record s bytes ≡ not_read x → (q : Answer × Bytes) → q ≡ (refusal s x, bytes) → entries i s ((bytes, job_buffer) ∷ []) ≡ onward q
  unfolding lent refusal entries
  not_on x t d q e =
      let is : q.0 ≡ refusal s x = ap (λ (q : Answer × Bytes). q.0) e in
      let alone : step s bytes job_buffer ≡ q.0 = step_lent s bytes h ∙ ap (λ (x : Read Record). lent s x) d ∙ sym is in
      entries_step i s bytes [] q.0 alone ∙ ended (ends_job q.0.number) _ _ (ap (λ (a : Answer). ends_job a.number) is ∙ ends t)

stream_from : (n i : ℕ) (s : State) (bytes : Bytes) → IsBytes bytes → sound s ≡ true → entries i s (records_from n s bytes) ≡ job_from n i s bytes
unfolding records_from entries job_from streamed
stream_from zero i s bytes is h = refl
stream_from (suc n) i s [] is h = refl
stream_from (suc n) i s (b ∷ bytes) is h =
    let kept = stream_sound_kept s (b ∷ bytes) job_buffer is h in
    go (read_record s (b ∷ bytes)) refl (step_stream s (b ∷ bytes) job_buffer) (trusted s (b ∷ bytes) h) (fronts s (b ∷ bytes)) (well_read ⊥ s (b ∷ bytes) (λ x. absurd x)) (stream_from n (suc i) _ _ kept.1 kept.0)
  where
    go : (x : Read Record) → read_record s (b ∷ bytes) ≡ x → (q : Answer × Bytes) → q ≡ streamed s (b ∷ bytes) x → Fronted s (b ∷ bytes) x → ReadWell ⊥ s (length (b ∷ bytes) - 1) x
        → entries (suc i) q.0.state (records_from n q.0.state q.1) ≡ job_from n (suc i) q.0.state q.1
        → entries i s (elim x [ got r rest ↦ (front (b ∷ bytes) rest, job_buffer) ∷ records_from n q.0.state rest | not_read x ↦ (b ∷ bytes, job_buffer) ∷ [] ])
        ≡ onward i s h (b ∷ bytes) n q
    go (got r rest) d q e (fronted f) w later = read_on i s h (b ∷ bytes) n r rest f q e later
    go (not_read x) d q e not_fronted (not_given t) later = not_on i s h (b ∷ bytes) n x t d q e

pub stream_is_job : (bytes : Bytes) → IsBytes bytes → entries 0 fresh (records_of bytes) ≡ job_log bytes
unfolding records_of job_log
stream_is_job bytes is = stream_from (length bytes) 0 fresh bytes is fresh_sound

-- ---- R-4 of streams

records_bytes : (n : ℕ) (s : State) (bytes : Bytes) → IsBytes bytes → sound s ≡ true → JobOfBytes (records_from n s bytes)
unfolding records_from streamed front
records_bytes zero s bytes is h = tt
records_bytes (suc n) s [] is h = tt
records_bytes (suc n) s (b ∷ bytes) is h =
    let kept = stream_sound_kept s (b ∷ bytes) job_buffer is h in
    go (read_record s (b ∷ bytes)) (step_stream s (b ∷ bytes) job_buffer) (trusted s (b ∷ bytes) h) (records_bytes n _ _ kept.1 kept.0)
  where
    go : (x : Read Record) (q : Answer × Bytes) → q ≡ streamed s (b ∷ bytes) x → JobOfBytes (records_from n q.0.state q.1)
        → JobOfBytes (elim x [ got r rest ↦ (front (b ∷ bytes) rest, job_buffer) ∷ records_from n q.0.state rest | not_read x ↦ (b ∷ bytes, job_buffer) ∷ [] ])
    go (got r rest) q e later = (bytes_take (length (b ∷ bytes) - length rest) (b ∷ bytes) is, subst (λ (l : Bytes). JobOfBytes (records_from n q.0.state l)) (ap (λ (q : Answer × Bytes). q.1) e) later)
    go (not_read x) q e later = (is, tt)

pub streams_alike : (a b : Bytes) → IsBytes a → IsBytes b → blank_job fresh (records_of a) ≡ blank_job fresh (records_of b) → blank_log fresh (records_of a) ≡ blank_log fresh (records_of b)
unfolding records_of LocationsDecideNothing
streams_alike a b i j = locations_decide_nothing (records_of a) (records_of b) (records_bytes (length a) fresh a i fresh_sound) (records_bytes (length b) fresh b j fresh_sound)

-- .. so the lines of their logs have equal answer numbers
abbrev pub line_numbers : List Entry → List ℕ
line_numbers es = map (λ (e : Entry). e.number) es

numbers_are : (i : ℕ) (s : State) (records : List (Bytes × ℕ)) → line_numbers (entries i s records) ≡ map (λ (x : Seen). x.number) (blank_log s records)
unfolding entries blank_log seen
numbers_are i s [] = refl
numbers_are i s ((bytes, buffer) ∷ records) = ap (λ (l : List ℕ). (step s bytes buffer).number ∷ l) (numbers_are (suc i) (step s bytes buffer).state records)

pub logs_alike : (a b : Bytes) → IsBytes a → IsBytes b → blank_job fresh (records_of a) ≡ blank_job fresh (records_of b) → line_numbers (job_log a) ≡ line_numbers (job_log b)
logs_alike a b i j e =
    sym (ap line_numbers (stream_is_job a i)) ∙ numbers_are 0 fresh (records_of a) ∙ ap (λ (l : List Seen). map (λ (x : Seen). x.number) l) (streams_alike a b i j e) ∙ sym (numbers_are 0 fresh (records_of b)) ∙ ap line_numbers (stream_is_job b j)
