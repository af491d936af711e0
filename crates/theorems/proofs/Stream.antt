-- A record takes a byte or more from its stream, and what it does not read it answers with 5, 6 or 18: so a job has no more records than bytes. Assumes nothing.
use mathlib.Core.Path.{◌≡◌, refl, ap}
use mathlib.Core.Bool.{Bool, true, false}
use mathlib.Core.List.{List, [], ◌∷◌}
use Prim.Native.Nat.{ℕ, zero, suc, ◌-◌, ◌≤◌}
use native.Mathlib.Omega.{arith}
use lib.ListN.{length}
use Rattle.definition.specs.Types.{State, fresh, Refusal}
use Rattle.definition.specs.Write.{Bytes, IsBytes}
use Rattle.definition.specs.Reader.{Read, got, not_read}
use Rattle.definition.specs.Record.{Record, read_record}
use Rattle.definition.specs.Sound.{sound}
use Rattle.definition.specs.Step.{Answer, refusal, number_of_refusal, job_buffer, streamed, step_stream}
use Rattle.definition.specs.Job.{Entry, ends_job, job_from, job_log}
use Rattle.theorems.proofs.DemandTracks.{never}
use Rattle.theorems.proofs.SoundRead.{ReadTime, five, six, eighteen, ReadWell, given, not_given, well_read}
use Rattle.theorems.proofs.SoundKept.{stream_sound_kept, trusted, fresh_sound}

-- the rest has fewer bytes, or the job is over
pub data Goes_on (bytes : Bytes) (r : Answer × Bytes) : Type 0 where
  shorter : length r.1 ≤ length bytes → Goes_on bytes r
  over : ends_job r.0.number ≡ true → Goes_on bytes r

pub ends : {x : Refusal} → ReadTime x → ends_job (number_of_refusal x) ≡ true
unfolding number_of_refusal ends_job
ends five = refl
ends six = refl
ends eighteen = refl

pub stream_on : (s : State) → sound s ≡ true → (b : ℕ) (bytes : Bytes) → Goes_on bytes (step_stream s (b ∷ bytes) job_buffer)
unfolding streamed refusal
stream_on s h b bytes = rw (trusted s (b ∷ bytes) h) (go (read_record s (b ∷ bytes)) (well_read ⊥ s (b ∷ bytes) (λ x. absurd x)))
  where
    go : (r : Read Record) → ReadWell ⊥ s (length (b ∷ bytes) - 1) r → Goes_on bytes (streamed s (b ∷ bytes) r)
    go (got a rest) (given p i l) = shorter (omega arith)
    go (not_read x) (not_given t) = over (ends t)

-- with as many records as there are bytes, or more, a job is whole
pub job_enough : (n m i : ℕ) (s : State) (bytes : Bytes) → IsBytes bytes → sound s ≡ true → length bytes ≤ n → length bytes ≤ m → job_from n i s bytes ≡ job_from m i s bytes
unfolding job_from
job_enough zero zero i s [] is h l k = refl
job_enough zero (suc m) i s [] is h l k = refl
job_enough (suc n) zero i s [] is h l k = refl
job_enough (suc n) (suc m) i s [] is h l k = refl
job_enough zero m i s (b ∷ bytes) is h l k = absurd (omega arith)
job_enough (suc n) zero i s (b ∷ bytes) is h l k = absurd (omega arith)
job_enough (suc n) (suc m) i s (b ∷ bytes) is h l k = go (ends_job (step_stream s (b ∷ bytes) job_buffer).0.number) refl (stream_on s h b bytes) (λ state rest is h l k. job_enough n m (suc i) state rest is h l k)
  where
    r : Answer × Bytes
    r = step_stream s (b ∷ bytes) job_buffer

    kept : (sound r.0.state ≡ true) × IsBytes r.1
    kept = stream_sound_kept s (b ∷ bytes) job_buffer is h

    e : Entry
    e = record { index = i; number = r.0.number; payload = r.0.payload }

    go : (o : Bool) → ends_job r.0.number ≡ o → Goes_on bytes r
        → ((state : State) (rest : Bytes) → IsBytes rest → sound state ≡ true → length rest ≤ n → length rest ≤ m → job_from n (suc i) state rest ≡ job_from m (suc i) state rest)
        → ◌≡◌ {A = List Entry} (elim o [ true ↦ e ∷ [] | false ↦ e ∷ job_from n (suc i) r.0.state r.1 ]) (elim o [ true ↦ e ∷ [] | false ↦ e ∷ job_from m (suc i) r.0.state r.1 ])
    go true d g f = refl
    go false d (over x) f = never (cc)
    go false d (shorter x) f = ap (λ (es : List Entry). e ∷ es) (f r.0.state r.1 kept.1 kept.0 (omega (arith, l)) (omega (arith, k)))

-- joinlog's count of records, the number of bytes, is enough
pub job_whole : (n : ℕ) (bytes : Bytes) → IsBytes bytes → length bytes ≤ n → job_from n 0 fresh bytes ≡ job_log bytes
unfolding job_log
job_whole n bytes is l = job_enough n (length bytes) 0 fresh bytes is fresh_sound l (omega arith)
