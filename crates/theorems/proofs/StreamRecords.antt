-- A stream as a job: its records, each cut off where it ends, and the log of such a job. Assumes nothing: these are definitions.
use mathlib.Core.List.{List, [], ◌∷◌}
use Prim.Native.Nat.{ℕ, zero, suc, ◌-◌}
use lib.ListN.{length, take}
use Rattle.definition.specs.Types.{State, fresh}
use Rattle.definition.specs.Write.{Bytes}
use Rattle.definition.specs.Reader.{got, not_read}
use Rattle.definition.specs.Record.{read_record}
use Rattle.definition.specs.Step.{job_buffer, step, step_stream}
use Rattle.definition.specs.Job.{Entry}

-- the bytes that were read, where `rest` is left
unfoldable pub front : Bytes → Bytes → Bytes
front bytes rest = take (length bytes - length rest) bytes

-- a stream as a job: its records, at most n, each cut off where it ends and lent a whole buffer. One that cannot be read is the last, with all that is left
unfoldable pub records_from : ℕ → State → Bytes → List (Bytes × ℕ)
records_from zero s bytes = []
records_from (suc n) s [] = []
records_from (suc n) s (b ∷ bytes) = elim (read_record s (b ∷ bytes)) [
  | got r rest ↦ (front (b ∷ bytes) rest, job_buffer) ∷ records_from n (step_stream s (b ∷ bytes) job_buffer).0.state rest
  | not_read x ↦ (b ∷ bytes, job_buffer) ∷ []
]

unfoldable pub records_of : Bytes → List (Bytes × ℕ)
records_of bytes = records_from (length bytes) fresh bytes

-- the log of a job, its records numbered from i on (proofs/StreamJob.antt: a stream's log is that of its records)
unfoldable pub entries : ℕ → State → List (Bytes × ℕ) → List Entry
entries i s [] = []
entries i s ((bytes, buffer) ∷ records) = let a = step s bytes buffer in record { index = i; number = a.number; payload = a.payload } ∷ entries (suc i) a.state records
