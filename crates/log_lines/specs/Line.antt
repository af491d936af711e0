-- A line of the log in a buffer. Assumes nothing: these are definitions.
use Rattle.std.specs.Prelude.{◌≡◌, List, [], ◌∷◌, ◌++◌, ℕ, ◌+◌, length, take, drop}
use Rattle.definition.specs.Write.{Bytes}
use Rattle.definition.specs.Job.{Entry, decimal, payload_text, line}

-- the bytes were written from place `at` on, all else is as it was, and they end at `next`
pub record Wrote (log : List ℕ) (at : ℕ) (bytes : Bytes) (log' : List ℕ) (next : ℕ) : Type 0 where
  pub next_is : next ≡ at + length bytes
  pub is : log' ≡ take at log ++ bytes ++ drop (at + length bytes) log

abbrev pub entry : ℕ → ℕ → Bytes → Entry
entry index number payload = record { index = index; number = number; payload = payload }

-- the line of record `index`, answered by `number` with this payload
abbrev pub line_of : ℕ → ℕ → Bytes → Bytes
line_of index number payload = line (entry index number payload)

-- .. up to the answer's number, and from there on
abbrev pub begin_of : ℕ → Bytes
begin_of index = decimal index ++ (32 ∷ [])

abbrev pub end_of : ℕ → Bytes → Bytes
end_of number payload = (decimal number ++ payload_text payload) ++ (10 ∷ [])
