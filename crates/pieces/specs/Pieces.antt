-- A job piece by piece: the lines of as many records as the bytes at hand hold whole and the log's room surely takes. Assumes nothing: these are definitions.
use Rattle.std.specs.Prelude.{Bool, true, false, not, ◌||◌, ◌&&◌, [], ◌∷◌, ◌++◌, ℕ, zero, suc, ◌-◌, length, leb, ltb, ◌+◌, ◌*◌}
use Rattle.definition.specs.Types.{State}
use Rattle.definition.specs.Write.{Bytes}
use Rattle.definition.specs.Record.{max_record}
use Rattle.definition.specs.Step.{step_stream, least_buffer, job_buffer}
use Rattle.definition.specs.Job.{Entry, ends_job, line}

-- no line of a record is longer: 20 digits, a space, 2 digits, a space, two digits for each byte of its payload, the end. The record's first two bytes tell it
unfoldable pub line_room : Bytes → ℕ
line_room bytes = 25 + 2 * least_buffer bytes

-- no line at all is longer: that of an MJ, of 2 · 61,485 digits
unfoldable pub max_line : ℕ
max_line = 122995

-- record numbers are counted up to here: 2 to the 64, less one
unfoldable pub max_index : ℕ
max_index = 18446744073709551615

-- the lines, the state and the bytes that they leave, the next record's number, and whether the job ended
pub record Piece : Type 0 where
  pub text : Bytes
  pub state : State
  pub rest : Bytes
  pub index : ℕ
  pub ended : Bool

-- record i is taken on: its bytes are at hand, unless no more follow, its line surely fits, and so does the number after i
unfoldable pub takes_on : ℕ → Bytes → ℕ → Bool → Bool
takes_on i bytes room more = (not more || leb max_record (length bytes)) && (leb (line_room bytes) room && ltb i max_index)

unfoldable pub halt : ℕ → State → Bytes → Bool → Piece
halt i s bytes ended = record { text = []; state = s; rest = bytes; index = i; ended = ended }

unfoldable pub after_line : Bytes → Piece → Piece
after_line text p = record { text = text ++ p.text; state = p.state; rest = p.rest; index = p.index; ended = p.ended }

-- at most n records, from number i on; `more`: further bytes follow these, else an empty rest ends the job
unfoldable pub next_from : ℕ → ℕ → State → Bytes → ℕ → Bool → Piece
next_from zero i s [] room more = halt i s [] (not more)
next_from zero i s (b ∷ bytes) room more = halt i s (b ∷ bytes) false
next_from (suc n) i s [] room more = halt i s [] (not more)
next_from (suc n) i s (b ∷ bytes) room more =
    elim (takes_on i (b ∷ bytes) room more) [
      | false ↦ halt i s (b ∷ bytes) false
      | true ↦
          (let (a, rest) = step_stream s (b ∷ bytes) job_buffer in
          let entry : Entry = record { index = i; number = a.number; payload = a.payload } in
          elim (ends_job a.number) [
            | true ↦ after_line (line entry) (halt (suc i) a.state rest true)
            | false ↦ after_line (line entry) (next_from n (suc i) a.state rest (room - length (line entry)) more)
          ])
    ]

-- a record has two bytes or more, so the bytes are more than the records
unfoldable pub next_lines : ℕ → State → Bytes → ℕ → Bool → Piece
next_lines i s bytes room more = next_from (length bytes) i s bytes room more
