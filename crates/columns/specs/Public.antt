-- What each public call is to give where the nodes are lent in columns, outright, whatever it is lent. Assumes nothing: these are definitions.
-- Each is the row layout's call (crates/engine/specs/Public.antt, crates/split/specs/Rest.antt) on the rows that the columns stand for.
use Rattle.std.specs.Prelude.{Bool, true, false, ◌&&◌, List, [], ◌∷◌, ℕ}
use Rattle.definition.specs.Write.{Bytes}
use Rattle.sound.specs.Lent.{lent_sound}
use Rattle.engine.specs.Public.{LentAnswer, lent_step, LentPiece, lent_lines, fresh_lines}
use Rattle.split.specs.Rest.{rest_of}
use Rattle.columns.specs.Columns.{Columns, fits, rows_of, back}

-- ---- one lent record

-- number and payload, and the columns and parameter bytes that are left
pub record ColumnAnswer : Type 0 where
  pub number : ℕ
  pub payload : Bytes
  pub columns : Columns
  pub params : List (List ℕ)

unfoldable pub column_answer : Columns → LentAnswer → ColumnAnswer
column_answer C a = record { number = a.number; payload = a.payload; columns = back C a.words; params = a.params }

-- columns that do not fit are no state's, 15
unfoldable pub column_step : Columns → List (List ℕ) → Bytes → ℕ → ColumnAnswer
column_step C params bytes buffer = elim (fits C) [
  | true ↦ column_answer C (lent_step (rows_of C) params bytes buffer)
  | false ↦ record { number = 15; payload = []; columns = C; params = params }
]

-- ---- a job's next lines

pub record ColumnPiece : Type 0 where
  pub number : ℕ
  pub text : Bytes
  pub columns : Columns
  pub params : List (List ℕ)
  pub rest : Bytes
  pub index : ℕ
  pub ended : Bool

unfoldable pub column_piece : Columns → LentPiece → ColumnPiece
column_piece C p = record { number = p.number; text = p.text; columns = back C p.words; params = p.params; rest = p.rest; index = p.index; ended = p.ended }

-- 15, and the job ends
unfoldable pub no_piece : Columns → List (List ℕ) → ℕ → Bytes → ColumnPiece
no_piece C params index stream = record { number = 15; text = []; columns = C; params = params; rest = stream; index = index; ended = true }

unfoldable pub column_lines : Columns → List (List ℕ) → ℕ → Bytes → ℕ → Bool → ColumnPiece
column_lines C params index stream room more = elim (fits C) [
  | true ↦ column_piece C (lent_lines (rows_of C) params index stream room more)
  | false ↦ no_piece C params index stream
]

-- a job's first lines, from a fresh state whatever the columns hold
unfoldable pub column_fresh : Columns → List (List ℕ) → Bytes → ℕ → Bool → ColumnPiece
column_fresh C params stream room more = elim (fits C) [
  | true ↦ column_piece C (fresh_lines (rows_of C) params stream room more)
  | false ↦ no_piece C params 0 stream
]

-- ---- the stream after one record

unfoldable pub column_rest : Columns → List (List ℕ) → Bytes → Bytes
column_rest C params stream = elim (fits C) [
  | true ↦ rest_of (rows_of C) params stream
  | false ↦ stream
]

-- ---- a saved state of the row layout

pub record Conversion : Type 0 where
  pub number : ℕ
  pub columns : Columns

-- the columns with what the saved words hold, 0; or 15, and they are as they were. The saved words and the parameter bytes are only read
unfoldable pub convert : List ℕ → List (List ℕ) → Columns → Conversion
convert saved params C = elim (fits C && lent_sound saved params) [
  | true ↦ record { number = 0; columns = back C saved }
  | false ↦ record { number = 15; columns = C }
]

-- ---- records one after the other

-- a record's bytes, and the buffer that its call is lent
pub record Call : Type 0 where
  pub bytes : Bytes
  pub buffer : ℕ

-- what a caller is told of each, number and payload: each is lent what the one before it left
unfoldable pub row_answers : List Call → List ℕ → List (List ℕ) → List (ℕ × Bytes)
row_answers [] w params = []
row_answers (c ∷ cs) w params = let a = lent_step w params c.bytes c.buffer in (a.number, a.payload) ∷ row_answers cs a.words a.params

unfoldable pub column_answers : List Call → Columns → List (List ℕ) → List (ℕ × Bytes)
column_answers [] C params = []
column_answers (c ∷ cs) C params = let a = column_step C params c.bytes c.buffer in (a.number, a.payload) ∷ column_answers cs a.columns a.params
