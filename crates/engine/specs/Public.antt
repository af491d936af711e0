-- What each public call gives, outright, whatever it is lent. Assumes nothing: these are definitions.
use Rattle.std.specs.Prelude.{◌≡◌, Bool, true, false, List, [], ◌++◌, ℕ, ◌≤◌, eqb, length, drop, Result, Ok, Err}
use Rattle.definition.specs.Types.{fresh}
use Rattle.definition.specs.Write.{Bytes}
use Rattle.definition.specs.Step.{Answer, step}
use Rattle.pieces.specs.Pieces.{Piece, next_lines}
use Rattle.table.specs.Encode.{encode}
use Rattle.sound.specs.Lent.{decode, encode_params, lent_sound}
use Rattle.engine.specs.declared.Answered.{Answered}
use Rattle.lent.specs.declared.Unsound.{Unsound}
use Rattle.lines.specs.declared.Lines.{Lines}
use Rattle.lines.specs.Lists.{no_lines}

-- ---- one lent record

-- number and payload, and the words and parameter bytes that are left
pub record LentAnswer : Type 0 where
  pub number : ℕ
  pub payload : Bytes
  pub words : List ℕ
  pub params : List (List ℕ)

unfoldable pub lent_answer : Answer → LentAnswer
lent_answer a = record { number = a.number; payload = a.payload; words = encode a.state; params = encode_params a.state }

-- the definition's step on the state that is lent; words that no sound state has are 15
unfoldable pub lent_step : List ℕ → List (List ℕ) → Bytes → ℕ → LentAnswer
lent_step w params bytes buffer = elim (lent_sound w params) [
  | true ↦ lent_answer (step (decode w params) bytes buffer)
  | false ↦ record { number = 15; payload = []; words = w; params = params }
]

-- bytes in front of a buffer, which is else as it was
unfoldable pub in_front : Bytes → Bytes → Bytes
in_front bytes buffer = bytes ++ drop (length bytes) buffer

-- a refusal is 15, without a payload
abbrev pub answer_of : Result Answered Unsound → Answered
answer_of (Ok r) = r
answer_of (Err e) = record { number = 15; length = 0 }

-- what a call leaves that is to give answer a, its payload in front of the buffer
pub record GivesAnswer (a : LentAnswer) (buffer : Bytes) (r : Answered) (words' : List ℕ) (params' : List (List ℕ)) (buffer' : Bytes) : Type 0 where
  pub told : r.number ≡ a.number
  pub words : words' ≡ a.words
  pub params : params' ≡ a.params
  pub front : buffer' ≡ in_front a.payload buffer
  pub size : r.length ≡ length a.payload

-- ---- a job's next lines

-- 0, or 15 for an unsound state, which ends the job; the lines; words and bytes; the unread rest, the next record's number, and whether the job ended
pub record LentPiece : Type 0 where
  pub number : ℕ
  pub text : Bytes
  pub words : List ℕ
  pub params : List (List ℕ)
  pub rest : Bytes
  pub index : ℕ
  pub ended : Bool

unfoldable pub lent_piece : Piece → LentPiece
lent_piece p = record { number = 0; text = p.text; words = encode p.state; params = encode_params p.state; rest = p.rest; index = p.index; ended = p.ended }

unfoldable pub lent_lines : List ℕ → List (List ℕ) → ℕ → Bytes → ℕ → Bool → LentPiece
lent_lines w params index stream room more = elim (lent_sound w params) [
  | true ↦ lent_piece (next_lines index (decode w params) stream room more)
  | false ↦ record { number = 15; text = []; words = w; params = params; rest = stream; index = index; ended = true }
]

-- a job's first lines, from a fresh state whatever the words hold; words of another length are those of no state, 15
unfoldable pub fresh_lines : List ℕ → List (List ℕ) → Bytes → ℕ → Bool → LentPiece
fresh_lines w params stream room more = elim (eqb (length w) 24069) [
  | true ↦ lent_lines (encode fresh) (encode_params fresh) 0 stream room more
  | false ↦ lent_lines w params 0 stream room more
]

-- a refusal is 15
abbrev pub number_of : Result Lines Unsound → ℕ
number_of (Ok r) = 0
number_of (Err e) = 15

abbrev pub lines_of : ℕ → Result Lines Unsound → Lines
lines_of index (Ok r) = r
lines_of index (Err e) = no_lines index

-- what a call leaves that is to give piece p of a stream's lines, its text in front of the log
pub record GivesLines (p : LentPiece) (stream log : Bytes) (number : ℕ) (r : Lines) (words' : List ℕ) (params' : List (List ℕ)) (log' : Bytes) : Type 0 where
  pub told : number ≡ p.number
  pub words : words' ≡ p.words
  pub params : params' ≡ p.params
  pub front : log' ≡ in_front p.text log
  pub size : r.written ≡ length p.text
  pub fits : r.written ≤ length log
  pub rest : drop r.read stream ≡ p.rest
  pub inside : r.read ≤ length stream
  pub next : r.index ≡ p.index
  pub ends : r.ended ≡ p.ended
