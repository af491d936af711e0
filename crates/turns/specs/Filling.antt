-- Where a turn stands in the bytes read, what a read leaves there, and what listing lines makes of it. Assumes nothing: these are definitions.
use Rattle.std.specs.Prelude.{◌≡◌, Bool, true, false, ◌||◌, ◌&&◌, List, [], ℕ, ◌+◌, ◌-◌, ◌≤◌, ltb, length, take, drop, Option, Some, None, IfSome, Result, Ok, Err}
use Rattle.std.specs.Result.{result_unwrap_or}
use Rattle.std.specs.Io.KnownBytes.{Appends, Consumes}
use Rattle.engine.specs.declared.Lines.{Lines}
use Rattle.turns.specs.declared.Stage.{Stage}
use Rattle.turns.specs.declared.Stage.TheVariants.{Going, Ended, Unread, Unwritten}
use Rattle.turns.specs.declared.Turn.{Turn}

-- the job goes no further
abbrev pub ended : Stage → Bool
ended Going = false
ended Ended = true
ended Unread = true
ended Unwritten = true

-- .. since a read or a write failed
abbrev pub lost : Stage → Bool
lost Going = false
lost Ended = false
lost Unread = true
lost Unwritten = true

-- before the first turn: nothing read, no line asked for
abbrev pub first : Turn
first = record { from = 0; have = 0; more = true; index = None; read = 0; written = 0; stage = Going }

-- the bytes from place `from` up to place `have`
abbrev pub at_hand : ℕ → ℕ → List ℕ → List ℕ
at_hand from have buf = take (have - from) (drop from buf)

-- the bytes at hand lie within the buffer
pub record Within (t : Turn) (buf : List ℕ) : Type 0 where
  pub ordered : t.from ≤ t.have
  pub inside : t.have ≤ length buf

-- more bytes may follow, and those at hand are fewer than a record may have
abbrev pub short : Turn → Bool
short t = t.more && ltb (t.have - t.from) 4096

-- ---- reading

-- one read: the first `have` bytes are as they were, and those that it brought, none if it failed, stand behind them
pub record Behind {E : Type 0} (buf : List ℕ) (have : ℕ) (buf' : List ℕ) (got : Result ℕ E) : Type 0 where
  pub inside : have + result_unwrap_or got 0 ≤ length buf
  pub kept : take have buf' ≡ take have buf

-- what a read came to, behind the `left` bytes in front. More may follow, unless it brought none; where it failed, the job ends, and what is at hand is not the stream's end
abbrev pub moved : {E : Type 0} → Turn → ℕ → Result ℕ E → Turn
moved t left (Ok n) = record { from = 0; have = left + n; more = ltb 0 n; index = t.index; read = n; written = 0; stage = Going }
moved t left (Err e) = record { from = 0; have = left; more = true; index = t.index; read = 0; written = 0; stage = Unread }

-- the bytes that the last turn read: the last of those at hand
unfoldable pub last_read : Turn → List ℕ → List ℕ
last_read t buf = take t.read (drop (t.have - t.read) buf)

-- a turn that reads on: the bytes at hand now stand in front, and what a read came to behind them
pub record Filled (buf : List ℕ) (t : Turn) (buf' : List ℕ) (t' : Turn) : Type 0 where
  pub front : t'.from ≡ 0
  pub kept : take (t.have - t.from) buf' ≡ at_hand t.from t.have buf
  pub end : t'.have ≡ (t.have - t.from) + t'.read
  pub inside : t'.have ≤ length buf
  pub follow : t'.more ≡ (ltb 0 t'.read || lost t'.stage)
  pub none : lost t'.stage ≡ true → t'.read ≡ 0
  pub same_index : t'.index ≡ t.index
  pub silent : t'.written ≡ 0
  pub ends : ended t'.stage ≡ lost t'.stage

-- what a reader is known to have left begins with these bytes, and it loses them; none is left where no more may follow, and did before
pub record Took (remaining remaining' : Option (List ℕ)) (bytes : List ℕ) (more more' : Bool) : Type 0 where
  pub front : Consumes remaining remaining' bytes
  pub spent : more ≡ true → more' ≡ false → IfSome remaining (λ known. remaining' ≡ Some [])

-- ---- writing

-- where a write came to this, after lines that end the job or do not
abbrev pub stage_after : {A E : Type 0} → Bool → Result A E → Stage
stage_after true (Ok x) = Ended
stage_after false (Ok x) = Going
stage_after b (Err e) = Unwritten

-- after these lines, so much text of which the writer was handed: the job goes on behind them, from their record number, unless they end it or could not be written
abbrev pub handed : {A E : Type 0} → Turn → ℕ → Lines → Result A E → Turn
handed t text lines done = record { from = t.from + lines.read; have = t.have; more = t.more; index = Some lines.index; read = 0; written = text; stage = stage_after lines.ended done }

pub record Handed (t : Turn) (text : ℕ) (lines : Lines) (t' : Turn) : Type 0 where
  pub is : t' ≡ record { from = t.from + lines.read; have = t.have; more = t.more; index = Some lines.index; read = 0; written = text; stage = t'.stage }
  pub ends : ended t'.stage ≡ (lines.ended || lost t'.stage)

-- what a writer is known to hold grew by this text, unless it could not be written
abbrev pub Gave : Option (List ℕ) → Option (List ℕ) → List ℕ → Stage → Type 0
Gave contents contents' text stage = lost stage ≡ false → Appends contents contents' text
