-- A turn of the program reads on, or lists the records at hand; a run is turn after turn, and what it hands to the writer is the log of what it read. Assumes nothing: these are definitions.
use Rattle.std.specs.Prelude.{◌≡◌, Bool, true, false, ◌||◌, List, [], ◌++◌, ℕ, suc, ◌+◌, ◌*◌, ◌≤◌, ◌<◌, length, take, Option, Some, None, IfSome}
use Rattle.std.specs.Io.KnownBytes.{Appends}
use Rattle.definition.specs.Write.{IsBytes}
use Rattle.definition.specs.Job.{joinlog}
use Rattle.engine.specs.Public.{LentPiece, in_front, lent_lines, fresh_lines}
use Rattle.turns.specs.declared.Stage.{Stage}
use Rattle.turns.specs.Filling.{ended, lost, first, at_hand, Within, short, last_read, Filled, Took, Gave}
use Rattle.joinlog.specs.declared.Job.{Job}

-- all that the program holds between two turns: the job, and the parameter rows beside it
pub record Held : Type 0 where
  pub job : Job
  pub rows : List (List ℕ)

abbrev pub held : Job → List (List ℕ) → Held
held job rows = record { job = job; rows = rows }

abbrev pub stream : Job → List ℕ
stream h = at_hand h.turn.from h.turn.have h.buf

-- ---- a turn

-- a job's first lines are those from a fresh state, whatever the words hold; then it goes on from a record number
abbrev pub job_lines : Option ℕ → List ℕ → List (List ℕ) → List ℕ → ℕ → Bool → LentPiece
job_lines None words rows bytes room more = fresh_lines words rows bytes room more
job_lines (Some index) words rows bytes room more = lent_lines words rows index bytes room more

-- the job's next lines, of the bytes at hand
abbrev pub lines_of : Held → LentPiece
lines_of h = job_lines h.job.turn.index h.job.words h.rows (stream h.job) (length h.job.log) h.job.turn.more

-- words, rows, log, bytes left and next number are those of the job's next lines, and these were handed to the writer; the job ends just where they end it, or where they could not be written
pub record Listed (h h' : Held) : Type 0 where
  pub words : h'.job.words ≡ (lines_of h).words
  pub rows : h'.rows ≡ (lines_of h).params
  pub text : h'.job.log ≡ in_front (lines_of h).text h.job.log
  pub handed : h'.job.turn.written ≡ length (lines_of h).text
  pub fits : length (lines_of h).text ≤ length h.job.log
  pub within : Within h'.job.turn h.job.buf
  pub rest : stream h'.job ≡ (lines_of h).rest
  pub same_bytes : h'.job.buf ≡ h.job.buf
  pub none : h'.job.turn.read ≡ 0
  pub follow : h'.job.turn.more ≡ h.job.turn.more
  pub next : h'.job.turn.index ≡ Some (lines_of h).index
  pub ends : ended h'.job.turn.stage ≡ ((lines_of h).ended || lost h'.job.turn.stage)

-- a turn reads on where a record may not be whole, and leaves words, rows and log; else it lists the records at hand, and leaves the bytes
pub data Turned (h h' : Held) : Type 0 where
  reads : short h.job.turn ≡ true → h'.job.words ≡ h.job.words → h'.rows ≡ h.rows → h'.job.log ≡ h.job.log → Filled h.job.buf h.job.turn h'.job.buf h'.job.turn → Turned h h'
  lists : short h.job.turn ≡ false → Listed h h' → Turned h h'

-- ---- a run

abbrev pub bytes_read : Job → List ℕ
bytes_read h = last_read h.turn h.buf

-- the text that the last turn handed to the writer: the front of the log
unfoldable pub text_handed : Job → List ℕ
text_handed h = take h.turn.written h.log

-- n turns, none after the job's end: the bytes read, the text handed to the writer, and what is held then
pub data Turns (h₀ : Held) : ℕ → List ℕ → List ℕ → Held → Type 0 where
  none : Turns h₀ 0 [] [] h₀
  and_turn : {n : ℕ} {input output : List ℕ} {h h' : Held} → Turns h₀ n input output h → ended h.job.turn.stage ≡ false → Turned h h'
      → Turns h₀ (suc n) (input ++ bytes_read h'.job) (output ++ text_handed h'.job) h'

-- turns until one ended the job, or 2 to the 64, less one, of them. Each reads a byte or takes on a record, but for two more: one that finds the stream's end, and the last. So the job ends, unless 2 to the 63, less one, bytes are read.
-- Whatever bytes b may follow those read: the text handed over is a front of the log of all of them, and where the job ended and no read or write failed, it is that log
pub record Ran (h₀ h : Held) : Type 0 where
  pub count : ℕ
  pub input : List ℕ
  pub output : List ℕ
  pub turns : Turns h₀ count input output h
  pub bytes : IsBytes input
  pub few : count ≤ 2 * length input + 2
  pub all : ended h.job.turn.stage ≡ false → count ≡ 18446744073709551615
  pub ends : length input < 9223372036854775807 → ended h.job.turn.stage ≡ true
  pub front : (b : List ℕ) → IsBytes b → (h.job.turn.more ≡ false → b ≡ []) → (later : List ℕ) × (joinlog (input ++ b) ≡ output ++ later)
  pub log : ended h.job.turn.stage ≡ true → lost h.job.turn.stage ≡ false → (b : List ℕ) → IsBytes b → (h.job.turn.more ≡ false → b ≡ []) → joinlog (input ++ b) ≡ output

-- .. from a reader to a writer: what is known of them is what the turns read and handed over. So where the job ended and nothing was lost, the writer holds the log of all that the reader had
pub record RanOver (remaining remaining' contents contents' : Option (List ℕ)) (h₀ h : Held) : Type 0 where
  pub ran : Ran h₀ h
  pub took : Took remaining remaining' ran.input true h.job.turn.more
  pub gave : Gave contents contents' ran.output h.job.turn.stage
  pub log : ended h.job.turn.stage ≡ true → lost h.job.turn.stage ≡ false → IfSome remaining (λ known. IsBytes known → Appends contents contents' (joinlog known))

-- the program, from a reader to a writer: turns from the first one on, to where the job stands so
pub record Program (remaining remaining' contents contents' : Option (List ℕ)) (stage : Stage) : Type 0 where
  pub start : Held
  pub stop : Held
  pub at_first : start.job.turn ≡ first
  pub run : RanOver remaining remaining' contents contents' start stop
  pub stands : stage ≡ stop.job.turn.stage

-- what the writer is known to hold grew by the log of all that the reader is known to have had, fewer bytes than 2 to the 63, less one
abbrev pub WritesLog : Option (List ℕ) → Option (List ℕ) → Option (List ℕ) → Type 0
WritesLog remaining contents contents' = IfSome remaining (λ known. IsBytes known → length known < 9223372036854775807 → Appends contents contents' (joinlog known))
