-- A state that was tested once, and what a record leaves of it. Assumes nothing: these are definitions.
use Rattle.std.specs.Prelude.{◌≡◌, Bool, true, false, List, ◌++◌, ℕ, ◌≤◌, length, take, drop}
use Rattle.definition.specs.Types as d
use Rattle.definition.specs.Write.{Bytes}
use Rattle.definition.specs.Record.{read_record}
use Rattle.definition.specs.Sound.{sound}
use Rattle.definition.specs.Step as step
use Rattle.definition.specs.Step.{least_buffer, lent, streamed}
use Rattle.table.specs.State.{seen, Lay}
use Rattle.table.specs.declared.Used.{Used}
use Rattle.table.specs.declared.state.State.{State}
use Rattle.snapshot.specs.Noted.{Noted}
use Rattle.sound.specs.Lent.{structs_of, encode_params}
use Rattle.fields.specs.declared.What.{What}
use Rattle.fields.specs.declared.What.TheVariants as q
use Rattle.step.specs.declared.Stepped.{Stepped}

-- the state that words and bytes hold, with so many rows in use
unfoldable pub held : List ℕ → Used → List (List ℕ) → d.State
held w u params = seen w u (structs_of w params u.structs)

-- .. with those that s has in use
abbrev pub held_by : State → List (List ℕ) → d.State
held_by s params = held s.words.now s.used params

-- it is sound, the words have its layout, and the bytes are just its declarations'. So it stays from record to record, and is tested once
pub record Stands (w : List ℕ) (u : Used) (params : List (List ℕ)) : Type 0 where
  pub lay : Lay w u
  pub bytes : params ≡ encode_params (held w u params)
  pub is_sound : sound (held w u params) ≡ true

abbrev pub StandsIn : State → List (List ℕ) → Type 0
StandsIn s params = Stands s.words.now s.used params

-- ---- a record at the head of these bytes

-- whole: the record is lent, and bytes left over are 5
unfoldable pub answered : Bool → d.State → Bytes → step.Answer
answered true s bytes = lent s (read_record s bytes)
answered false s bytes = (streamed s bytes (read_record s bytes)).0

unfoldable pub unread : d.State → Bytes → Bytes
unread s bytes = (streamed s bytes (read_record s bytes)).1

-- the bytes of the buffer that an answer of it may fill
abbrev pub wants : What → ℕ
wants (q.SD abilities ps) = 4096
wants q.SV = 4096
wants (q.XP t) = 4096
wants (q.MJ n) = 61485
wants (q.KP n) = 4096
wants (q.Bind x) = 4096
wants (q.Look x) = 4096
wants (q.Add x) = 4096

-- the record at place `at` of the stream was answered by r: the payload stands in front of the buffer, and the rest begins at r.next
pub record Steps (whole : Bool) (s : State) (params : List (List ℕ)) (stream : Bytes) (at : ℕ) (buf : Bytes) (t : State) (params' : List (List ℕ)) (buf' : Bytes) (r : Stepped) : Type 0 where
  pub same : t.words.ghost_name ≡ s.words.ghost_name
  pub stands : StandsIn t params'
  pub few : r.len ≤ least_buffer (drop at stream)
  pub buffer : buf' ≡ take r.len buf' ++ drop r.len buf
  pub within : r.next ≤ length stream
  pub is : answered whole (held_by s params) (drop at stream) ≡ record { number = r.number; payload = take r.len buf'; state = held_by t params' }
  pub rest : unread (held_by s params) (drop at stream) ≡ drop r.next stream

-- .. and the saved rows stand but for the noted
abbrev pub Leaves : Bool → State → List (List ℕ) → Bytes → ℕ → Bytes → State → List (List ℕ) → Bytes → Stepped → List ℕ → Type 0
Leaves whole s params stream at buf t params' buf' r saved = Steps whole s params stream at buf t params' buf' r × Noted t saved

-- the stream after the record at its head begins at place n; words and counts are as they were
pub record Splits (s : State) (params : List (List ℕ)) (stream : Bytes) (t : State) (n : ℕ) : Type 0 where
  pub same : t.words.ghost_name ≡ s.words.ghost_name
  pub words : t.words.now ≡ s.words.now
  pub used : t.used ≡ s.used
  pub within : n ≤ length stream
  pub rest : unread (held_by s params) stream ≡ drop n stream
