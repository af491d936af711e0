-- The lines of a stream's records, on a state that was tested once. Assumes nothing: these are definitions.
use Rattle.std.specs.Prelude.{◌≡◌, Bool, true, List, ◌++◌, ℕ, ◌≤◌, length, take, drop}
use Rattle.definition.specs.Write.{Bytes}
use Rattle.pieces.specs.Pieces.{next_lines}
use Rattle.table.specs.declared.state.State.{State}
use Rattle.step.specs.Trusted.{held_by, StandsIn}
use Rattle.lines.specs.declared.Lines.{Lines}

pub record Lists (s : State) (params : List (List ℕ)) (index : ℕ) (stream : Bytes) (more : Bool) (log : Bytes) (t : State) (params' : List (List ℕ)) (log' : Bytes) (r : Lines) : Type 0 where
  pub same : t.words.ghost_name ≡ s.words.ghost_name
  pub stands : StandsIn t params'
  pub fits : r.written ≤ length log
  pub within : r.read ≤ length stream
  pub others : log' ≡ take r.written log' ++ drop r.written log
  pub is : next_lines index (held_by s params) stream (length log) more ≡ record { text = take r.written log'; state = held_by t params'; rest = drop r.read stream; index = r.index; ended = r.ended }

-- nothing is read or written
abbrev pub nothing : ℕ → Bool → Lines
nothing index ended = record { read = 0; written = 0; index = index; ended = ended }

-- what an unsound state leaves: the job ends
abbrev pub no_lines : ℕ → Lines
no_lines index = nothing index true
