-- What an answer leaves in the state that the words are. Assumes nothing: these are definitions.
use Rattle.std.specs.Prelude.{◌≡◌, List, ◌++◌, ℕ, ◌≤◌, take, drop, if◌then◌else◌}
use Rattle.definition.specs.Types as d
use Rattle.definition.specs.Types.{Struct}
use Rattle.definition.specs.Step as step
use Rattle.table.specs.State.{seen, Declares}
use Rattle.table.specs.Did.{held, Linked}
use Rattle.table.specs.declared.state.State.{State}
use Rattle.snapshot.specs.declared.before.Before.{Before}
use Rattle.payload.specs.declared.Answer.{Answer}

-- at entry there were the words w₀, of which b was saved, and after the run the state s. It became t, in the same words, and buf became buf' with the
-- payload in front and all else as it was; number, payload and state are as f says
pub record AnswersIn (w₀ : List ℕ) (b : Before) (s t : State) (buf buf' : List ℕ) (r : Answer) (f : d.State → d.State → step.Answer) : Type 0 where
  pub same : Linked s t
  pub used : r.used ≡ t.used
  pub few : r.len ≤ 4096
  pub rest : buf' ≡ take r.len buf' ++ drop r.len buf
  pub is : (ds₀ ds : List Struct)
      → f (held s ds) (seen w₀ b.used ds₀) ≡ record { number = r.number; payload = take r.len buf'; state = held t (if r.kept then ds else ds₀) }
  pub declares : (ds₀ ds : List Struct) → Declares w₀ b.used ds₀ → Declares s.words.now s.used ds → Declares t.words.now t.used (if r.kept then ds else ds₀)
