-- What a run left, as the definition's result, and what its answer leaves in the words and in the buffer. Assumes nothing: these are definitions.
use Rattle.std.specs.Prelude.{◌≡◌, Bool, List, ◌++◌, ℕ, ◌≤◌, take, drop, Option, if◌then◌else◌, Ok, Err}
use Rattle.std.specs.Prelude as core
use Rattle.definition.specs.Types as d
use Rattle.definition.specs.Types.{State, Struct, Result, ok, err, ◌>>=◌}
use Rattle.definition.specs.Write.{Bytes}
use Rattle.definition.specs.Step as step
use Rattle.definition.specs.Step.{answer, answer_within, max_payload, refusal}
use Rattle.theorems.specs.ReadySpelled.{Spelling, spell_ready, with_state}
use Rattle.table.specs.State.{outcome, seen, Lay, Declares}
use Rattle.table.specs.Did.{StopIn}
use Rattle.table.specs.declared.Used.{Used}
use Rattle.table.specs.declared.state.Stop.{Stop}
use Rattle.table.specs.declared.state.Stop.TheVariants.{Failed, Refused}
use Rattle.snapshot.specs.Snap.{Saved, Rows, Since}
use Rattle.table.specs.Touched.{Stay}
use Rattle.payload.specs.declared.Answer.{Answer}
use Rattle.payload.specs.declared.Show.{Show}
use Rattle.payload.specs.Payload.{shown, tail_bytes, Shows}
use Rattle.answer.specs.declared.Ran.{Ran}

-- ---- what a run left

-- the result of a run that left the state `after`: on success it is kept, or the state goes back to `before`
unfoldable pub ran : Ran → State → State → Result (State × Bytes)
ran r after before = do
  (s, t) ← outcome r.result after
  ok (if r.kept then s else before, shown r.show t s)

-- what the answer shows of it is in use
abbrev pub Tells : Used → Show → core.Result ℕ Stop → Type 0
Tells u show (Ok t) = Shows u show t
Tells u show (Err e) = StopIn u.nodes e

-- a success or a typing error, whose answer shows the state; not a refusal
abbrev pub Settles : core.Result ℕ Stop → Type 0
Settles (Ok t) = Unit {0}
Settles (Err (Failed e)) = Unit {0}
Settles (Err (Refused x)) = ⊥

-- ---- the definition's answers, of the state after a run and of that before it

abbrev pub answered : Ran → State → State → step.Answer
answered r after before = answer_within max_payload (tail_bytes r.tail) before (ran r after before)

abbrev pub success : Bool → Show → ℕ → Option ℕ → State → State → step.Answer
success kept show t tail after before = answer_within max_payload (tail_bytes tail) before (ok (if kept then after else before, shown show t after))

abbrev pub failure : d.TypingError → Option ℕ → State → State → step.Answer
failure e tail after before = answer_within max_payload (tail_bytes tail) before (err after e)

abbrev pub refused_by : d.Refusal → State → State → step.Answer
refused_by x after before = refusal before x

-- m tells the payload, and the state stays as it was
abbrev pub told_by : (State → Result Bytes) → State → State → step.Answer
told_by m after before = answer before (with_state before (m after))

-- RD or CN of type t
abbrev pub spelled_by : Spelling → ℕ → State → State → step.Answer
spelled_by how t = told_by (λ after. spell_ready how after t)

-- ---- what an answer asks

-- no variable was taken, and those that are there are as they were saved
pub record Still (w : List ℕ) (u before : Used) (saved : List ℕ) : Type 0 where
  pub many : u.vars ≡ before.vars
  pub rows : Saved w u saved

-- ---- what an answer leaves

-- before the run there were the words w₀, of which `before` was in use, and after it w and u
pub record Settled (w₀ : List ℕ) (before : Used) (w : List ℕ) (u : Used) (w' buf' : List ℕ) (r : Answer) (f : State → State → step.Answer) : Type 0 where
  pub lay : Lay w' r.used
  pub is : (ds₀ ds : List Struct)
      → f (seen w u ds) (seen w₀ before ds₀) ≡ record { number = r.number; payload = take r.len buf'; state = seen w' r.used (if r.kept then ds else ds₀) }
  pub declares : (ds₀ ds : List Struct) → Declares w₀ before ds₀ → Declares w u ds → Declares w' r.used (if r.kept then ds else ds₀)

-- w with u in use became w', whose variables that are not noted are as they were, and buf became buf' with the payload in front and all else as it was; number, payload and state are as f says
pub record Answers (w : List ℕ) (u before : Used) (saved : Rows) (buf w' buf' : List ℕ) (r : Answer) (f : State → State → step.Answer) : Type 0 where
  pub few : r.len ≤ 4096
  pub rest : buf' ≡ take r.len buf' ++ drop r.len buf
  pub stay : Stay saved.touched before.vars w w'
  pub settled : (w₀ : List ℕ) → Since w₀ before saved w u → Settled w₀ before w u w' buf' r f
