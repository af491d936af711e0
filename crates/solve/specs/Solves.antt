-- What SV leaves, and what it asks of the state. Assumes nothing: these are definitions.
use Rattle.std.specs.Prelude.{◌≡◌, true, List, ◌++◌, ℕ, ◌≤◌, take, drop, if◌then◌else◌}
use Rattle.definition.specs.Types as d
use Rattle.definition.specs.Types.{Struct}
use Rattle.definition.specs.Constraints.{solve_all, solve_constraints}
use Rattle.definition.specs.Sound.{sound}
use Rattle.definition.specs.Step as step
use Rattle.definition.specs.Step.{answer}
use Rattle.table.specs.State.{seen, Declares}
use Rattle.table.specs.Did.{held, Linked}
use Rattle.table.specs.declared.Used.{Used}
use Rattle.table.specs.declared.state.State.{State}
use Rattle.abilities.specs.Kept.{Knows}
use Rattle.payload.specs.declared.Answer.{Answer}

-- the state is a sound one, with the declarations that words and bytes hold
pub record HoldsSound (s : State) (params : List (List ℕ)) : Type 0 where
  pub structs : List Struct
  pub is_sound : sound (held s structs) ≡ true
  pub known : Knows s params structs

-- the answer once the numeric variables are decided
unfoldable pub solved : d.State → d.State → step.Answer
solved s before = answer before (solve_all s)

unfoldable pub solve_answer : d.State → d.State → step.Answer
solve_answer s before = answer before (solve_constraints s)

-- as AnswersIn of answer, but for the declarations that words and bytes hold: abilities depend on them
pub record Reports (w₀ : List ℕ) (before : Used) (s : State) (params : List (List ℕ)) (t : State) (buf buf' : List ℕ) (r : Answer) (f : d.State → d.State → step.Answer) : Type 0 where
  pub same : Linked s t
  pub used : r.used ≡ t.used
  pub few : r.len ≤ 4096
  pub rest : buf' ≡ take r.len buf' ++ drop r.len buf
  pub is : (ds₀ ds : List Struct) → Knows s params ds
      → f (held s ds) (seen w₀ before ds₀) ≡ record { number = r.number; payload = take r.len buf'; state = held t (if r.kept then ds else ds₀) }
  pub declares : (ds₀ ds : List Struct) → Declares w₀ before ds₀ → Declares s.words.now s.used ds → Declares t.words.now t.used (if r.kept then ds else ds₀)

-- SV is asked in the state s
abbrev pub Solves : State → List (List ℕ) → State → List ℕ → List ℕ → Answer → Type 0
Solves s params t buf buf' r = Reports s.words.now s.used s params t buf buf' r solve_answer
