-- A pair of MJ in the list of names, and what its answer leaves; what those of all pairs leave. Assumes nothing: these are definitions.
use Rattle.std.specs.Prelude.{◌≡◌, List, ◌++◌, ℕ, ◌+◌, ◌*◌, ◌≤◌, ◌<◌, get_or, take, drop}
use Rattle.definition.specs.Types as d
use Rattle.definition.specs.Types.{Struct}
use Rattle.definition.specs.Join.{TypingCase}
use Rattle.definition.specs.Step.{pair_answer, pair_bytes, run_pairs}
use Rattle.theorems.proofs.SoundRanges.{Ranges}
use Rattle.table.specs.State.{Declares}
use Rattle.table.specs.Did.{held}
use Rattle.table.specs.declared.state.State.{State}
use Rattle.snapshot.specs.Noted.{Noted}
use Rattle.writer.specs.Bytes.{Wrote}
use Rattle.arms.specs.Arms.{case_of as arm_case}
use Rattle.fields.specs.Noded.{case_of, many_at}
use Rattle.payload.specs.declared.Answer.{Answer}
use Rattle.many.specs.declared.Pair.{Pair}

abbrev pub pair_of : Pair → TypingCase × ℕ × ℕ
pair_of p = (arm_case p.case, p.lhs, p.rhs)

-- pair i of the list
pub record StandsAt (names : List ℕ) (i : ℕ) (p : Pair) : Type 0 where
  pub case : arm_case p.case ≡ case_of (get_or names (3 * i) 0)
  pub lhs : p.lhs ≡ get_or names (3 * i + 1) 0
  pub rhs : p.rhs ≡ get_or names (3 * i + 2) 0

abbrev pub PairIn : ℕ → Pair → Type 0
PairIn n p = (p.lhs < n) × (p.rhs < n)

-- the fields of its nodes are in range, whatever is declared: those that are written as a byte are bytes
pub record InRange (s : State) : Type 0 where
  pub base : d.State
  pub structs : List Struct
  pub ranges : Ranges base (held s structs)

-- the state s became t, the answer of the pair p stands from place `at` on, up to `next`, and the saved rows stand but for the noted
pub record PairAnswered (s : State) (p : Pair) (at : ℕ) (buf : List ℕ) (t : State) (saved : List ℕ) (buf' : List ℕ) (next : ℕ) : Type 0 where
  pub name : t.words.ghost_name ≡ s.words.ghost_name
  pub noted : Noted t saved
  pub nodes : s.used.nodes ≤ t.used.nodes
  pub declares : (ds : List Struct) → Declares s.words.now s.used ds → Declares t.words.now t.used ds
  pub in_range : InRange t
  pub few : next ≤ at + 4099
  pub is : (ds : List Struct) → held t ds ≡ (pair_answer (held s ds) (pair_of p)).state
  pub bytes : (ds : List Struct) → Wrote buf at (pair_bytes (pair_answer (held s ds) (pair_of p))) buf' next

-- .. those of the first n pairs, from the first byte on
pub record ManyAnswered (s : State) (names : List ℕ) (n : ℕ) (buf : List ℕ) (t : State) (saved : List ℕ) (buf' : List ℕ) (r : Answer) : Type 0 where
  pub name : t.words.ghost_name ≡ s.words.ghost_name
  pub noted : Noted t saved
  pub declares : (ds : List Struct) → Declares s.words.now s.used ds → Declares t.words.now t.used ds
  pub number : r.number ≡ 0
  pub few : r.len ≤ 61485
  pub rest : buf' ≡ take r.len buf' ++ drop r.len buf
  pub is : (ds : List Struct) → run_pairs (held s ds) (many_at names 0 n) ≡ (held t ds, take r.len buf')
