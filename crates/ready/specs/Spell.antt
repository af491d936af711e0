-- The answers of RD and CN without a new node: sums over the types that are written. Assumes nothing: these are definitions.
use Rattle.std.specs.Prelude.{◌≡◌, true, List, ℕ, ◌+◌, ◌*◌, ◌≤◌, ◌<◌, length, Option, None, Some, Ok, Err}
use Rattle.std.specs.Prelude as core
use Rattle.definition.specs.Types as d
use Rattle.definition.specs.Types.{Struct, Spanned, TypeValue, Places, Result, ok, refused}
use Rattle.definition.specs.Subst.{ends_in}
use Rattle.definition.specs.Write.{Bytes, head}
use Rattle.definition.specs.Canonical.{Spelled}
use Rattle.theorems.specs.ReadySpelled.{summed, new_nodes, new_places, head_size, one}
use Rattle.refusals.specs.Refusals.{refusal_of}
use Rattle.refusals.specs.declared.Refusal.{Refusal}
use Rattle.refusals.specs.declared.Refusal.TheVariants.{AnswerTooLong}
use Rattle.writer.specs.Bytes.{Wrote}
use Rattle.table.specs.State.{shape_of, value_of}
use Rattle.table.specs.Did.{held}
use Rattle.table.specs.declared.state.State.{State}
use Rattle.table.specs.declared.Shape.{Shape}
use Rattle.ready.specs.declared.Sums.{Sums}

-- ---- a type without its parts

abbrev pub nodes_of : d.Shape Places → ℕ
nodes_of d.UnitType = 0
nodes_of (d.Ref m t) = 1
nodes_of (d.Param id a) = 0
nodes_of (d.Apply k n p) = 1
nodes_of (d.Var v) = 1
nodes_of d.Anything = 0
nodes_of d.UnresolvedError = 0

abbrev pub places_of : d.Shape Places → ℕ
places_of d.UnitType = 0
places_of (d.Ref m t) = 0
places_of (d.Param id a) = 0
places_of (d.Apply k n p) = p.many
places_of (d.Var v) = 0
places_of d.Anything = 0
places_of d.UnresolvedError = 0

pub record Owns (sh : Shape) (m : Sums) : Type 0 where
  pub types_is : m.types ≡ 1
  pub bytes_is : (loc : ℕ) → m.bytes ≡ length (head loc (value_of sh))
  pub few : m.bytes ≤ 10
  pub nodes_is : m.nodes ≡ nodes_of (shape_of sh)
  pub places_is : m.places ≡ places_of (shape_of sh)

-- ---- sums

-- so much for each type at most: they do not wrap
pub record Small (m : Sums) : Type 0 where
  pub bytes : m.bytes ≤ 10 * m.types
  pub nodes : m.nodes ≤ m.types
  pub places : m.places ≤ 8 * m.types

abbrev pub added : Sums → Sums → Sums
added a b = record { types = a.types + b.types; bytes = a.bytes + b.bytes; nodes = a.nodes + b.nodes; places = a.places + b.places }

-- the sums that `f` gives
pub record SumsOf (f : (TypeValue → ℕ) → ℕ) (m : Sums) : Type 0 where
  pub types : m.types ≡ f one
  pub bytes : m.bytes ≡ f head_size
  pub nodes : m.nodes ≡ f new_nodes
  pub places : m.places ≡ f new_places

-- type t comes to r in `left` levels; none says that it takes more of them, or has more types than `budget`
pub record Measures (s : State) (t left budget : ℕ) (r : Option Sums) : Type 0 where
  pub over : (m : Sums) → r ≡ Some m → (ds : List Struct) → (ends_in left (held s ds) t ≡ true) × SumsOf (λ f. summed f left (held s ds) t) m
  pub small : (m : Sums) → r ≡ Some m → (m.types ≤ budget) × Small m
  pub out : r ≡ None → (ds : List Struct) → ends_in left (held s ds) t ≡ true → budget < summed one left (held s ds) t

-- ---- the bytes

-- the spelling k was written from place `at` of buf on: buf' and `next`; the heads that are left know the variables that were met by then
pub record Goes {H : Type 0} (met : H → List ℕ → Type 0) (k : Spelled) (buf : List ℕ) (at : ℕ) (h : H) (buf' : List ℕ) (next : ℕ) : Type 0 where
  pub wrote : Wrote buf at k.bytes buf' next
  pub knows : met h k.met

-- ---- RD and CN

-- m was told: its bytes are in front of the buffer, so many; or they are too long, or m is a refusal, and the buffer is as it was
pub data Spells (m : Result Bytes) (buf buf' : List ℕ) : core.Result ℕ Refusal → Type 0 where
  spelt : {b : Bytes} {len : ℕ} → m ≡ ok b → length b ≤ 4096 → Wrote buf 0 b buf' len → Spells m buf buf' (Ok len)
  too_long : {b : Bytes} → m ≡ ok b → 4096 < length b → buf' ≡ buf → Spells m buf buf' (Err AnswerTooLong)
  stopped : {x : Refusal} → m ≡ refused (refusal_of x) → buf' ≡ buf → Spells m buf buf' (Err x)
