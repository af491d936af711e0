-- The test for a type that runs into itself: in how many levels reading a node is over. Assumes nothing: these are definitions.
use Rattle.std.specs.Prelude.{◌≡◌, true, false, ℕ, ◌<◌, ◌≤◌, Option, None, Some}
use mathlib.Core.List.{List}
use Rattle.std.proofs.Math.ListN.{length, get_or}
use Rattle.definition.specs.Types.{Struct}
use Rattle.definition.specs.Store.{with_args, spanned}
use Rattle.definition.specs.Subst.{parts, unfold_type, goes_on_to, ends_in}
use Rattle.table.specs.State.{shape_of}
use Rattle.table.specs.Did.{held}
use Rattle.table.specs.declared.state.State.{State}
use Rattle.table.specs.declared.Shape.{Shape}
use Rattle.shapes.specs.Parts.{part_count}

-- node t unfolds to this shape, and reading goes on to its parts, at most eight, all of them nodes
pub record Goes_on (s : State) (t : ℕ) (sh : Shape) : Type 0 where
  pub value : (ds : List Struct) → with_args (held s ds) (shape_of sh) ≡ (unfold_type (held s ds) (spanned (held s ds) t)).value
  pub few : part_count (shape_of sh) ≤ 8
  pub is : (ds : List Struct) → parts (with_args (held s ds) (shape_of sh)) ≡ goes_on_to (held s ds) t
  pub many : (ds : List Struct) → length (goes_on_to (held s ds) t) ≡ part_count (shape_of sh)
  pub inside : (ds : List Struct) (i : ℕ) → i < part_count (shape_of sh) → get_or (goes_on_to (held s ds) t) i 0 < s.used.nodes

-- reading node t is over in n levels, and not in fewer
pub record EndsAt (s : State) (t n : ℕ) : Type 0 where
  pub few : n ≤ s.used.nodes
  pub ends : (ds : List Struct) (m : ℕ) → n ≤ m → ends_in m (held s ds) t ≡ true
  pub no_fewer : (ds : List Struct) (m : ℕ) → m < n → ends_in m (held s ds) t ≡ false

-- a height other than 0 says so of its node
pub record Measured (s : State) (heights : List ℕ) : Type 0 where
  pub size : length heights ≡ 2048
  pub ends : (t : ℕ) → 0 < get_or heights t 0 → EndsAt s t (get_or heights t 0)

-- so says an answer; none says that it is not over in `left` levels
pub record Levels (s : State) (t left : ℕ) (r : Option ℕ) : Type 0 where
  pub over : (n : ℕ) → r ≡ Some n → EndsAt s t n
  pub not_over : r ≡ None → (ds : List Struct) → ends_in left (held s ds) t ≡ false

-- an answer says that reading node t is over in `left` levels
pub record Soon (s : State) (t left : ℕ) (r : Option ℕ) : Type 0 where
  pub over : (rest : ℕ) → r ≡ Some rest → (ds : List Struct) → ends_in left (held s ds) t ≡ true
