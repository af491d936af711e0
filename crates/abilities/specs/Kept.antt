-- The table of sets, one for each node: 256 is added to a set that is known. Assumes nothing: these are definitions.
use Rattle.std.specs.Prelude.{◌≡◌, true, false, List, ℕ, ◌≤◌, ◌<◌, ◌%◌, length, get_or}
use Rattle.definition.specs.Types as d
use Rattle.definition.specs.Types.{Struct}
use Rattle.definition.specs.Store.{args_at, with_args}
use Rattle.definition.specs.Subst.{parts, goes_on_to, ends_in, reaches_itself}
use Rattle.definition.specs.Abilities.{infer_abilities}
use Rattle.table.specs.State.{shape_of}
use Rattle.table.specs.Did.{held}
use Rattle.table.specs.Known.{Known}
use Rattle.table.specs.declared.Shape.{Shape}
use Rattle.table.specs.declared.state.State.{State}
use Rattle.shapes.specs.Parts as shapes
use Rattle.table.specs.State.{args_of}
use Rattle.table.specs.declared.Applied.{Applied}

abbrev pub parts_of : Shape → d.State → List ℕ
parts_of sh s = parts (with_args s (shape_of sh))

abbrev pub part_count : Shape → ℕ
part_count sh = shapes.part_count (shape_of sh)

-- the declarations that s and the parameter bytes beside it hold
abbrev pub Knows : State → List (List ℕ) → List Struct → Type 0
Knows s params ds = Known s.words.now s.used params ds

-- reading node t is over in so many levels
pub record Ends (s : State) (left t : ℕ) : Type 0 where
  pub few : left ≤ s.used.nodes
  pub over : (ds : List Struct) (m : ℕ) → left ≤ m → ends_in m (held s ds) t ≡ true

-- the set of node t is known
abbrev pub HasSet : List ℕ → ℕ → Type 0
HasSet sets t = 256 ≤ get_or sets t 0

-- a set that is known is what infer_abilities gives, and the sets of the parts are known too
pub record Kept (s : State) (params : List (List ℕ)) (sets : List ℕ) : Type 0 where
  pub size : length sets ≡ 2048
  pub is : (t : ℕ) → HasSet sets t → (ds : List Struct) → Knows s params ds → get_or sets t 0 % 256 ≡ infer_abilities (held s ds) t
  pub below : (t : ℕ) → HasSet sets t → (ds : List Struct) (i : ℕ) → i < length (goes_on_to (held s ds) t) → HasSet sets (get_or (goes_on_to (held s ds) t) i 0)

-- reading node t is over, and the sets of its parts are known
pub record PartsKept (s : State) (t : ℕ) (sets : List ℕ) : Type 0 where
  pub over : (ds : List Struct) → reaches_itself (held s ds) t ≡ false
  pub known : (ds : List Struct) (i : ℕ) → i < length (goes_on_to (held s ds) t) → HasSet sets (get_or (goes_on_to (held s ds) t) i 0)

-- so many parts, at most eight, all of them nodes whose sets are known
pub record Ready (s : State) (params : List (List ℕ)) (sets : List ℕ) (ps : d.State → List ℕ) (many : ℕ) : Type 0 where
  pub size : length sets ≡ 2048
  pub few : many ≤ 8
  pub many_is : (ds : List Struct) → length (ps (held s ds)) ≡ many
  pub inside : (ds : List Struct) (i : ℕ) → i < many → get_or (ps (held s ds)) i 0 < 2048
  pub is : (ds : List Struct) → Knows s params ds → (i : ℕ) → i < many → get_or sets (get_or (ps (held s ds)) i 0) 0 % 256 ≡ infer_abilities (held s ds) (get_or (ps (held s ds)) i 0)

-- .. the arguments of a named type
abbrev pub ArgsReady : State → List (List ℕ) → List ℕ → Applied → Type 0
ArgsReady s params sets a = Ready s params sets (λ x. args_at x (args_of a)) a.many

-- the set of node t is known now, and what was known is
pub record Inferred (s : State) (params : List (List ℕ)) (t : ℕ) (sets sets' : List ℕ) : Type 0 where
  pub kept : Kept s params sets'
  pub here : HasSet sets' t
  pub still : (x : ℕ) → HasSet sets x → HasSet sets' x
