-- What the walks over a type leave: where it leads, whether it comes to a mark, its size, and sets that fit a mark. Assumes nothing: these are definitions.
use Rattle.std.specs.Prelude.{◌≡◌, Bool, true, false, List, ℕ, ◌+◌, ◌<◌, ◌≤◌, length, get_or, Option, None, Some, Result}
use Rattle.definition.specs.Types.{Struct, TypeName, Apply}
use Rattle.definition.specs.Store.{with_args, spanned}
use Rattle.definition.specs.Subst.{parts, goes_on_to}
use Rattle.theorems.specs.ReadySpelled.{led}
use Rattle.theorems.proofs.DemandOrder.{Sound}
use Rattle.refusals.specs.declared.Refusal.{Refusal}
use Rattle.table.specs.State.{shape_of}
use Rattle.table.specs.Did.{held, tables}
use Rattle.table.specs.declared.state.State.{State}
use Rattle.table.specs.declared.Node.{Node}
use Rattle.shapes.specs.Parts.{part_count}
use Rattle.writer.specs.Bytes.{AllBytes, ByteFields}
use Rattle.abilities.specs.Kept.{Knows, HasSet}
use Rattle.ready.specs.Spell.{Spells}
use Rattle.expand.specs.Told.{expanded_bytes, set_in, marked_in}

-- type t leads to n, whose parts are nodes, and whose fields are bytes if all are
pub record Leads (s : State) (t : ℕ) (n : Node) : Type 0 where
  pub is : (ds : List Struct) → record { loc = n.loc; value = with_args (held s ds) (shape_of n.shape) } ≡ led (held s ds) (spanned (held s ds) t)
  pub few : part_count (shape_of n.shape) ≤ 8
  pub many : (ds : List Struct) → length (parts (with_args (held s ds) (shape_of n.shape))) ≡ part_count (shape_of n.shape)
  pub inside : (ds : List Struct) (i : ℕ) → i < part_count (shape_of n.shape) → get_or (parts (with_args (held s ds) (shape_of n.shape))) i 0 < s.used.nodes
  pub bytes : AllBytes (tables s) → ByteFields (shape_of n.shape)

-- ---- 17

-- reading node t comes to a marked list or struct in `left` levels, or in none
abbrev pub Comes : State → ℕ → ℕ → Bool → Type 0
Comes s t left true = (ds : List Struct) (m : ℕ) → left ≤ m → marked_in m (held s ds) t ≡ true
Comes s t left false = (ds : List Struct) (m : ℕ) → marked_in m (held s ds) t ≡ false

-- a node that is noted comes to none
pub record Clears (s : State) (clear : List ℕ) : Type 0 where
  pub size : length clear ≡ 2048
  pub is : (t : ℕ) → 0 < get_or clear t 0 → Comes s t 0 false

-- ---- sizes and sets

-- of the room, n bytes leave so much, or they are more
abbrev pub Leaves : ℕ → ℕ → Option ℕ → Type 0
Leaves room n (Some rest) = n + rest ≡ room
Leaves room n None = room < n

-- with some declarations: the set of a name without mark is written as one byte, and the sets of the parts are known too
pub record Fit (s : State) (sets : List ℕ) : Type 0 where
  pub structs : List Struct
  pub size : length sets ≡ 2048
  pub small : (t : ℕ) → HasSet sets t → (n : TypeName) (tys : List ℕ) → (led (held s structs) (spanned (held s structs) t)).value ≡ Apply None n tys → set_in sets t < 240
  pub below : (t : ℕ) → HasSet sets t → (ds : List Struct) (i : ℕ) → i < length (goes_on_to (held s ds) t) → HasSet sets (get_or (goes_on_to (held s ds) t) i 0)

-- ---- XP

-- where the state is sound, with the declarations that it holds
abbrev pub Expands : State → List (List ℕ) → ℕ → List ℕ → List ℕ → Result ℕ Refusal → Type 0
Expands s params t buf buf' r = (ds : List Struct) → Knows s params ds → (arity : TypeName → ℕ) → Sound arity (held s ds) → Spells (expanded_bytes (held s ds) t) buf buf' r
