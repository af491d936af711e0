-- What a variable is bound to is a node. Assumes nothing.
use Rattle.std.specs.Prelude.{Option, Some}
use mathlib.Core.Path.{◌≡◌}
use mathlib.Core.List.{List}
use Prim.Native.Nat.{ℕ, ◌<◌}
use Rattle.definition.specs.Types.{Struct}
use Rattle.definition.specs.Store.{get}
use Rattle.table.specs.State.{Lay, seen}
use Rattle.table.specs.declared.Used.{Used}
use Rattle.table.proofs.Primitives as table

pub bound_in : (w : List ℕ) (u : Used) (v t : ℕ) (f : Option ℕ) → Lay w u → ((ds : List Struct) → f ≡ get (seen w u ds) v) → f ≡ Some t → t < u.nodes
bound_in w u v t f h e p = rw p at (table.bound_in w u v f h e)
