-- The list of constraints, emptied. Assumes nothing: these are definitions.
use Rattle.std.specs.Prelude.{◌≡◌, List, []}
use Rattle.definition.specs.Types.{Struct}
use Rattle.definition.specs.Store.{with_constraints}
use Rattle.table.specs.Did.{held, tables, Linked}
use Rattle.table.specs.declared.state.State.{State}

-- the state s became t: no constraint is left
pub record Emptied (s t : State) : Type 0 where
  pub same : Linked s t
  pub structs : (tables t).structs ≡ (tables s).structs
  pub is : (ds : List Struct) → held t ds ≡ with_constraints (held s ds) []
