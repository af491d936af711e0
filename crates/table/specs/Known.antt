-- The declarations that the struct rows and the parameter bytes beside them hold. Assumes nothing: these are definitions.
use Rattle.std.specs.Prelude.{◌≡◌, List, [], ℕ, ◌<◌, length, get_or}
use Rattle.definition.specs.Types.{Struct}
use Rattle.table.specs.Rows.{struct_table}
use Rattle.table.specs.State.{Declares}
use Rattle.table.specs.declared.Used.{Used}

-- ds has the rows' abilities and counts, and its parameters are the first bytes of each of params' rows
pub record Known (w : List ℕ) (u : Used) (params : List (List ℕ)) (ds : List Struct) : Type 0 where
  pub rows : Declares w u ds
  pub bytes : (i k : ℕ) → k < length (get_or ds i struct_table.blank).params → get_or (get_or params i []) k 0 ≡ get_or (get_or ds i struct_table.blank).params k 0

-- there are such declarations
pub record Declared (w : List ℕ) (u : Used) (params : List (List ℕ)) : Type 0 where
  pub structs : List Struct
  pub known : Known w u params structs
