-- What the report of failures asks of the constraints. Assumes nothing: these are definitions.
use Rattle.std.specs.Prelude.{ℕ, ◌<◌, length, get_or}
use Rattle.definition.specs.Types as d
use Rattle.definition.specs.Types.{State}
use Rattle.definition.specs.Store.{count}
use Rattle.table.specs.Rows.{constraint_table}
use Rattle.failing.specs.Failing.{TyIn}

-- the type of each constraint is a node, as in a sound state
unfoldable pub TysIn : State → Type 0
TysIn s = (i : ℕ) → i < length s.constraints → TyIn (count s) (get_or s.constraints i constraint_table.blank)

-- how many of the four rows may hold a failure
abbrev pub row_count : d.Constraint → ℕ
row_count (d.AbilityConstraint loc ty a) = 4
row_count (d.NumericConstraint loc ty) = 1
row_count (d.BitsConstraint loc ty) = 1
row_count (d.OrderedConstraint loc ty) = 1
row_count (d.BaseTypeConstraint loc ty) = 1
row_count (d.SingleTypeConstraint loc ty) = 1
