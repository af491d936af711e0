-- `table::constraint_row` meets its contract. Assumes nothing.
use Rattle.table.proofs.Written.{ability_row, numeric_row, bits_row, ordered_row, base_row, single_row}
use Rattle.table.proofs.constraint_row.Goals as goal

pub returns-in-Ability : goal.returns-in-Ability
returns-in-Ability c = rw c.in-Ability.is (ability_row _ _ _ _ c.from.ensures.0 c.from.ensures.1)

pub returns-in-Numeric : goal.returns-in-Numeric
returns-in-Numeric c = rw c.in-Numeric.is (numeric_row _ _)

pub returns-in-Bits : goal.returns-in-Bits
returns-in-Bits c = rw c.in-Bits.is (bits_row _ _)

pub returns-in-Ordered : goal.returns-in-Ordered
returns-in-Ordered c = rw c.in-Ordered.is (ordered_row _ _)

pub returns-in-BaseType : goal.returns-in-BaseType
returns-in-BaseType c = rw c.in-BaseType.is (base_row _ _)

pub returns-in-SingleType : goal.returns-in-SingleType
returns-in-SingleType c = rw c.in-SingleType.is (single_row _ _)
