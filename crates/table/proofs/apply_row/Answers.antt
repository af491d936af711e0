-- `table::apply_row` meets its contract. Assumes nothing.
use Rattle.table.specs.Rows.{name_tag, name_word}
use Rattle.table.proofs.apply_row.Goals as goal

pub returns-in-Multiple : goal.returns-in-Multiple
unfolding name_tag name_word
returns-in-Multiple c = rw c.in-Multiple.is

pub returns-in-Builtin : goal.returns-in-Builtin
unfolding name_tag name_word
returns-in-Builtin c = rw c.in-Builtin.is

pub returns-in-ModuleType : goal.returns-in-ModuleType
unfolding name_tag name_word
returns-in-ModuleType c = rw c.in-ModuleType.is
