-- `table::row_of` meets its contract. Assumes nothing.
use Rattle.table.proofs.Written.{flag_byte, unit_row, ref_row, param_row, apply_row, var_row, anything_row, error_row}
use Rattle.table.proofs.row_of.Goals as goal

pub returns-in-Unit : goal.returns-in-Unit
returns-in-Unit c = rw c.in-Unit.is (unit_row _)

pub returns-in-Ref : goal.returns-in-Ref
returns-in-Ref c = rw (c.in-Ref.is, c.from.ensures) (ref_row _ _ _ _ (flag_byte _))

pub returns-in-Param : goal.returns-in-Param
returns-in-Param c = rw c.in-Param.is (param_row _ _ _ _ c.from-in-Param.ensures.0 c.from-in-Param.ensures.1)

pub returns-in-Apply : goal.returns-in-Apply
returns-in-Apply c = rw c.in-Apply.is (apply_row _ _ _ _ _ _ _ c.apply_row.ensures c.mark_word.ensures.0 c.mark_word.ensures.1)

pub returns-in-Var : goal.returns-in-Var
returns-in-Var c = rw c.in-Var.is (var_row _ _ _ c.from-in-Var.ensures.0 c.from-in-Var.ensures.1)

pub returns-in-Anything : goal.returns-in-Anything
returns-in-Anything c = rw c.in-Anything.is (anything_row _)

pub returns-in-UnresolvedError : goal.returns-in-UnresolvedError
returns-in-UnresolvedError c = rw c.in-UnresolvedError.is (error_row _)
