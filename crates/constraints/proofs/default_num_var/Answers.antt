-- `constraints::default_num_var` meets its contract. Assumes nothing.
use Rattle.std.proofs.Common.{rules}
use Rattle.constraints.proofs.Defaults.{default_stop, default_done, default_decided}
use Rattle.constraints.proofs.default_num_var.Goals as goal

pub returns-in_err-join_integer : goal.returns-in_err-join_integer
returns-in_err-join_integer c = default_stop _ _ _ c.undecided_var.ensures c.if-undecided_var.true c.in_err-join_integer.ensures (search rules)

pub returns-in_ok-join_integer : goal.returns-in_ok-join_integer
returns-in_ok-join_integer c = default_done _ _ _ c.undecided_var.ensures c.if-undecided_var.true c.in_ok-join_integer.ensures

pub returns-else-undecided_var : goal.returns-else-undecided_var
returns-else-undecided_var c = default_decided _ _ _ c.undecided_var.ensures c.if-undecided_var.false
