-- `expand::own_size` meets its contract. Assumes nothing.
use native.Mathlib.Omega.{arith}
use Rattle.expand.proofs.Walks.{owns_plain, owns_var}
use Rattle.expand.proofs.own_size.Goals as goal

pub returns-in-None : goal.returns-in-None
returns-in-None c = (owns_plain _ _ c.as_var.ensures c.in-None.is _ c.head_size.ensures.0, c.head_size.ensures.1)

pub returns-in-Some : goal.returns-in-Some
returns-in-Some c = (owns_var _ _ c.as_var.ensures _ c.in-Some.is, omega arith)
