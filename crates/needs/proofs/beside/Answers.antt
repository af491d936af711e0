-- `needs::beside` meets its contract. Assumes nothing.
use borrow.Enum.Refused.{opened}
use mathlib.Core.Path.{◌∙◌}
use Rattle.needs.proofs.Others.{beside_known}
use Rattle.needs.proofs.beside.Goals as goal

pub returns-in-Anything : goal.returns-in-Anything
returns-in-Anything c = rw (c.if-arg.true, c.in-Anything.is) c.takes.ensures

pub returns-in_default : goal.returns-in_default
returns-in_default c = rw c.if-arg.true (c.takes-in_default.ensures ∙ beside_known c.args.shape (opened c.in_default.in_default-own.keys2))

pub returns-else-arg : goal.returns-else-arg
returns-else-arg c = rw c.if-arg.false c.takes-else-arg.ensures
