-- `shapes::as_var` meets its contract. Assumes nothing.
use borrow.Enum.Refused.{opened}
use mathlib.Core.Path.{refl}
use Rattle.definition.specs.Store.{with_args}
use Rattle.definition.specs.Subst.{as_var}
use Rattle.shapes.proofs.Parts.{no_var}
use Rattle.shapes.proofs.as_var.Goals as goal

pub returns-in-Var : goal.returns-in-Var
unfolding as_var with_args
returns-in-Var c = λ st. rw c.in-Var.is refl

pub returns-in_default : goal.returns-in_default
returns-in_default c = no_var c.args.s (opened c.in_default.in_default-own.keys2)
