-- `arms::arm_other` meets its contract. Assumes nothing.
use mathlib.Core.Logic.{inl, inr}
use Rattle.arms.proofs.Guards.{other_var, other_anything, other_error, other_plain}
use Rattle.arms.proofs.arm_other.Goals as goal

pub returns-in-Var : goal.returns-in-Var
returns-in-Var c = rw c.in-Var.is (λ case lhs u. other_var case lhs _ u)

pub returns-in-Anything : goal.returns-in-Anything
returns-in-Anything c = elim c.in-Anything.is [ inl e ↦ rw e other_anything | inr e ↦ rw e other_error ]

pub returns-in_default : goal.returns-in_default
returns-in_default c = let a = c.in_default in λ case lhs. other_plain case lhs c.args.rhs a.not-Var a.not-Anything a.not-UnresolvedError
