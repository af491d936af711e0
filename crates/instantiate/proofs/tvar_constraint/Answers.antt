-- `instantiate::tvar_constraint` meets its contract. Assumes nothing.
use Rattle.definition.specs.Instantiate.{tvar_constraint}
use mathlib.Core.Path.{refl}
use mathlib.Core.Logic.{inl, inr}
use Rattle.instantiate.proofs.tvar_constraint.Goals as goal

pub returns-in-Multiple : goal.returns-in-Multiple
unfolding tvar_constraint
returns-in-Multiple c = rw c.in-Multiple.is refl

pub returns-in-Builtin : goal.returns-in-Builtin
unfolding tvar_constraint
returns-in-Builtin c = elim c.in-Builtin.is [ inl e ↦ rw e.1 refl | inr e ↦ rw e.1 refl ]
