-- `instantiate::tparam_count` meets its contract. Assumes nothing.
use Rattle.instantiate.proofs.ArgLaws.{count_multiple, count_builtin, count_struct}
use Rattle.instantiate.proofs.tparam_count.Goals as goal

pub returns-in-Multiple : goal.returns-in-Multiple
returns-in-Multiple c = λ ds k. rw c.in-Multiple.is (count_multiple _ _ ds _)

pub returns-in-Builtin : goal.returns-in-Builtin
returns-in-Builtin c = λ ds k. rw c.in-Builtin.is (count_builtin _ _ ds _ _ c.builtin_tparams.ensures.0)

pub returns-in-ModuleType : goal.returns-in-ModuleType
returns-in-ModuleType c = λ ds k. rw c.in-ModuleType.is (count_struct _ _ ds _ _ (c.struct_at.ensures ds k).1)
