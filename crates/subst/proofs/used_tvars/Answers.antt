-- `subst::used_tvars` meets its contract. Assumes nothing.
use native.Mathlib.Omega.{arith}
use Rattle.subst.proofs.Walk.{leaves_low, leaves_looks}
use Rattle.subst.proofs.used_tvars.Goals as goal

pub overflow_sub-result : goal.overflow_sub-result
overflow_sub-result g c = let low = leaves_low _ _ _ _ _ _ c.in-Met.ensures in omega (arith, low)

pub overflow_sub-result-in-Clear : goal.overflow_sub-result-in-Clear
overflow_sub-result-in-Clear g c = let low = leaves_low _ _ _ _ _ _ c.in-Clear.ensures in omega (arith, low)

pub returns-in-Met : goal.returns-in-Met
returns-in-Met g c = leaves_looks _ _ _ _ _ _ (omega arith) c.in-Met.ensures

pub returns-in-Clear : goal.returns-in-Clear
returns-in-Clear g c = leaves_looks _ _ _ _ _ _ (omega arith) c.in-Clear.ensures
