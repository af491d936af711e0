-- `ends::chains::Chains::never_over` meets its contract. Assumes nothing.
use native.Mathlib.Omega.{arith}
use Rattle.ends.proofs.Itself.{measured_none, reaches_is}
use Rattle.ends.proofs.chains.Chains.never_over.Goals as goal

pub levels-requires : goal.levels-requires
levels-requires g c = (c.requires, (rw c.used.ensures (omega arith), measured_none _))

pub returns : goal.returns
returns g c = reaches_is _ _ _ (rw c.used.ensures at c.levels.ensures.0) _ c.is_none.ensures
