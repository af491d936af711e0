-- `old_ready::reaches_itself` meets its contract. Assumes nothing.
use native.Mathlib.Omega.{arith}
use Rattle.ends.proofs.Itself.{measured_none, reaches_is}
use Rattle.old_ready.proofs.reaches_itself.Goals as goal

pub levels-requires : goal.levels-requires
levels-requires c = (c.requires, (omega arith, measured_none _))

pub returns : goal.returns
returns c = reaches_is _ _ _ c.levels.ensures.0 _ c.is_none.ensures
