-- `subst::used_with_counts` meets its contract. Assumes nothing.
use Rattle.subst.proofs.Walk.{counted_none}
use Rattle.subst.proofs.used_with_counts.Goals as goal

pub used_in-requires : goal.used_in-requires
used_in-requires g c = (c.requires, counted_none _ _)
