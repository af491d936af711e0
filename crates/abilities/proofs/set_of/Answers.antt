-- `abilities::set_of` meets its contract. Assumes nothing.
use Rattle.abilities.proofs.Sets.{ready_args}
use Rattle.abilities.proofs.set_of.Goals as goal

pub granted_set-requires : goal.granted_set-requires
granted_set-requires g c = ready_args _ _ _ _ _ c.requires c.in-Apply.is
