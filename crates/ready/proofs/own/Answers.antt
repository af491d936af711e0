-- `ready::own` meets its contract. Assumes nothing.
use Rattle.ready.proofs.Told.{owns_apply}
use Rattle.ready.proofs.own.Goals as goal

pub returns-in-Apply : goal.returns-in-Apply
returns-in-Apply c = owns_apply _ _ _ c.in-Apply.is c.head_size-bytes.ensures
