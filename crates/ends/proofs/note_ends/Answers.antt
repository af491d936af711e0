use Rattle.ends.proofs.Ends.{known_all}
use Rattle.ends.proofs.note_ends.Goals as goal

pub returns : goal.returns
returns g c = (known_all _ _ c.loop-i.invariant.1 c.loop-i.invariant.0, c.loop-i.invariant.1.size)
