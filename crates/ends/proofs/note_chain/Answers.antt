use Rattle.ends.proofs.Ends.{noting_on}
use Rattle.ends.proofs.note_chain.Goals as goal

pub loop-preserved : goal.loop-preserved
loop-preserved g c = noting_on c.loop.invariant _ c.note.ensures _ c.next_of.ensures _ c.in-Some.is
