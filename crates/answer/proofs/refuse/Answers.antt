-- `answer::refuse` meets its contract. Assumes nothing.
use Rattle.answer.proofs.Settling.{refuses}
use Rattle.answer.proofs.refuse.Goals as goal

pub returns : goal.returns
returns c = λ buf. rw c.as_before.ensures (refuses _ _ _ _ _ buf _ c.undo.ensures _ c.number.ensures)
