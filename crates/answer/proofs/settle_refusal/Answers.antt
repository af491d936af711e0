-- `answer::settle_refusal` meets its contract. Assumes nothing.
use Rattle.answer.proofs.Settling.{refused_in}
use Rattle.answer.proofs.settle_refusal.Goals as goal

pub returns : goal.returns
returns g c = λ buf. rw c.as_before.ensures (refused_in _ c.args.before _ _ buf _ c.go_back.ensures _ c.number.ensures)
