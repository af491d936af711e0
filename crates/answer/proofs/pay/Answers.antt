-- `answer::pay` meets its contract. Assumes nothing.
use Rattle.std.proofs.Common.{rules}
use Rattle.answer.proofs.pay.Goals as goal

pub returns : goal.returns
returns c = let st = c.new-st.ensures in
    (search rules, λ ds. rw (st.0, st.1.0) at (c.write_payload.ensures ds))
