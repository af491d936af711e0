-- The words of before go on to `settle_spelled`. Assumes nothing.
use Rattle.answer.proofs.settle_ready.Given as goal

abbrev pub ghost-settle_spelled : goal.ghost-settle_spelled
ghost-settle_spelled g a = g.w0
