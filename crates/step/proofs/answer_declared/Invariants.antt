-- The words at entry go on to the call. Assumes nothing.
use Rattle.step.proofs.answer_declared.Given as goal

abbrev pub ghost-settle : goal.ghost-settle
ghost-settle g a = g.w0
