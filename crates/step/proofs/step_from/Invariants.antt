-- The words at entry go on to the calls. Assumes nothing.
use Rattle.step.proofs.step_from.Given as goal

abbrev pub ghost-answer_placed : goal.ghost-answer_placed
ghost-answer_placed g a = g.w0

abbrev pub ghost-settle_refusal : goal.ghost-settle_refusal
ghost-settle_refusal g a = g.w0
