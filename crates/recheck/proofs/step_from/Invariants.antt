-- The words at entry go on to the calls. Assumes nothing.
use Rattle.recheck.proofs.step_from.Given as goal

abbrev pub ghost-answer_checked : goal.ghost-answer_checked
ghost-answer_checked g a = g.w0

abbrev pub ghost-settle_refusal : goal.ghost-settle_refusal
ghost-settle_refusal g a = g.w0
