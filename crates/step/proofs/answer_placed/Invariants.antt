-- The words at entry go on to the calls. Assumes nothing.
use Rattle.step.proofs.answer_placed.Given as goal

abbrev pub ghost-answer_declared : goal.ghost-answer_declared
ghost-answer_declared g a = g.w0

abbrev pub ghost-expand : goal.ghost-expand
ghost-expand g a = g.w0

abbrev pub ghost-settle : goal.ghost-settle
ghost-settle g a = g.w0

abbrev pub ghost-settle_ready : goal.ghost-settle_ready
ghost-settle_ready g a = g.w0
