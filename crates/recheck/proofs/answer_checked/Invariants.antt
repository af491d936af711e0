-- The words at entry go on to the call. Assumes nothing.
use Rattle.recheck.proofs.answer_checked.Given as goal

abbrev pub ghost-settle : goal.ghost-settle
ghost-settle g a = g.w0
