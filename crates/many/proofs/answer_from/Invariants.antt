-- The words before the pair go on to the call. Assumes nothing.
use Rattle.many.proofs.answer_from.Given as goal

abbrev pub ghost-settle : goal.ghost-settle
ghost-settle g a = g.w0
