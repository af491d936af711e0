-- `solve::solve_abilities`: the words at entry, for each call. Assumes nothing.
use Rattle.solve.proofs.solve_abilities.Given as goal

abbrev pub ghost-report_failures : goal.ghost-report_failures
ghost-report_failures g a = g.w0

abbrev pub ghost-settle_refusal : goal.ghost-settle_refusal
ghost-settle_refusal g a = g.w0
