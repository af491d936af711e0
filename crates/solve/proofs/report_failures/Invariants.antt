-- `solve::report_failures`: the words at entry, for each call. Assumes nothing.
use Rattle.solve.proofs.report_failures.Given as goal

abbrev pub ghost-settle_refusal : goal.ghost-settle_refusal
ghost-settle_refusal g a = g.w0
