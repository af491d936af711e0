-- `solve::solve_all`: the words at entry, for each call. Assumes nothing.
use Rattle.solve.proofs.solve_all.Given as goal

abbrev pub ghost-solve_abilities : goal.ghost-solve_abilities
ghost-solve_abilities g a = g.w0

abbrev pub ghost-report_failures : goal.ghost-report_failures
ghost-report_failures g a = g.w0
