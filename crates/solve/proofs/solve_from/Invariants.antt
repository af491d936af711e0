-- `solve::solve_from`: the words at entry, for each call. Assumes nothing.
use Rattle.solve.proofs.solve_from.Given as goal

abbrev pub ghost-solve_all : goal.ghost-solve_all
ghost-solve_all g a = g.w0

abbrev pub ghost-settle : goal.ghost-settle
ghost-settle g a = g.w0
