-- `solve::solve`: the words at entry are those that are passed on. Assumes nothing.
use Rattle.solve.proofs.solve.Given as goal

abbrev pub ghost-solve_from : goal.ghost-solve_from
ghost-solve_from a = a.st.now.words.now
