-- The words are those at entry. Assumes nothing.
use Rattle.recheck.proofs.step_checked.Given as goal

abbrev pub ghost-step_from : goal.ghost-step_from
ghost-step_from a = a.st.now.words.now
