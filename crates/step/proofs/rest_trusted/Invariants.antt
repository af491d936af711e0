-- The words are those at entry. Assumes nothing.
use Rattle.step.proofs.rest_trusted.Given as goal

abbrev pub ghost-rest_from : goal.ghost-rest_from
ghost-rest_from a = a.st.now.words.now
