-- The words are those before the pair. Assumes nothing.
use Rattle.many.proofs.answer_pair.Given as goal

abbrev pub ghost-answer_from : goal.ghost-answer_from
ghost-answer_from a = a.st.now.words.now
