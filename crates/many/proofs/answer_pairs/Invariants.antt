-- `many::answer_pairs` meets its contract. Assumes nothing.
use Rattle.many.proofs.Turns.{Going}
use Rattle.many.proofs.answer_pairs.Given as goal

abbrev pub invariant-loop-i : goal.invariant-loop-i
invariant-loop-i l = Going l.initial.st l.names l.n l.initial.buf l.st l.saved l.buf l.at l.i
