-- `sound::chain_length` meets its contract. Assumes nothing.
use Rattle.sound.proofs.Links.{Follows}
use Rattle.sound.proofs.chain_length.Given as goal

abbrev pub invariant-loop-n : goal.invariant-loop-n
invariant-loop-n l = Follows l.lent.words.now l.lent.used l.initial.cur.0 l.n l.cur.0
