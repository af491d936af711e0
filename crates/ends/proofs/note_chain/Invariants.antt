-- `ends::note_chain` meets its contract. Assumes nothing.
use Rattle.ends.proofs.Ends.{Noting}
use Rattle.ends.proofs.note_chain.Given as goal

abbrev pub invariant-loop : goal.invariant-loop
invariant-loop g l = Noting (g.S.ReadState.state l.st) l.x l.long l.ends l.cur.0
