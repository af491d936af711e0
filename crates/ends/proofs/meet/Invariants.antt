-- `ends::meet` meets its contract. Assumes nothing.
use Rattle.ends.proofs.Ends.{Following}
use Rattle.ends.proofs.meet.Given as goal

abbrev pub invariant-loop-long : goal.invariant-loop-long
invariant-loop-long g l = Following (g.S.ReadState.state l.st) l.initial.cur.0 l.longest l.cur.0 l.long
