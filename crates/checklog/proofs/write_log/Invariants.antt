-- The loop of `write_log`. Assumes nothing.
use Rattle.checklog.proofs.Wrote.{Wrote}
use Rattle.checklog.proofs.write_log.Given as goal

abbrev pub invariant-loop-call : goal.invariant-loop-call
invariant-loop-call g l = Wrote (g.W.Write.contents l.initial.output) (g.W.Write.contents l.output) l.stream l.rest l.words l.rows l.index
