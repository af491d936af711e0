-- `joinlog::Job::run` meets its contract: turn after turn. Assumes nothing.
-- Invariant `Made`: as many turns as were counted have been made, with what they read and handed over. It ends where the job has ended or no turn is left.
use Rattle.joinlog.specs.Turns.{held}
use Rattle.joinlog.proofs.Chain.{Made}
use Rattle.joinlog.proofs.Job.run.Given as goal

abbrev pub invariant-loop-n : goal.invariant-loop-n
invariant-loop-n g l =
    Made (g.R.Read.remaining l.initial.input) (g.R.Read.remaining l.input) (g.W.Write.contents l.initial.output) (g.W.Write.contents l.output) (held l.initial.self l.initial.rows) (held l.self l.rows) l._n
