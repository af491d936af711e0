-- `test_edges::run_jobs` meets its contract: the rest grows shorter. Assumes nothing.
use Rattle.std.proofs.Common.{length}
use Rattle.test_edges.proofs.run_jobs.Given as goal

abbrev pub decreases-loop-size : goal.decreases-loop-size
decreases-loop-size l = length l.rest
