-- `joinlog::Job::new` meets its contract: the log has room for the longest line. Assumes nothing.
use Rattle.std.proofs.Common.{arith}
use Rattle.pieces.specs.Pieces.{max_line}
use Rattle.joinlog.proofs.Job.new.Goals as goal

pub returns-clause-room : goal.returns-clause-room
unfolding max_line
returns-clause-room c = omega arith
