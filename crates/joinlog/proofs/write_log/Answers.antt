-- `joinlog::write_log` meets its contract. Assumes nothing.
use mathlib.Core.Path.{refl}
use Rattle.joinlog.proofs.Whole.{program_log}
use Rattle.joinlog.proofs.write_log.Goals as goal

pub returns-clause-log : goal.returns-clause-log
returns-clause-log g c = program_log _ (record { start = _; stop = _; at_first = c.new-job.ensures.at_first; run = c.run.ensures; stands = refl })
