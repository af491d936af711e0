-- `joinlog::Job::one_turn` meets its contract. Assumes nothing.
use Rattle.joinlog.proofs.Chain.{read_bytes, read_none, took_no_bytes, gave_no_text}
use Rattle.joinlog.proofs.Job.one_turn.Goals as goal

pub returns-then-is_short-clause-bytes : goal.returns-then-is_short-clause-bytes
returns-then-is_short-clause-bytes g c = read_bytes _ _ c.fill-self.ensures.bytes

pub returns-then-is_short-clause-gave : goal.returns-then-is_short-clause-gave
returns-then-is_short-clause-gave g c = gave_no_text _ _ _ c.fill-self.ensures.filled.silent

pub returns-clause-bytes : goal.returns-clause-bytes
returns-clause-bytes g c = read_none _ _ c.list.ensures.listed.none

pub returns-clause-took : goal.returns-clause-took
returns-clause-took g c = took_no_bytes _ _ _ _ c.list.ensures.listed.none c.list.ensures.listed.follow
