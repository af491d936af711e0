-- `old_ready::ready_past` meets its contract. Assumes nothing.
use Rattle.history.specs.Past.{as_rows}
use Rattle.old_ready.proofs.Within.{within_now}
use Rattle.old_ready.proofs.Run.{run_stop, run_on}
use Rattle.old_ready.proofs.ready_past.Goals as goal

pub returns-then-reaches_itself : goal.returns-then-reaches_itself
returns-then-reaches_itself c = (run_stop (as_rows c.args.past.now) _ _ c.reaches_itself.ensures c.if-reaches_itself.true, within_now c.args.past.now)

pub returns : goal.returns
returns c = (run_on (as_rows c.args.past.now) _ _ c.reaches_itself.ensures c.if-reaches_itself.false c.ready.ensures.0, c.ready.ensures.1)
