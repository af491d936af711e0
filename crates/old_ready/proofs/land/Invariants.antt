-- `old_ready::land` meets its contract. Assumes nothing.
use Rattle.history.specs.Past.{as_rows}
use Rattle.old_ready.proofs.Coming.{Coming}
use Rattle.old_ready.proofs.land.Given as goal

abbrev pub invariant-loop-calls : goal.invariant-loop-calls
invariant-loop-calls l = Coming (as_rows l.past) l.t l.left l.node l.calls
