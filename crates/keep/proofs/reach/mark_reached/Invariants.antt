-- `keep::reach::mark_reached` meets its contract. Assumes nothing.
use Prim.Native.Nat.{◌+◌, ◌≤◌}
use Rattle.table.specs.Did.{tables}
use Rattle.keep.specs.Marked.{ahead, Draining}
use Rattle.keep.proofs.reach.mark_reached.Given as goal

abbrev pub invariant-loop-step : goal.invariant-loop-step
invariant-loop-step g l = Draining (tables l.st) g.listed l.m × (l._step + ahead l.m ≤ 3072)
