-- `keep::reach::mark_constraints` meets its contract. Assumes nothing.
use Rattle.table.specs.Did.{tables}
use Rattle.keep.specs.Marked.{MarksAll, Before, constraint_node}
use Rattle.keep.proofs.reach.mark_constraints.Given as goal

abbrev pub invariant-loop-i : goal.invariant-loop-i
invariant-loop-i l = MarksAll (Before (constraint_node (tables l.st)) l.i) l.initial.m l.m
