-- `keep::reach::mark_vars` meets its contract. Assumes nothing.
use lib.ListN.{get_or}
use Rattle.definition.specs.Keep.{a_variable}
use Rattle.keep.specs.Marked.{MarksAll, Before}
use Rattle.keep.proofs.reach.mark_vars.Given as goal

abbrev pub invariant-loop-i : goal.invariant-loop-i
invariant-loop-i l = MarksAll (Before (λ k. a_variable (get_or l.vars k 0)) l.i) l.initial.m l.m
