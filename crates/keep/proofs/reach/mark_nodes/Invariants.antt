-- `keep::reach::mark_nodes` meets its contract. Assumes nothing.
use lib.ListN.{get_or}
use Rattle.definition.specs.Keep.{a_node}
use Rattle.keep.specs.Marked.{MarksAll, Before}
use Rattle.keep.proofs.reach.mark_nodes.Given as goal

abbrev pub invariant-loop-i : goal.invariant-loop-i
invariant-loop-i l = MarksAll (Before (λ k. a_node (get_or l.nodes k 0)) l.i) l.initial.m l.m
