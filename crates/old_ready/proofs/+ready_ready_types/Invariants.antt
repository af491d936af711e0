-- `old_ready::ready` and `old_ready::ready_types` meet their contracts. Assumes nothing.
use Prim.Native.Nat.{◌+◌, ◌*◌}
use Rattle.old_ready.proofs.Run.{Readied}
use Rattle.old_ready.proofs.+ready_ready_types.Given as goal

abbrev pub decreases-ready : goal.decreases-ready
decreases-ready l = 2 * l.left

abbrev pub decreases-ready_types : goal.decreases-ready_types
decreases-ready_types l = 2 * l.left + 1

abbrev pub invariant-ready_types-loop-i : goal.invariant-ready_types-loop-i
invariant-ready_types-loop-i l = Readied l.left l.initial.past l.t l.many l.past l.tys l.i
