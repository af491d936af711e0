-- `needs::count_parts` and `needs::count_type` meet their contracts. The measure is twice the nesting that is left, one more for the parts; each need cites a law of Walk. Assumes nothing.
use Rattle.needs.proofs.Walk.{Going}
use Rattle.cursor.specs.Words.{Within}
use Prim.Native.Nat.{◌+◌, ◌*◌}
use Rattle.needs.proofs.+count_parts_count_type.Given as goal

abbrev pub decreases-count_parts : goal.decreases-count_parts
decreases-count_parts g l = 2 * l.nest + 1

abbrev pub decreases-count_type : goal.decreases-count_type
decreases-count_type g l = 2 * l.nest

abbrev pub invariant-count_parts-loop-i : goal.invariant-count_parts-loop-i
invariant-count_parts-loop-i g l = Going (g.S.ReadState.state l.st) l.initial.r.left.now l.known l.nest l.args l.initial.all l.n l.r.left.now l.all l._i × Within l.initial.r.left.now l.r.left.now
