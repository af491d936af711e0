-- `reader::read_parts` and `reader::read_type` meet their contracts. Assumes nothing.
use Rattle.reader.proofs.Loop.{Going}
use Rattle.cursor.specs.Words.{Within}
use Prim.Native.Nat.{◌+◌, ◌*◌}
use Rattle.reader.proofs.+read_parts_read_type.Given as goal

abbrev pub decreases-read_parts : goal.decreases-read_parts
decreases-read_parts l = 2 * l.nest + 1

abbrev pub decreases-read_type : goal.decreases-read_type
decreases-read_type l = 2 * l.nest

abbrev pub invariant-read_parts-loop-i : goal.invariant-read_parts-loop-i
invariant-read_parts-loop-i l = Going l.initial.st l.initial.r.left.now l.known l.nest l.initial.over l.n l.st l.r.left.now l.over l.parts l.i × Within l.initial.r.left.now l.r.left.now
