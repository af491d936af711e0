-- `fields::read_params` meets its contract. Assumes nothing.
use Rattle.cursor.specs.Words.{Within}
use Rattle.fields.proofs.Bytes.{Going}
use Rattle.fields.proofs.read_params.Given as goal

abbrev pub invariant-loop-i : goal.invariant-loop-i
invariant-loop-i l = Going l.initial.r.left.now l.many l.bytes l.r.left.now l.i × Within l.initial.r.left.now l.r.left.now
