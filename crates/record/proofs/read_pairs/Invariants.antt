-- `record::read_pairs` meets its contract. Assumes nothing.
use Rattle.cursor.specs.Words.{Within}
use Rattle.record.proofs.Pairs.{PairsGo}
use Rattle.record.proofs.read_pairs.Given as goal

abbrev pub invariant-loop-i : goal.invariant-loop-i
invariant-loop-i l = PairsGo l.initial.st l.initial.r.left.now l.known l.many l.st l.r.left.now l.over l.ids l.nodes l.i × Within l.initial.r.left.now l.r.left.now
