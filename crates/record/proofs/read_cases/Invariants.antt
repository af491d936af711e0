-- `record::read_cases` meets its contract. Assumes nothing.
use Rattle.cursor.specs.Words.{Within}
use Rattle.record.proofs.Many.{ManyGo}
use Rattle.record.proofs.read_cases.Given as goal

abbrev pub invariant-loop-i : goal.invariant-loop-i
invariant-loop-i l = ManyGo l.initial.st l.initial.r.left.now l.known l.many l.st l.r.left.now l.over l.names l.i × Within l.initial.r.left.now l.r.left.now
