-- `record::read_names` meets its contract. Assumes nothing.
use Rattle.cursor.specs.Words.{Within}
use Rattle.record.proofs.Names.{NamesGo}
use Rattle.record.proofs.read_names.Given as goal

abbrev pub invariant-loop-i : goal.invariant-loop-i
invariant-loop-i l = NamesGo l.known l.initial.r.left.now l.many l.r.left.now l.names l.i × Within l.initial.r.left.now l.r.left.now
