-- `keep::survivors::write_survivors` meets its contract. Assumes nothing.
use Rattle.definition.specs.Keep.{those_below}
use Rattle.writer.specs.Bytes.{Wrote}
use Rattle.keep.specs.Numbered.{among, pairs}
use Rattle.keep.proofs.survivors.write_survivors.Given as goal

abbrev pub invariant-loop-v : goal.invariant-loop-v
invariant-loop-v l = Wrote l.initial.buf 0 (pairs l.numbers (those_below l.v (among l.vars))) l.buf l.next
