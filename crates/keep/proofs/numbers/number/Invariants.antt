-- `keep::numbers::number` meets its contract. Assumes nothing.
use lib.ListN.{length}
use Rattle.keep.proofs.Numbering.{Numbering}
use Rattle.keep.proofs.numbers.number.Given as goal

abbrev pub invariant-loop-i : goal.invariant-loop-i
invariant-loop-i l = Numbering l.stays (length l.stays) l.i l.below l.numbers
