-- `keep::marks::Marks::pop` meets its contract. Assumes nothing.
use native.Mathlib.Omega.{arith}
use Rattle.keep.proofs.Marking.{popped}
use Rattle.keep.proofs.marks.Marks.pop.Goals as goal

pub returns : goal.returns
returns c = popped _ _ c.requires (omega (arith, c.in_ok-last.ensures))
