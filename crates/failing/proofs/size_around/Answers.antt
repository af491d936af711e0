-- `failing::size_around` meets its contract. Assumes nothing.
use mathlib.Core.List.{[]}
use native.Mathlib.Omega.{arith}
use Rattle.failing.proofs.size_around.Goals as goal

pub overflow_add-result : goal.overflow_add-result
overflow_add-result c = let e = c.in_ok-size_type.ensures [] in omega (arith, e.0, e.1, c.in_ok-left.ensures, c.requires.1)
