-- `payload::two_size` meets its contract. Assumes nothing.
use mathlib.Core.List.{[]}
use native.Mathlib.Omega.{arith}
use Rattle.payload.proofs.two_size.Goals as goal

pub overflow_sub-most : goal.overflow_sub-most
overflow_sub-most c = let e = c.in_ok-n.ensures [] in omega (arith, e.0, e.1)

pub overflow_add-result : goal.overflow_add-result
overflow_add-result c = let e = c.in_ok-n.ensures [] in let f = c.in_ok-m.ensures [] in omega (arith, e.0, e.1, f.0, f.1)
