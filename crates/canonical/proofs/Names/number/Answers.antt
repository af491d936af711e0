-- `canonical::Names::number` meets its contract. Assumes nothing.
use native.Mathlib.Omega.{arith}
use Rattle.canonical.proofs.Numbers.{named_known, named_next_at, room_left}
use Rattle.canonical.proofs.Names.number.Goals as goal

pub returns-in-Some : goal.returns-in-Some
returns-in-Some c = λ ms k. named_known k c.requires.1 c.in-Some.known (omega (arith, rw c.from-i.ensures at c.in-Some.ensures))

pub overflow_add-self : goal.overflow_add-self
overflow_add-self c = omega (arith, room_left c.requires.0.1 c.requires.1 (omega (arith, rw c.from-i.ensures at c.in_default.ensures)))

pub overflow_add-self-2 : goal.overflow_add-self-2
overflow_add-self-2 c = omega (arith, room_left c.requires.0.1 c.requires.1 (omega (arith, rw c.from-i.ensures at c.in_default.ensures)))

pub returns : goal.returns
returns c = λ ms k. named_next_at k c.requires.1 (omega (arith, rw c.from-i.ensures at c.in_default.ensures)) c.from-i.result c.from-i.ensures
