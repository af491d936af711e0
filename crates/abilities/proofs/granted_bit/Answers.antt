-- `abilities::granted_bit` meets its contract. Assumes nothing.
use mathlib.Core.Path.{refl, sym}
use native.Mathlib.Omega.{arith}
use Rattle.abilities.proofs.granted_bit.Goals as goal

pub returns-then-granted : goal.returns-then-granted
returns-then-granted g c = (omega arith, λ ds k. rw (sym (c.granted.ensures ds k), c.if-granted.true) refl)

pub returns-else-granted : goal.returns-else-granted
returns-else-granted g c = (omega arith, λ ds k. rw (sym (c.granted.ensures ds k), c.if-granted.false) refl)
