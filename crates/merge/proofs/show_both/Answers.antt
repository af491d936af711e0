-- `merge::show_both` meets its contract. Assumes nothing.
use mathlib.Core.Path.{refl}
use native.Mathlib.Omega.{arith}
use Rattle.std.proofs.Common.{rules}
use Rattle.table.specs.State.{outcome}
use Rattle.table.proofs.Did.{nodes_more, did_now, did_err, did_then}
use Rattle.merge.specs.Merge.{show_both}
use Rattle.merge.proofs.show_both.Goals as goal

pub returns-in_err-shown1 : goal.returns-in_err-shown1
unfolding show_both
returns-in_err-shown1 c = did_err _ c.in_err-shown1.ensures (search rules)

pub shown-requires-2 : goal.shown-requires-2
shown-requires-2 c = omega (arith, c.requires.1, nodes_more c.in_ok-shown1.ensures.changed)

pub returns-in_err-shown2 : goal.returns-in_err-shown2
unfolding show_both
returns-in_err-shown2 c = did_then _ c.in_ok-shown1.ensures (did_err _ c.in_err-shown2.ensures (search rules))

pub returns : goal.returns
unfolding show_both outcome
returns c =
    did_then _ c.in_ok-shown1.ensures (did_then _ c.in_ok-shown2.ensures
    (did_now (omega (arith, c.in_ok-shown1.ensures.inside, nodes_more c.in_ok-shown2.ensures.changed), c.in_ok-shown2.ensures.inside) (λ ds k. refl)))
