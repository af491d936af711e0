-- `old_merge::show_both` meets its contract. Assumes nothing.
use mathlib.Core.Path.{refl}
use native.Mathlib.Omega.{arith}
use Rattle.std.proofs.Common.{rules}
use Rattle.table.specs.State.{outcome}
use Rattle.table.proofs.Did.{nodes_more, did_now, did_err, did_then}
use Rattle.merge.specs.Merge.{show_both}
use Rattle.old_merge.proofs.Room.{within_on}
use Rattle.old_merge.proofs.show_both.Goals as goal

pub returns-in_err-shown1 : goal.returns-in_err-shown1
unfolding show_both
returns-in_err-shown1 c = (did_err _ c.in_err-shown1.ensures.0 (search rules), c.in_err-shown1.ensures.1)

pub shown-requires-2 : goal.shown-requires-2
shown-requires-2 c = omega (arith, c.requires.1, nodes_more c.in_ok-shown1.ensures.0.changed)

pub returns-in_err-shown2 : goal.returns-in_err-shown2
unfolding show_both
returns-in_err-shown2 c = (
  did_then _ c.in_ok-shown1.ensures.0 (did_err _ c.in_err-shown2.ensures.0 (search rules)),
  within_on c.args.past.now c.shown.new.past c.shown-2.new.past c.in_ok-shown1.ensures.1 c.in_err-shown2.ensures.1,
)

pub returns : goal.returns
unfolding show_both outcome
returns c = (
  did_then _ c.in_ok-shown1.ensures.0 (did_then _ c.in_ok-shown2.ensures.0
      (did_now (omega (arith, c.in_ok-shown1.ensures.0.inside, nodes_more c.in_ok-shown2.ensures.0.changed), c.in_ok-shown2.ensures.0.inside) (λ ds k. refl))),
  within_on c.args.past.now c.shown.new.past c.shown-2.new.past c.in_ok-shown1.ensures.1 c.in_ok-shown2.ensures.1,
)
