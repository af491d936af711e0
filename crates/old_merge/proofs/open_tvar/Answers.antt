-- `old_merge::open_tvar` meets its contract. Assumes nothing.
use native.Mathlib.Omega.{arith}
use Rattle.std.proofs.Common.{rules}
use Rattle.merge.specs.Merge.{open_types}
use Rattle.table.proofs.Did.{nodes_more, stop_in}
use Rattle.merge.proofs.Laws.{opens_err, opens_then, opens_ends}
use Rattle.old_merge.proofs.Room.{within_on}
use Rattle.old_merge.proofs.open_tvar.Goals as goal

pub returns-in_err-ty1 : goal.returns-in_err-ty1
unfolding open_types
returns-in_err-ty1 c = (
  opens_ends _ _ c.forward_tvar-last_id1.ensures c.forward_tvar-last_id2.ensures c.num_loc_at-num_loc_1.ensures c.num_loc_at-num_loc_2.ensures c.need_at-need1.ensures c.need_at-need2.ensures _ _
      (opens_err _ c.in_err-ty1.ensures.0.changed (stop_in _ _ c.in_err-ty1.ensures.0.inside) (search rules)),
  c.in_err-ty1.ensures.1,
)

pub returns-in_err-ty2 : goal.returns-in_err-ty2
unfolding open_types
returns-in_err-ty2 c = (
  opens_ends _ _ c.forward_tvar-last_id1.ensures c.forward_tvar-last_id2.ensures c.num_loc_at-num_loc_1.ensures c.num_loc_at-num_loc_2.ensures c.need_at-need1.ensures c.need_at-need2.ensures _ _
      (opens_then _ c.in_ok-ty1.ensures.0.changed (opens_err _ c.in_err-ty2.ensures.0.changed (stop_in _ _ c.in_err-ty2.ensures.0.inside) (search rules))),
  within_on c.args.past.now c.type_of.new.past c.type_of-2.new.past c.in_ok-ty1.ensures.1 c.in_err-ty2.ensures.1,
)

pub open_ends-requires : goal.open_ends-requires
open_ends-requires c = (omega (arith, c.in_ok-ty1.ensures.0.inside, nodes_more c.in_ok-ty2.ensures.0.changed), c.in_ok-ty2.ensures.0.inside)

pub returns : goal.returns
unfolding open_types
returns c =
    let types = within_on c.args.past.now c.type_of.new.past c.type_of-2.new.past c.in_ok-ty1.ensures.1 c.in_ok-ty2.ensures.1 in (
      opens_ends _ _ c.forward_tvar-last_id1.ensures c.forward_tvar-last_id2.ensures c.num_loc_at-num_loc_1.ensures c.num_loc_at-num_loc_2.ensures c.need_at-need1.ensures c.need_at-need2.ensures _ _
          (opens_then _ c.in_ok-ty1.ensures.0.changed (opens_then _ c.in_ok-ty2.ensures.0.changed c.open_ends.ensures.0)),
      within_on c.args.past.now c.type_of-2.new.past c.open_ends.new.past types c.open_ends.ensures.1,
    )
