-- `merge::open_tvar` meets its contract. Assumes nothing.
use mathlib.Core.Path.{refl}
use native.Mathlib.Omega.{arith}
use Rattle.std.proofs.Common.{rules}
use Rattle.merge.specs.Merge.{open_types}
use Rattle.table.proofs.Did.{nodes_more, stop_in}
use Rattle.merge.proofs.Laws.{opens_err, opens_then, opens_ends, vars_more, both_few, follows_err, follows_both}
use Rattle.merge.proofs.open_tvar.Goals as goal

pub returns-in_err-ty1 : goal.returns-in_err-ty1
unfolding open_types
returns-in_err-ty1 c = (
  opens_ends _ _ c.forward_tvar-end1.ensures.tvar_is c.forward_tvar-end2.ensures.tvar_is c.num_loc_at-num_loc_1.ensures c.num_loc_at-num_loc_2.ensures c.need_at-need1.ensures c.need_at-need2.ensures _ _
      (opens_err _ c.in_err-ty1.ensures.changed (stop_in _ _ c.in_err-ty1.ensures.inside) (search rules)),
  follows_err _ _ c.requires c.forward_tvar-end1.ensures c.forward_tvar-end2.ensures refl c.in_err-ty1.ensures.changed (search rules),
)

pub returns-in_err-ty2 : goal.returns-in_err-ty2
unfolding open_types
returns-in_err-ty2 c = (
  opens_ends _ _ c.forward_tvar-end1.ensures.tvar_is c.forward_tvar-end2.ensures.tvar_is c.num_loc_at-num_loc_1.ensures c.num_loc_at-num_loc_2.ensures c.need_at-need1.ensures c.need_at-need2.ensures _ _
      (opens_then _ c.in_ok-ty1.ensures.changed (opens_err _ c.in_err-ty2.ensures.changed (stop_in _ _ c.in_err-ty2.ensures.inside) (search rules))),
  follows_err _ _ c.requires c.forward_tvar-end1.ensures c.forward_tvar-end2.ensures refl c.in_err-ty2.ensures.changed (search rules),
)

pub open_ends-requires : goal.open_ends-requires
open_ends-requires c = (omega (arith, c.in_ok-ty1.ensures.inside, nodes_more c.in_ok-ty2.ensures.changed), c.in_ok-ty2.ensures.inside)

pub returns : goal.returns
unfolding open_types
returns c = (
  opens_ends _ _ c.forward_tvar-end1.ensures.tvar_is c.forward_tvar-end2.ensures.tvar_is c.num_loc_at-num_loc_1.ensures c.num_loc_at-num_loc_2.ensures c.need_at-need1.ensures c.need_at-need2.ensures _ _
      (opens_then _ c.in_ok-ty1.ensures.changed (opens_then _ c.in_ok-ty2.ensures.changed c.open_ends.ensures.0)),
  follows_both _ _ c.requires c.forward_tvar-end1.ensures c.forward_tvar-end2.ensures _ _ refl (omega (arith, vars_more c.in_ok-ty1.ensures.changed, vars_more c.in_ok-ty2.ensures.changed)) c.open_ends.ensures.1,
)

pub overflow_add-followed : goal.overflow_add-followed
overflow_add-followed c = let f = both_few _ _ c.requires c.forward_tvar-end1.ensures c.forward_tvar-end2.ensures in omega (arith, f.0)

pub overflow_add-followed-2 : goal.overflow_add-followed-2
overflow_add-followed-2 c = let f = both_few _ _ c.requires c.forward_tvar-end1.ensures c.forward_tvar-end2.ensures in omega (arith, f.1)
