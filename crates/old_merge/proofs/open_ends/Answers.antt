-- `old_merge::open_ends` meets its contract. Assumes nothing.
use native.Mathlib.Omega.{arith}
use Rattle.std.proofs.Common.{rules}
use Rattle.definition.specs.Store.{insert}
use Rattle.merge.specs.Merge.{open_ends}
use Rattle.table.proofs.Did.{nodes_more, stop_in}
use Rattle.merge.proofs.Laws.{opens_err, opens_then, opens_kept, opens_ready}
use Rattle.old_merge.proofs.Room.{spare_fresh, mark_fresh, within_fresh, within_on}
use Rattle.old_merge.proofs.Fresh.{fresh_unbound, needs_larger}
use Rattle.old_merge.proofs.open_ends.Goals as goal

pub returns-in_err-new_tvar : goal.returns-in_err-new_tvar
unfolding open_ends
returns-in_err-new_tvar c = (opens_err _ c.in_err-new_tvar.ensures.0.changed c.in_err-new_tvar.ensures.0.inside (search rules), c.in_err-new_tvar.ensures.1)

pub merge_num-requires : goal.merge_num-requires
merge_num-requires c = (fresh_unbound c.in_ok-new_tvar.ensures.0, mark_fresh c.args.past.now c.take_var.new.self c.in_ok-new_tvar.new_tvar c.in_ok-new_tvar.ensures.1)

pub returns-in_err-var1 : goal.returns-in_err-var1
unfolding open_ends
returns-in_err-var1 c =
    let numbered = needs_larger c.args.e1.num_loc c.args.e2.num_loc c.args.e1.need c.args.e2.need _ c.max-need.ensures c.merge_num.ensures.0 in
    let fresh = within_fresh c.args.past.now c.take_var.new.self c.in_ok-new_tvar.new_tvar c.in_ok-new_tvar.ensures.1 c.merge_num.new.past c.merge_num.ensures.1 in (
      opens_then _ c.in_ok-new_tvar.ensures.0.changed (opens_kept _ numbered
          (opens_err _ c.in_err-var1.ensures.0.changed (stop_in _ _ c.in_err-var1.ensures.0.inside) (search rules))),
      within_on c.args.past.now c.merge_num.new.past c.push_node.new.self fresh c.push_node.ensures.1,
    )

pub returns-in_err-var2 : goal.returns-in_err-var2
unfolding open_ends
returns-in_err-var2 c =
    let numbered = needs_larger c.args.e1.num_loc c.args.e2.num_loc c.args.e1.need c.args.e2.need _ c.max-need.ensures c.merge_num.ensures.0 in
    let fresh = within_fresh c.args.past.now c.take_var.new.self c.in_ok-new_tvar.new_tvar c.in_ok-new_tvar.ensures.1 c.merge_num.new.past c.merge_num.ensures.1 in
    let first = within_on c.args.past.now c.merge_num.new.past c.push_node.new.self fresh c.push_node.ensures.1 in (
      opens_then _ c.in_ok-new_tvar.ensures.0.changed (opens_kept _ numbered (opens_then _ c.in_ok-var1.ensures.0.changed
          (opens_err _ c.in_err-var2.ensures.0.changed (stop_in _ _ c.in_err-var2.ensures.0.inside) (search rules)))),
      within_on c.args.past.now c.push_node.new.self c.push_node-2.new.self first c.push_node-2.ensures.1,
    )

pub bind_var-requires : goal.bind_var-requires
bind_var-requires c = (
  omega (arith, c.in_ok-var1.ensures.0.inside, nodes_more c.push_node-2.ensures.0.changed),
  spare_fresh c.args.past.now c.take_var.new.self c.in_ok-new_tvar.new_tvar c.in_ok-new_tvar.ensures.1 c.push_node-2.new.self _ (omega (arith, c.merge_num.ensures.1.0, c.push_node.ensures.1.0, c.push_node-2.ensures.1.0)),
)

pub bind_var-requires-2 : goal.bind_var-requires-2
bind_var-requires-2 c = (
  omega (arith, c.in_ok-var2.ensures.0.inside, nodes_more c.bind_var.ensures.0.changed),
  spare_fresh c.args.past.now c.take_var.new.self c.in_ok-new_tvar.new_tvar c.in_ok-new_tvar.ensures.1 c.bind_var.new.self _ (omega (arith, c.merge_num.ensures.1.0, c.push_node.ensures.1.0, c.push_node-2.ensures.1.0, c.bind_var.ensures.1.0)),
)

pub returns : goal.returns
unfolding open_ends
returns c =
    let e1 = c.args.e1 in
    let e2 = c.args.e2 in
    let v = c.in_ok-new_tvar.new_tvar.0 in
    let numbered = needs_larger e1.num_loc e2.num_loc e1.need e2.need _ c.max-need.ensures c.merge_num.ensures.0 in
    let more1 = nodes_more c.in_ok-new_tvar.ensures.0.changed in
    let more2 = nodes_more c.merge_num.ensures.0.changed in
    let more3 = nodes_more c.push_node.ensures.0.changed in
    let more4 = nodes_more c.push_node-2.ensures.0.changed in
    let more5 = nodes_more c.bind_var.ensures.0.changed in
    let more6 = nodes_more c.bind_var-2.ensures.0.changed in
    let in1 = c.requires.0 in
    let in2 = c.requires.1 in
    let in3 = c.in_ok-var2.ensures.0.inside in (
      opens_then _ c.in_ok-new_tvar.ensures.0.changed (opens_kept _ numbered (opens_then _ c.in_ok-var1.ensures.0.changed (opens_then _ c.in_ok-var2.ensures.0.changed
          (opens_kept (λ s k. k (insert s e2.last_id.0 c.in_ok-var2.var2) e1.ty e2.ty v c.in_ok-var2.var2) c.bind_var.ensures.0
          (opens_kept (λ s k. k s e1.ty e2.ty v c.in_ok-var2.var2) c.bind_var-2.ensures.0
          (opens_ready _ _ (omega arith) (omega arith) (omega arith))))))),
      (
        omega (arith, c.in_ok-new_tvar.ensures.1.0, c.merge_num.ensures.1.0, c.push_node.ensures.1.0, c.push_node-2.ensures.1.0, c.bind_var.ensures.1.0, c.bind_var-2.ensures.1.0),
        omega (arith, c.in_ok-new_tvar.ensures.1.1, c.merge_num.ensures.1.1, c.push_node.ensures.1.1, c.push_node-2.ensures.1.1, c.bind_var.ensures.1.1, c.bind_var-2.ensures.1.1),
      ),
    )
