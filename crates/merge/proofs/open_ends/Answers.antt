-- `merge::open_ends` meets its contract. Assumes nothing.
use native.Mathlib.Omega.{arith}
use Rattle.std.proofs.Common.{rules}
use Rattle.definition.specs.Store.{insert}
use Rattle.merge.specs.Merge.{open_ends}
use Rattle.table.proofs.Did.{nodes_more, stop_in}
use Rattle.merge.proofs.Laws.{opens_err, opens_then, opens_kept, opens_ready, took_one, vars_more, none_taken, max_larger}
use Rattle.merge.proofs.open_ends.Goals as goal

pub returns-in_err-new_tvar : goal.returns-in_err-new_tvar
unfolding open_ends
returns-in_err-new_tvar c = (opens_err _ c.in_err-new_tvar.ensures.changed c.in_err-new_tvar.ensures.inside (search rules), none_taken _ _ c.in_err-new_tvar.ensures.changed (search rules))

pub returns-in_err-var1 : goal.returns-in_err-var1
unfolding open_ends
returns-in_err-var1 c = (
  opens_then _ c.in_ok-new_tvar.ensures.changed (opens_kept _ (rw (c.max-need.ensures, max_larger) at c.merge_num.ensures)
      (opens_err _ c.in_err-var1.ensures.changed (stop_in _ _ c.in_err-var1.ensures.inside) (search rules))),
  none_taken _ _ c.in_err-var1.ensures.changed (search rules),
)

pub returns-in_err-var2 : goal.returns-in_err-var2
unfolding open_ends
returns-in_err-var2 c = (
  opens_then _ c.in_ok-new_tvar.ensures.changed (opens_kept _ (rw (c.max-need.ensures, max_larger) at c.merge_num.ensures) (opens_then _ c.in_ok-var1.ensures.changed
      (opens_err _ c.in_err-var2.ensures.changed (stop_in _ _ c.in_err-var2.ensures.inside) (search rules)))),
  none_taken _ _ c.in_err-var2.ensures.changed (search rules),
)

pub bind_var-requires : goal.bind_var-requires
bind_var-requires c = omega (arith, c.in_ok-var1.ensures.inside, nodes_more c.push_node-2.ensures.changed)

pub returns : goal.returns
unfolding open_ends
returns c =
    let e1 = c.args.e1 in
    let e2 = c.args.e2 in
    let v = c.in_ok-new_tvar.new_tvar.0 in
    let more1 = nodes_more c.in_ok-new_tvar.ensures.changed in
    let more2 = nodes_more c.merge_num.ensures.changed in
    let more3 = nodes_more c.push_node.ensures.changed in
    let more4 = nodes_more c.push_node-2.ensures.changed in
    let more5 = nodes_more c.bind_var.ensures.changed in
    let more6 = nodes_more c.bind_var-2.ensures.changed in
    let in1 = c.requires.0 in
    let in2 = c.requires.1 in
    let in3 = c.in_ok-var2.ensures.inside in (
      opens_then _ c.in_ok-new_tvar.ensures.changed (opens_kept _ (rw (c.max-need.ensures, max_larger) at c.merge_num.ensures) (opens_then _ c.in_ok-var1.ensures.changed (opens_then _ c.in_ok-var2.ensures.changed
          (opens_kept (λ s k. k (insert s e2.last_id.0 c.in_ok-var2.var2) e1.ty e2.ty v c.in_ok-var2.var2) c.bind_var.ensures
          (opens_kept (λ s k. k s e1.ty e2.ty v c.in_ok-var2.var2) c.bind_var-2.ensures
          (opens_ready _ _ (omega arith) (omega arith) (omega arith))))))),
      omega (arith, took_one c.in_ok-new_tvar.ensures, vars_more c.merge_num.ensures.changed, vars_more c.push_node.ensures.changed, vars_more c.push_node-2.ensures.changed, vars_more c.bind_var.ensures.changed, vars_more c.bind_var-2.ensures.changed),
    )
