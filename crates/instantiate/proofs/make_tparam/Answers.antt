-- `instantiate::make_tparam` meets its contract. Assumes nothing.
use Rattle.std.proofs.Common.{rules}
use Rattle.table.proofs.Grown.{loc_is}
use Rattle.instantiate.proofs.TvarLaws.{tparam_err, tparam_err2, tparam_err3, tparam_made}
use Rattle.instantiate.proofs.make_tparam.Goals as goal

pub returns-in_err-tvar : goal.returns-in_err-tvar
returns-in_err-tvar c = tparam_err _ _ _ _ (λ ds. loc_is _ _ c.node_at-node.result (c.node_at-node.ensures ds)) c.in_err-tvar.ensures (search rules)

pub returns-in_err-push_constraint : goal.returns-in_err-push_constraint
returns-in_err-push_constraint c = tparam_err2 _ _ _ _ (λ ds. loc_is _ _ c.node_at-node.result (c.node_at-node.ensures ds)) c.in_ok-tvar.ensures c.in_err-push_constraint.ensures (search rules)

pub returns-in_err-push_constraint-2 : goal.returns-in_err-push_constraint-2
returns-in_err-push_constraint-2 c =
    tparam_err3 _ _ _ _ (λ ds. loc_is _ _ c.node_at-node.result (c.node_at-node.ensures ds)) c.in_ok-tvar.ensures c.in_ok-push_constraint.ensures _ c.tvar_constraint.ensures c.in_err-push_constraint-2.ensures (search rules)

pub returns : goal.returns
returns c = tparam_made _ _ _ _ (λ ds. loc_is _ _ c.node_at-node.result (c.node_at-node.ensures ds)) c.in_ok-tvar.ensures c.in_ok-push_constraint.ensures _ c.tvar_constraint.ensures c.in_ok-push_constraint-2.ensures
