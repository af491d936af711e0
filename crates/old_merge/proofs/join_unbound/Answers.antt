-- `old_merge::join_unbound` meets its contract. Assumes nothing.
use Rattle.merge.proofs.Laws.{binds_done, binds_failed, binds_recursive, unbound_is, unbound_incompatible}
use Rattle.old_merge.proofs.Room.{spare_unbound, spends_unbound}
use Rattle.old_merge.proofs.join_unbound.Goals as goal

pub join_bind_tvar-requires : goal.join_bind_tvar-requires
join_bind_tvar-requires c = (c.requires.1.1.1.0, spare_unbound c.args.past.now _ c.requires.1.1.1.1)

pub returns-in-Ok : goal.returns-in-Ok
returns-in-Ok c = (
  binds_done _ _ _ c.join_bind_tvar.ensures.0 (λ ds. unbound_is _ _ _ _ _ _ c.node_at-n.result (c.node_at-n.ensures ds)) c.in-Ok.is c.requires.1.1.0,
  spends_unbound c.args.past.now _ c.requires.1.1.1.1 c.join_bind_tvar.new.past c.join_bind_tvar.ensures.1,
)

pub returns-in-Err-NotNumeric : goal.returns-in-Err-NotNumeric
returns-in-Err-NotNumeric c = (
  binds_failed _ _ _ c.join_bind_tvar.ensures.0 (λ ds. unbound_is _ _ _ _ _ _ c.node_at-n.result (c.node_at-n.ensures ds)) c.in-Err-NotNumeric.is c.in-Err-NotNumeric.field-0-is
      (unbound_incompatible _ _ (rw c.join_bind_tvar.ensures.0.used c.requires.0) (rw c.join_bind_tvar.ensures.0.used c.requires.1.0)),
  spends_unbound c.args.past.now _ c.requires.1.1.1.1 c.join_bind_tvar.new.past c.join_bind_tvar.ensures.1,
)

pub returns-in-Err-Recursive : goal.returns-in-Err-Recursive
returns-in-Err-Recursive c = (
  binds_recursive _ _ _ c.join_bind_tvar.ensures.0 (λ ds. unbound_is _ _ _ _ _ _ c.node_at-n.result (c.node_at-n.ensures ds)) c.in-Err-Recursive.is c.in-Err-Recursive.field-0-is,
  spends_unbound c.args.past.now _ c.requires.1.1.1.1 c.join_bind_tvar.new.past c.join_bind_tvar.ensures.1,
)
