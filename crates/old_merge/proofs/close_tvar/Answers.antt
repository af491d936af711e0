-- `old_merge::close_tvar` meets its contract. Assumes nothing.
use mathlib.Core.Path.{sym, ◌∙◌}
use Rattle.table.proofs.Did.{did_now}
use Rattle.merge.proofs.Laws.{close_bound, close_free, binds_done, binds_failed, binds_recursive}
use Rattle.old_merge.proofs.Room.{unbound_at, within_now, within_on, spare_unbound, spends_unbound}
use Rattle.old_merge.proofs.close_tvar.Goals as goal

pub returns-in-Some : goal.returns-in-Some
returns-in-Some c =
    (did_now tt (λ ds k. close_bound _ _ _ _ _ _ _ _ _ _ c.node_at-n.result (sym c.in-Some.is ∙ c.bound_at.ensures ds) (c.node_at-n.ensures ds)), within_now c.args.past.now)

pub join_bind_tvar-requires : goal.join_bind_tvar-requires
join_bind_tvar-requires c = (c.requires.1.1.1, spare_unbound c.args.past.now _ (unbound_at c.args.past.now _ _ c.bound_at.ensures c.in_default.is))

pub returns-in-Ok : goal.returns-in-Ok
returns-in-Ok c = (
  binds_done _ _ _ c.join_bind_tvar.ensures.0 (λ ds. close_free _ _ _ _ _ _ _ _ _ (sym c.in_default.is ∙ c.bound_at.ensures ds)) c.in-Ok.is c.requires.1.1.0,
  spends_unbound c.args.past.now _ (unbound_at c.args.past.now _ _ c.bound_at.ensures c.in_default.is) c.join_bind_tvar.new.past c.join_bind_tvar.ensures.1,
)

pub returns-in-Err-NotNumeric : goal.returns-in-Err-NotNumeric
returns-in-Err-NotNumeric c =
    let bound = spends_unbound c.args.past.now _ (unbound_at c.args.past.now _ _ c.bound_at.ensures c.in_default.is) c.join_bind_tvar.new.past c.join_bind_tvar.ensures.1 in (
      binds_failed _ _ _ c.join_bind_tvar.ensures.0 (λ ds. close_free _ _ _ _ _ _ _ _ _ (sym c.in_default.is ∙ c.bound_at.ensures ds))
          c.in-Err-NotNumeric.is c.in-Err-NotNumeric.field-0-is c.show_both.ensures.0,
      within_on c.args.past.now c.join_bind_tvar.new.past c.show_both.new.past bound c.show_both.ensures.1,
    )

pub returns-in-Err-Recursive : goal.returns-in-Err-Recursive
returns-in-Err-Recursive c = (
  binds_recursive _ _ _ c.join_bind_tvar.ensures.0 (λ ds. close_free _ _ _ _ _ _ _ _ _ (sym c.in_default.is ∙ c.bound_at.ensures ds))
      c.in-Err-Recursive.is c.in-Err-Recursive.field-0-is,
  spends_unbound c.args.past.now _ (unbound_at c.args.past.now _ _ c.bound_at.ensures c.in_default.is) c.join_bind_tvar.new.past c.join_bind_tvar.ensures.1,
)
