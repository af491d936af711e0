-- `old_merge::meet_tvar` meets its contract. Assumes nothing.
use native.Mathlib.Omega.{arith}
use Rattle.std.proofs.Common.{rules}
use Rattle.table.proofs.Did.{nodes_more}
use Rattle.merge.proofs.Laws.{meets_free, meets_unbound, meets_full, meets_fresh}
use Rattle.old_merge.proofs.Room.{unbound_by, spare_fresh}
use Rattle.old_merge.proofs.meet_tvar.Goals as goal

pub join_unbound-requires : goal.join_unbound-requires
join_unbound-requires c =
    (c.requires.0, (c.requires.1.0, (c.requires.1.1.0, (c.requires.1.1.1, unbound_by c.args.past.now _ _ c.bound_at.ensures c.is_none.ensures c.if-is_none.true))))

pub returns-in_err-join_unbound : goal.returns-in_err-join_unbound
returns-in_err-join_unbound c =
    (meets_unbound _ _ _ _ _ c.bound_at.ensures c.is_none.ensures c.if-is_none.true c.in_err-join_unbound.ensures.0 (search rules), c.in_err-join_unbound.ensures.1)

pub returns-then-is_none : goal.returns-then-is_none
returns-then-is_none c = (meets_free _ _ _ _ _ c.bound_at.ensures c.is_none.ensures c.if-is_none.true c.in_ok-join_unbound.ensures.0, c.in_ok-join_unbound.ensures.1)

pub returns-in_err-new_tvar : goal.returns-in_err-new_tvar
returns-in_err-new_tvar c = (meets_full _ _ _ _ _ c.bound_at.ensures c.is_none.ensures c.if-is_none.false c.in_err-new_tvar.ensures.0 (search rules), c.in_err-new_tvar.ensures.1)

pub bind_var-requires : goal.bind_var-requires
bind_var-requires c = (
  omega (arith, c.requires.1.1.1, nodes_more c.in_ok-new_tvar.ensures.0.changed),
  spare_fresh c.args.past.now c.take_var.new.self c.in_ok-new_tvar.new_tvar c.in_ok-new_tvar.ensures.1 c.take_var.new.self _ (omega arith),
)

pub returns : goal.returns
returns c = (
  meets_fresh _ _ _ _ _ c.bound_at.ensures c.is_none.ensures c.if-is_none.false c.in_ok-new_tvar.ensures.0 c.bind_var.ensures.0,
  (omega (arith, c.in_ok-new_tvar.ensures.1.0, c.bind_var.ensures.1.0), omega (arith, c.in_ok-new_tvar.ensures.1.1, c.bind_var.ensures.1.1)),
)
