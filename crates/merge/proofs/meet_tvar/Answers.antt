-- `merge::meet_tvar` meets its contract. Assumes nothing.
use native.Mathlib.Omega.{arith}
use Rattle.std.proofs.Common.{rules}
use Rattle.table.proofs.Did.{nodes_more}
use Rattle.merge.proofs.Laws.{meets_free, meets_unbound, meets_full, meets_fresh}
use Rattle.merge.proofs.meet_tvar.Goals as goal

pub bind_var-requires : goal.bind_var-requires
bind_var-requires c = omega (arith, c.requires.1.1.1, nodes_more c.in_ok-new_tvar.ensures.changed)

pub returns-in_err-join_unbound : goal.returns-in_err-join_unbound
returns-in_err-join_unbound c = meets_unbound _ _ _ _ _ c.bound_at.ensures c.is_none.ensures c.if-is_none.true c.in_err-join_unbound.ensures (search rules)

pub returns-then-is_none : goal.returns-then-is_none
returns-then-is_none c = meets_free _ _ _ _ _ c.bound_at.ensures c.is_none.ensures c.if-is_none.true c.in_ok-join_unbound.ensures

pub returns-in_err-new_tvar : goal.returns-in_err-new_tvar
returns-in_err-new_tvar c = meets_full _ _ _ _ _ c.bound_at.ensures c.is_none.ensures c.if-is_none.false c.in_err-new_tvar.ensures (search rules)

pub returns : goal.returns
returns c = meets_fresh _ _ _ _ _ c.bound_at.ensures c.is_none.ensures c.if-is_none.false c.in_ok-new_tvar.ensures c.bind_var.ensures
