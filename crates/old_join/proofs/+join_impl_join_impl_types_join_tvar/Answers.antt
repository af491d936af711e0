-- The operand walk, the argument walk and the merge: each step is a law of `join` for the state that the histories stand for, and no step leaves room for more
-- entries. Assumes nothing.
use Rattle.join.proofs.Operands.{tvar_err, tvar_inner, tvar_close, close_in}
use Rattle.join.proofs.Operands.{choice, impl_deep, arm_below, arm_left, arm_right, arm_subtype, arm_arity, arm_incompatible, arm_disagree, refs_err, arm_refs, types_err, arm_applies, arm_vars, left_err, left_var, left_merge, right_err, right_var, right_merge}
use Rattle.join.proofs.Args.{gather_none, gather_in, gather_err, gather_more, gathered}
use Rattle.table.proofs.Did.{did_now}
use Rattle.history.specs.Past.{as_rows}
use Rattle.old_join.proofs.Room.{within_none, within_then}
use Rattle.std.proofs.Common.{rules}
use mathlib.Core.Path.{◌≡◌, refl}
use Rattle.std.specs.Prelude.{if◌then◌else◌}
use native.Mathlib.Omega.{arith}
use Rattle.old_join.proofs.+join_impl_join_impl_types_join_tvar.Goals.{join_impl-then-at_left, join_impl-else-at_left}
use Rattle.old_join.proofs.+join_impl_join_impl_types_join_tvar.Goals as goal

pub join_impl-returns-then-left-eq0 : goal.join_impl-returns-then-left-eq0
join_impl-returns-then-left-eq0 t c = (did_now tt (λ ds k. impl_deep _ _ _ _ _ c.if-left-eq0.true), within_none)

pub join_impl-returns-in-Lhs : goal.join_impl-returns-in-Lhs
join_impl-returns-in-Lhs t c = (arm_left (choice _ _ (as_rows c.args.past.now) _ _ _ _ _ c.requires c.if-left-eq0.false c.node_at-l.ensures c.node_at-r.ensures c.arm_of.ensures) c.in-Lhs.is, within_none)

pub join_impl-returns-in-Rhs : goal.join_impl-returns-in-Rhs
join_impl-returns-in-Rhs t c = (arm_right (choice _ _ (as_rows c.args.past.now) _ _ _ _ _ c.requires c.if-left-eq0.false c.node_at-l.ensures c.node_at-r.ensures c.arm_of.ensures) c.in-Rhs.is, within_none)

pub join_impl-join_impl-requires : goal.join_impl-join_impl-requires
join_impl-join_impl-requires t c = (omega arith, arm_below (choice _ _ (as_rows c.args.past.now) _ _ _ _ _ c.requires c.if-left-eq0.false c.node_at-l.ensures c.node_at-r.ensures c.arm_of.ensures) c.in-Refs.is)

pub join_impl-returns-in_err-t-in-Refs : goal.join_impl-returns-in_err-t-in-Refs
join_impl-returns-in_err-t-in-Refs t c =
    let loc : c.if-at_left.loc ≡ (if c.in-Refs.at_left then c.node_at-l.result.loc else c.node_at-r.result.loc) =
    elim c.if-at_left.branch [ join_impl-then-at_left w ↦ rw w.if-at_left.true w.loc-is | join_impl-else-at_left w ↦ rw w.if-at_left.false w.loc-is ] in
    (refs_err (choice _ _ (as_rows c.args.past.now) _ _ _ _ _ c.requires c.if-left-eq0.false c.node_at-l.ensures c.node_at-r.ensures c.arm_of.ensures) c.in-Refs.is loc c.in_err-t-in-Refs.ensures.0 (search rules), c.in_err-t-in-Refs.ensures.1)

pub join_impl-returns-in_ok-t-in-Refs : goal.join_impl-returns-in_ok-t-in-Refs
join_impl-returns-in_ok-t-in-Refs t c =
    let loc : c.if-at_left.loc ≡ (if c.in-Refs.at_left then c.node_at-l.result.loc else c.node_at-r.result.loc) =
    elim c.if-at_left.branch [ join_impl-then-at_left w ↦ rw w.if-at_left.true w.loc-is | join_impl-else-at_left w ↦ rw w.if-at_left.false w.loc-is ] in
    (arm_refs (choice _ _ (as_rows c.args.past.now) _ _ _ _ _ c.requires c.if-left-eq0.false c.node_at-l.ensures c.node_at-r.ensures c.arm_of.ensures) c.in-Refs.is loc c.in_ok-t-in-Refs.ensures.0 c.push_node.ensures.0, within_then c.in_ok-t-in-Refs.ensures.1 c.push_node.ensures.1)

pub join_impl-join_impl_types-requires : goal.join_impl-join_impl_types-requires
join_impl-join_impl_types-requires t c = (omega arith, arm_below (choice _ _ (as_rows c.args.past.now) _ _ _ _ _ c.requires c.if-left-eq0.false c.node_at-l.ensures c.node_at-r.ensures c.arm_of.ensures) c.in-Applies.is)

pub join_impl-returns-in_err-a-in-Applies : goal.join_impl-returns-in_err-a-in-Applies
join_impl-returns-in_err-a-in-Applies t c = (types_err (choice _ _ (as_rows c.args.past.now) _ _ _ _ _ c.requires c.if-left-eq0.false c.node_at-l.ensures c.node_at-r.ensures c.arm_of.ensures) c.in-Applies.is c.in_err-a-in-Applies.ensures.0 (search rules), c.in_err-a-in-Applies.ensures.1)

pub join_impl-returns-in_ok-a-in-Applies : goal.join_impl-returns-in_ok-a-in-Applies
join_impl-returns-in_ok-a-in-Applies t c = (arm_applies (choice _ _ (as_rows c.args.past.now) _ _ _ _ _ c.requires c.if-left-eq0.false c.node_at-l.ensures c.node_at-r.ensures c.arm_of.ensures) c.in-Applies.is c.in_ok-a-in-Applies.ensures.0 c.push_apply.ensures.0, within_then c.in_ok-a-in-Applies.ensures.1 c.push_apply.ensures.1)

pub join_impl-returns-in-Vars : goal.join_impl-returns-in-Vars
join_impl-returns-in-Vars t c = (arm_vars (choice _ _ (as_rows c.args.past.now) _ _ _ _ _ c.requires c.if-left-eq0.false c.node_at-l.ensures c.node_at-r.ensures c.arm_of.ensures) c.in-Vars.is c.join_tvar.ensures.0, c.join_tvar.ensures.1)

pub join_impl-returns-in_err-meet_tvar-in-VarLhs : goal.join_impl-returns-in_err-meet_tvar-in-VarLhs
join_impl-returns-in_err-meet_tvar-in-VarLhs t c = (left_err (choice _ _ (as_rows c.args.past.now) _ _ _ _ _ c.requires c.if-left-eq0.false c.node_at-l.ensures c.node_at-r.ensures c.arm_of.ensures) c.in-VarLhs.is c.in_err-meet_tvar-in-VarLhs.ensures.0 (search rules), c.in_err-meet_tvar-in-VarLhs.ensures.1)

pub join_impl-returns-in-None : goal.join_impl-returns-in-None
join_impl-returns-in-None t c = (left_var (choice _ _ (as_rows c.args.past.now) _ _ _ _ _ c.requires c.if-left-eq0.false c.node_at-l.ensures c.node_at-r.ensures c.arm_of.ensures) c.in-VarLhs.is c.in_ok-meet_tvar-in-VarLhs.ensures.0 c.in-None.is, c.in_ok-meet_tvar-in-VarLhs.ensures.1)

pub join_impl-returns-in-Some : goal.join_impl-returns-in-Some
join_impl-returns-in-Some t c = (left_merge (choice _ _ (as_rows c.args.past.now) _ _ _ _ _ c.requires c.if-left-eq0.false c.node_at-l.ensures c.node_at-r.ensures c.arm_of.ensures) c.in-VarLhs.is c.in_ok-meet_tvar-in-VarLhs.ensures.0 c.in-Some.is c.join_tvar-in-Some.ensures.0, within_then c.in_ok-meet_tvar-in-VarLhs.ensures.1 c.join_tvar-in-Some.ensures.1)

pub join_impl-returns-in_err-meet_tvar-in-VarRhs : goal.join_impl-returns-in_err-meet_tvar-in-VarRhs
join_impl-returns-in_err-meet_tvar-in-VarRhs t c = (right_err (choice _ _ (as_rows c.args.past.now) _ _ _ _ _ c.requires c.if-left-eq0.false c.node_at-l.ensures c.node_at-r.ensures c.arm_of.ensures) c.in-VarRhs.is c.in_err-meet_tvar-in-VarRhs.ensures.0 (search rules), c.in_err-meet_tvar-in-VarRhs.ensures.1)

pub join_impl-returns-in-None-2 : goal.join_impl-returns-in-None-2
join_impl-returns-in-None-2 t c = (right_var (choice _ _ (as_rows c.args.past.now) _ _ _ _ _ c.requires c.if-left-eq0.false c.node_at-l.ensures c.node_at-r.ensures c.arm_of.ensures) c.in-VarRhs.is c.in_ok-meet_tvar-in-VarRhs.ensures.0 c.in-None-2.is, c.in_ok-meet_tvar-in-VarRhs.ensures.1)

pub join_impl-returns-in-Some-2 : goal.join_impl-returns-in-Some-2
join_impl-returns-in-Some-2 t c = (right_merge (choice _ _ (as_rows c.args.past.now) _ _ _ _ _ c.requires c.if-left-eq0.false c.node_at-l.ensures c.node_at-r.ensures c.arm_of.ensures) c.in-VarRhs.is c.in_ok-meet_tvar-in-VarRhs.ensures.0 c.in-Some-2.is c.join_tvar-in-Some-2.ensures.0, within_then c.in_ok-meet_tvar-in-VarRhs.ensures.1 c.join_tvar-in-Some-2.ensures.1)

pub join_impl-returns-in-SubtypeError : goal.join_impl-returns-in-SubtypeError
join_impl-returns-in-SubtypeError t c = (arm_subtype (choice _ _ (as_rows c.args.past.now) _ _ _ _ _ c.requires c.if-left-eq0.false c.node_at-l.ensures c.node_at-r.ensures c.arm_of.ensures) c.in-SubtypeError.is, within_none)

pub join_impl-returns-in-ArityMismatch : goal.join_impl-returns-in-ArityMismatch
join_impl-returns-in-ArityMismatch t c = (arm_arity (choice _ _ (as_rows c.args.past.now) _ _ _ _ _ c.requires c.if-left-eq0.false c.node_at-l.ensures c.node_at-r.ensures c.arm_of.ensures) c.in-ArityMismatch.is, within_none)

pub join_impl-returns-in-Incompatible : goal.join_impl-returns-in-Incompatible
join_impl-returns-in-Incompatible t c = (arm_incompatible (choice _ _ (as_rows c.args.past.now) _ _ _ _ _ c.requires c.if-left-eq0.false c.node_at-l.ensures c.node_at-r.ensures c.arm_of.ensures) c.in-Incompatible.is, within_none)

pub join_impl-returns-in-Disagree : goal.join_impl-returns-in-Disagree
join_impl-returns-in-Disagree t c = (arm_disagree (choice _ _ (as_rows c.args.past.now) _ _ _ _ _ c.requires c.if-left-eq0.false c.node_at-l.ensures c.node_at-r.ensures c.arm_of.ensures) c.in-Disagree.is, within_none)

pub join_impl_types-loop-i-init : goal.join_impl_types-loop-i-init
join_impl_types-loop-i-init t c = (gather_none c.requires.0 c.requires.1 c.min-many.ensures refl, within_none)

pub join_impl_types-join_impl-requires : goal.join_impl_types-join_impl-requires
join_impl_types-join_impl-requires t c = (omega arith, gather_in c.loop-i.invariant.0 c.loop-i-test.true c.arg_at-ty1.ensures c.arg_at-ty2.ensures)

pub join_impl_types-returns-in_err-tys : goal.join_impl_types-returns-in_err-tys
join_impl_types-returns-in_err-tys t c = (gather_err c.loop-i.invariant.0 c.loop-i-test.true c.arg_at-ty1.ensures c.arg_at-ty2.ensures c.in_err-tys.ensures.0 (search rules), within_then c.loop-i.invariant.1 c.in_err-tys.ensures.1)

pub join_impl_types-loop-i-preserved : goal.join_impl_types-loop-i-preserved
join_impl_types-loop-i-preserved t c = (gather_more c.loop-i.invariant.0 c.loop-i-test.true c.arg_at-ty1.ensures c.arg_at-ty2.ensures c.in_ok-tys.ensures.0 refl, within_then c.loop-i.invariant.1 c.in_ok-tys.ensures.1)

pub join_impl_types-returns : goal.join_impl_types-returns
join_impl_types-returns t c = (gathered c.loop-i.invariant.0 c.loop-i-test.false, c.loop-i.invariant.1)

pub join_tvar-returns-in_err-m : goal.join_tvar-returns-in_err-m
join_tvar-returns-in_err-m t c = (tvar_err _ _ _ _ _ _ c.in_err-m.ensures.0 (search rules), c.in_err-m.ensures.1)

pub join_tvar-join_impl-requires : goal.join_tvar-join_impl-requires
join_tvar-join_impl-requires t c = (omega arith, (c.in_ok-m.ensures.0.inside.0, c.in_ok-m.ensures.0.inside.1.0))

pub join_tvar-returns-in_err-ty : goal.join_tvar-returns-in_err-ty
join_tvar-returns-in_err-ty t c = (tvar_inner _ _ _ _ _ _ c.in_ok-m.ensures.0 c.in_err-ty.ensures.0 (search rules), within_then c.in_ok-m.ensures.1 c.in_err-ty.ensures.1)

pub join_tvar-close_tvar-requires : goal.join_tvar-close_tvar-requires
join_tvar-close_tvar-requires t c = close_in _ _ _ _ _ _ c.in_ok-m.ensures.0 c.in_ok-ty.ensures.0

pub join_tvar-returns : goal.join_tvar-returns
join_tvar-returns t c = (tvar_close _ _ _ _ _ _ c.in_ok-m.ensures.0 c.in_ok-ty.ensures.0 c.close_tvar.ensures.0, within_then c.in_ok-m.ensures.1 (within_then c.in_ok-ty.ensures.1 c.close_tvar.ensures.1))
