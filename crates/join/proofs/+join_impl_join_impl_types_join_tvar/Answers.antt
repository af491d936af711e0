use Rattle.merge.proofs.Laws.{vars_more}
use Rattle.arms.specs.declared.Arm.TheVariants.{Lhs, Rhs, SubtypeError, ArityMismatch, Incompatible, Disagree}
use Rattle.join.proofs.Links.{follows_none, follows_last, follows_fail, follows_then, deep_links, silent, refs_links, applies_links, vars_links, left_links, right_links, sum_none, sum_err, sum_more, sum_all, tvar_links_err, tvar_links_fail, tvar_links_then}
use Rattle.join.proofs.Operands.{tvar_err, tvar_inner, tvar_close, close_in}
use Rattle.join.proofs.Operands.{choice, impl_deep, arm_below, arm_left, arm_right, arm_subtype, arm_arity, arm_incompatible, arm_disagree, refs_err, arm_refs, types_err, arm_applies, arm_vars, left_err, left_var, left_merge, right_err, right_var, right_merge}
use Rattle.join.proofs.Args.{gather_none, gather_in, gather_err, gather_more, gathered}
use Rattle.table.proofs.Did.{did_now}
use Rattle.std.proofs.Common.{rules}
use mathlib.Core.Path.{◌≡◌, refl}
use Rattle.std.specs.Prelude.{if◌then◌else◌}
use native.Mathlib.Omega.{arith}
use Rattle.join.proofs.+join_impl_join_impl_types_join_tvar.Goals.{join_impl-then-at_left, join_impl-else-at_left}
use Rattle.join.proofs.+join_impl_join_impl_types_join_tvar.Goals as goal

pub join_impl-returns-then-left-eq0 : goal.join_impl-returns-then-left-eq0
join_impl-returns-then-left-eq0 t c = (did_now tt (λ ds k. impl_deep _ _ _ _ _ c.if-left-eq0.true), follows_none _ (λ ds. deep_links _ _ _ _ _ c.if-left-eq0.true) c.requires.1 (omega arith))

pub join_impl-returns-in-Lhs : goal.join_impl-returns-in-Lhs
join_impl-returns-in-Lhs t c = (arm_left (choice _ _ _ _ _ _ _ _ c.requires.0 c.if-left-eq0.false c.node_at-l.ensures c.node_at-r.ensures c.arm_of.ensures) c.in-Lhs.is, silent (choice _ _ _ _ _ _ _ _ c.requires.0 c.if-left-eq0.false c.node_at-l.ensures c.node_at-r.ensures c.arm_of.ensures) Lhs c.in-Lhs.is tt c.requires.1)

pub join_impl-returns-in-Rhs : goal.join_impl-returns-in-Rhs
join_impl-returns-in-Rhs t c = (arm_right (choice _ _ _ _ _ _ _ _ c.requires.0 c.if-left-eq0.false c.node_at-l.ensures c.node_at-r.ensures c.arm_of.ensures) c.in-Rhs.is, silent (choice _ _ _ _ _ _ _ _ c.requires.0 c.if-left-eq0.false c.node_at-l.ensures c.node_at-r.ensures c.arm_of.ensures) Rhs c.in-Rhs.is tt c.requires.1)

pub join_impl-join_impl-requires : goal.join_impl-join_impl-requires
join_impl-join_impl-requires t c = (omega arith, (arm_below (choice _ _ c.args.st.now _ _ _ _ _ c.requires.0 c.if-left-eq0.false c.node_at-l.ensures c.node_at-r.ensures c.arm_of.ensures) c.in-Refs.is, c.requires.1))

pub join_impl-returns-in_err-t-in-Refs : goal.join_impl-returns-in_err-t-in-Refs
join_impl-returns-in_err-t-in-Refs t c =
    let loc : c.if-at_left.loc ≡ (if c.in-Refs.at_left then c.node_at-l.result.loc else c.node_at-r.result.loc) =
    elim c.if-at_left.branch [ join_impl-then-at_left w ↦ rw w.if-at_left.true w.loc-is | join_impl-else-at_left w ↦ rw w.if-at_left.false w.loc-is ] in
    (refs_err (choice _ _ _ _ _ _ _ _ c.requires.0 c.if-left-eq0.false c.node_at-l.ensures c.node_at-r.ensures c.arm_of.ensures) c.in-Refs.is loc c.in_err-t-in-Refs.ensures.0 (search rules), follows_fail _ (refs_links (choice _ _ c.args.st.now _ _ _ _ _ c.requires.0 c.if-left-eq0.false c.node_at-l.ensures c.node_at-r.ensures c.arm_of.ensures) c.in-Refs.is) c.in_err-t-in-Refs.ensures.1 (search rules))

pub join_impl-returns-in_ok-t-in-Refs : goal.join_impl-returns-in_ok-t-in-Refs
join_impl-returns-in_ok-t-in-Refs t c =
    let loc : c.if-at_left.loc ≡ (if c.in-Refs.at_left then c.node_at-l.result.loc else c.node_at-r.result.loc) =
    elim c.if-at_left.branch [ join_impl-then-at_left w ↦ rw w.if-at_left.true w.loc-is | join_impl-else-at_left w ↦ rw w.if-at_left.false w.loc-is ] in
    (arm_refs (choice _ _ _ _ _ _ _ _ c.requires.0 c.if-left-eq0.false c.node_at-l.ensures c.node_at-r.ensures c.arm_of.ensures) c.in-Refs.is loc c.in_ok-t-in-Refs.ensures.0 c.push_node.ensures, follows_then _ (refs_links (choice _ _ c.args.st.now _ _ _ _ _ c.requires.0 c.if-left-eq0.false c.node_at-l.ensures c.node_at-r.ensures c.arm_of.ensures) c.in-Refs.is) c.in_ok-t-in-Refs.ensures.1 (vars_more c.push_node.ensures.changed))

pub join_impl-join_impl_types-requires : goal.join_impl-join_impl_types-requires
join_impl-join_impl_types-requires t c = (omega arith, (arm_below (choice _ _ c.args.st.now _ _ _ _ _ c.requires.0 c.if-left-eq0.false c.node_at-l.ensures c.node_at-r.ensures c.arm_of.ensures) c.in-Applies.is, c.requires.1))

pub join_impl-returns-in_err-a-in-Applies : goal.join_impl-returns-in_err-a-in-Applies
join_impl-returns-in_err-a-in-Applies t c = (types_err (choice _ _ _ _ _ _ _ _ c.requires.0 c.if-left-eq0.false c.node_at-l.ensures c.node_at-r.ensures c.arm_of.ensures) c.in-Applies.is c.in_err-a-in-Applies.ensures.0 (search rules), follows_fail _ (applies_links (choice _ _ c.args.st.now _ _ _ _ _ c.requires.0 c.if-left-eq0.false c.node_at-l.ensures c.node_at-r.ensures c.arm_of.ensures) c.in-Applies.is) c.in_err-a-in-Applies.ensures.1 (search rules))

pub join_impl-returns-in_ok-a-in-Applies : goal.join_impl-returns-in_ok-a-in-Applies
join_impl-returns-in_ok-a-in-Applies t c = (arm_applies (choice _ _ _ _ _ _ _ _ c.requires.0 c.if-left-eq0.false c.node_at-l.ensures c.node_at-r.ensures c.arm_of.ensures) c.in-Applies.is c.in_ok-a-in-Applies.ensures.0 c.push_apply.ensures, follows_then _ (applies_links (choice _ _ c.args.st.now _ _ _ _ _ c.requires.0 c.if-left-eq0.false c.node_at-l.ensures c.node_at-r.ensures c.arm_of.ensures) c.in-Applies.is) c.in_ok-a-in-Applies.ensures.1 (vars_more c.push_apply.ensures.changed))

pub join_impl-returns-in-Vars : goal.join_impl-returns-in-Vars
join_impl-returns-in-Vars t c = (arm_vars (choice _ _ _ _ _ _ _ _ c.requires.0 c.if-left-eq0.false c.node_at-l.ensures c.node_at-r.ensures c.arm_of.ensures) c.in-Vars.is c.join_tvar.ensures.0, follows_last _ (vars_links (choice _ _ c.args.st.now _ _ _ _ _ c.requires.0 c.if-left-eq0.false c.node_at-l.ensures c.node_at-r.ensures c.arm_of.ensures) c.in-Vars.is) c.join_tvar.ensures.1)

pub join_impl-returns-in_err-meet_tvar-in-VarLhs : goal.join_impl-returns-in_err-meet_tvar-in-VarLhs
join_impl-returns-in_err-meet_tvar-in-VarLhs t c = (left_err (choice _ _ _ _ _ _ _ _ c.requires.0 c.if-left-eq0.false c.node_at-l.ensures c.node_at-r.ensures c.arm_of.ensures) c.in-VarLhs.is c.in_err-meet_tvar-in-VarLhs.ensures (search rules), follows_none _ (λ ds. left_links (choice _ _ c.args.st.now _ _ _ _ _ c.requires.0 c.if-left-eq0.false c.node_at-l.ensures c.node_at-r.ensures c.arm_of.ensures) c.in-VarLhs.is c.in_err-meet_tvar-in-VarLhs.ensures ds) c.requires.1 (vars_more c.in_err-meet_tvar-in-VarLhs.ensures.changed))

pub join_impl-returns-in-None : goal.join_impl-returns-in-None
join_impl-returns-in-None t c = (left_var (choice _ _ _ _ _ _ _ _ c.requires.0 c.if-left-eq0.false c.node_at-l.ensures c.node_at-r.ensures c.arm_of.ensures) c.in-VarLhs.is c.in_ok-meet_tvar-in-VarLhs.ensures c.in-None.is, follows_none _ (λ ds. left_links (choice _ _ c.args.st.now _ _ _ _ _ c.requires.0 c.if-left-eq0.false c.node_at-l.ensures c.node_at-r.ensures c.arm_of.ensures) c.in-VarLhs.is (rw c.in-None.is at c.in_ok-meet_tvar-in-VarLhs.ensures) ds) c.requires.1 (vars_more c.in_ok-meet_tvar-in-VarLhs.ensures.changed))

pub join_impl-join_tvar-requires-in-Some : goal.join_impl-join_tvar-requires-in-Some
join_impl-join_tvar-requires-in-Some t c = (omega arith, omega (arith, c.requires.1, vars_more c.in_ok-meet_tvar-in-VarLhs.ensures.changed))

pub join_impl-returns-in-Some : goal.join_impl-returns-in-Some
join_impl-returns-in-Some t c = (left_merge (choice _ _ _ _ _ _ _ _ c.requires.0 c.if-left-eq0.false c.node_at-l.ensures c.node_at-r.ensures c.arm_of.ensures) c.in-VarLhs.is c.in_ok-meet_tvar-in-VarLhs.ensures c.in-Some.is c.join_tvar-in-Some.ensures.0, follows_last _ (λ ds. left_links (choice _ _ c.args.st.now _ _ _ _ _ c.requires.0 c.if-left-eq0.false c.node_at-l.ensures c.node_at-r.ensures c.arm_of.ensures) c.in-VarLhs.is (rw c.in-Some.is at c.in_ok-meet_tvar-in-VarLhs.ensures) ds) c.join_tvar-in-Some.ensures.1)

pub join_impl-returns-in_err-meet_tvar-in-VarRhs : goal.join_impl-returns-in_err-meet_tvar-in-VarRhs
join_impl-returns-in_err-meet_tvar-in-VarRhs t c = (right_err (choice _ _ _ _ _ _ _ _ c.requires.0 c.if-left-eq0.false c.node_at-l.ensures c.node_at-r.ensures c.arm_of.ensures) c.in-VarRhs.is c.in_err-meet_tvar-in-VarRhs.ensures (search rules), follows_none _ (λ ds. right_links (choice _ _ c.args.st.now _ _ _ _ _ c.requires.0 c.if-left-eq0.false c.node_at-l.ensures c.node_at-r.ensures c.arm_of.ensures) c.in-VarRhs.is c.in_err-meet_tvar-in-VarRhs.ensures ds) c.requires.1 (vars_more c.in_err-meet_tvar-in-VarRhs.ensures.changed))

pub join_impl-returns-in-None-2 : goal.join_impl-returns-in-None-2
join_impl-returns-in-None-2 t c = (right_var (choice _ _ _ _ _ _ _ _ c.requires.0 c.if-left-eq0.false c.node_at-l.ensures c.node_at-r.ensures c.arm_of.ensures) c.in-VarRhs.is c.in_ok-meet_tvar-in-VarRhs.ensures c.in-None-2.is, follows_none _ (λ ds. right_links (choice _ _ c.args.st.now _ _ _ _ _ c.requires.0 c.if-left-eq0.false c.node_at-l.ensures c.node_at-r.ensures c.arm_of.ensures) c.in-VarRhs.is (rw c.in-None-2.is at c.in_ok-meet_tvar-in-VarRhs.ensures) ds) c.requires.1 (vars_more c.in_ok-meet_tvar-in-VarRhs.ensures.changed))

pub join_impl-join_tvar-requires-in-Some-2 : goal.join_impl-join_tvar-requires-in-Some-2
join_impl-join_tvar-requires-in-Some-2 t c = (omega arith, omega (arith, c.requires.1, vars_more c.in_ok-meet_tvar-in-VarRhs.ensures.changed))

pub join_impl-returns-in-Some-2 : goal.join_impl-returns-in-Some-2
join_impl-returns-in-Some-2 t c = (right_merge (choice _ _ _ _ _ _ _ _ c.requires.0 c.if-left-eq0.false c.node_at-l.ensures c.node_at-r.ensures c.arm_of.ensures) c.in-VarRhs.is c.in_ok-meet_tvar-in-VarRhs.ensures c.in-Some-2.is c.join_tvar-in-Some-2.ensures.0, follows_last _ (λ ds. right_links (choice _ _ c.args.st.now _ _ _ _ _ c.requires.0 c.if-left-eq0.false c.node_at-l.ensures c.node_at-r.ensures c.arm_of.ensures) c.in-VarRhs.is (rw c.in-Some-2.is at c.in_ok-meet_tvar-in-VarRhs.ensures) ds) c.join_tvar-in-Some-2.ensures.1)

pub join_impl-returns-in-SubtypeError : goal.join_impl-returns-in-SubtypeError
join_impl-returns-in-SubtypeError t c = (arm_subtype (choice _ _ _ _ _ _ _ _ c.requires.0 c.if-left-eq0.false c.node_at-l.ensures c.node_at-r.ensures c.arm_of.ensures) c.in-SubtypeError.is, silent (choice _ _ _ _ _ _ _ _ c.requires.0 c.if-left-eq0.false c.node_at-l.ensures c.node_at-r.ensures c.arm_of.ensures) SubtypeError c.in-SubtypeError.is tt c.requires.1)

pub join_impl-returns-in-ArityMismatch : goal.join_impl-returns-in-ArityMismatch
join_impl-returns-in-ArityMismatch t c = (arm_arity (choice _ _ _ _ _ _ _ _ c.requires.0 c.if-left-eq0.false c.node_at-l.ensures c.node_at-r.ensures c.arm_of.ensures) c.in-ArityMismatch.is, silent (choice _ _ _ _ _ _ _ _ c.requires.0 c.if-left-eq0.false c.node_at-l.ensures c.node_at-r.ensures c.arm_of.ensures) ArityMismatch c.in-ArityMismatch.is tt c.requires.1)

pub join_impl-returns-in-Incompatible : goal.join_impl-returns-in-Incompatible
join_impl-returns-in-Incompatible t c = (arm_incompatible (choice _ _ _ _ _ _ _ _ c.requires.0 c.if-left-eq0.false c.node_at-l.ensures c.node_at-r.ensures c.arm_of.ensures) c.in-Incompatible.is, silent (choice _ _ _ _ _ _ _ _ c.requires.0 c.if-left-eq0.false c.node_at-l.ensures c.node_at-r.ensures c.arm_of.ensures) Incompatible c.in-Incompatible.is tt c.requires.1)

pub join_impl-returns-in-Disagree : goal.join_impl-returns-in-Disagree
join_impl-returns-in-Disagree t c = (arm_disagree (choice _ _ _ _ _ _ _ _ c.requires.0 c.if-left-eq0.false c.node_at-l.ensures c.node_at-r.ensures c.arm_of.ensures) c.in-Disagree.is, silent (choice _ _ _ _ _ _ _ _ c.requires.0 c.if-left-eq0.false c.node_at-l.ensures c.node_at-r.ensures c.arm_of.ensures) Disagree c.in-Disagree.is tt c.requires.1)

pub join_impl_types-loop-i-init : goal.join_impl_types-loop-i-init
join_impl_types-loop-i-init t c = (gather_none c.requires.0.0 c.requires.0.1 c.min-many.ensures refl, sum_none c.requires.1)

pub join_impl_types-join_impl-requires : goal.join_impl_types-join_impl-requires
join_impl_types-join_impl-requires t c = (omega arith, (gather_in c.loop-i.invariant.0 c.loop-i-test.true c.arg_at-ty1.ensures c.arg_at-ty2.ensures, c.loop-i.invariant.1.few))

pub join_impl_types-returns-in_err-tys : goal.join_impl_types-returns-in_err-tys
join_impl_types-returns-in_err-tys t c = (gather_err c.loop-i.invariant.0 c.loop-i-test.true c.arg_at-ty1.ensures c.arg_at-ty2.ensures c.in_err-tys.ensures.0 (search rules), sum_err c.loop-i.invariant.0 c.loop-i.invariant.1 c.loop-i-test.true c.arg_at-ty1.ensures c.arg_at-ty2.ensures c.in_err-tys.ensures.0 c.in_err-tys.ensures.1 (search rules))

pub join_impl_types-loop-i-preserved : goal.join_impl_types-loop-i-preserved
join_impl_types-loop-i-preserved t c = (gather_more c.loop-i.invariant.0 c.loop-i-test.true c.arg_at-ty1.ensures c.arg_at-ty2.ensures c.in_ok-tys.ensures.0 refl, sum_more c.loop-i.invariant.0 c.loop-i.invariant.1 c.loop-i-test.true c.arg_at-ty1.ensures c.arg_at-ty2.ensures c.in_ok-tys.ensures.0 c.in_ok-tys.ensures.1)

pub join_impl_types-returns : goal.join_impl_types-returns
join_impl_types-returns t c = (gathered c.loop-i.invariant.0 c.loop-i-test.false, sum_all c.loop-i.invariant.0 c.loop-i.invariant.1 c.loop-i-test.false)

pub join_tvar-returns-in_err-m : goal.join_tvar-returns-in_err-m
join_tvar-returns-in_err-m t c = (tvar_err _ _ _ _ _ _ c.in_err-m.ensures.0 (search rules), tvar_links_err _ _ _ _ _ _ c.in_err-m.ensures.0 c.in_err-m.ensures.1 (search rules))

pub join_tvar-join_impl-requires : goal.join_tvar-join_impl-requires
join_tvar-join_impl-requires t c = (omega arith, ((c.in_ok-m.ensures.0.inside.0, c.in_ok-m.ensures.0.inside.1.0), c.in_ok-m.ensures.1.few))

pub join_tvar-returns-in_err-ty : goal.join_tvar-returns-in_err-ty
join_tvar-returns-in_err-ty t c = (tvar_inner _ _ _ _ _ _ c.in_ok-m.ensures.0 c.in_err-ty.ensures.0 (search rules), tvar_links_fail _ _ _ _ _ _ c.in_ok-m.ensures.0 c.in_ok-m.ensures.1 c.in_err-ty.ensures.1 (search rules))

pub join_tvar-close_tvar-requires : goal.join_tvar-close_tvar-requires
join_tvar-close_tvar-requires t c = close_in _ _ _ _ _ _ c.in_ok-m.ensures.0 c.in_ok-ty.ensures.0

pub join_tvar-returns : goal.join_tvar-returns
join_tvar-returns t c = (tvar_close _ _ _ _ _ _ c.in_ok-m.ensures.0 c.in_ok-ty.ensures.0 c.close_tvar.ensures, tvar_links_then _ _ _ _ _ _ c.in_ok-m.ensures.0 c.in_ok-m.ensures.1 c.in_ok-ty.ensures.1 (vars_more c.close_tvar.ensures.changed))
