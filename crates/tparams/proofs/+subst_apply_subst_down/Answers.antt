use mathlib.Core.Path.{refl}
use native.Mathlib.Omega.{arith}
use Rattle.std.proofs.Common.{rules}
use Rattle.definition.specs.TParams as D
use Rattle.definition.specs.TParams.{subst_value}
use Rattle.definition.specs.Store.{args_at, with_args, with_structs}
use Rattle.table.specs.State.{seen, outcome}
use Rattle.table.proofs.Grown.{parts_grow}
use Rattle.table.proofs.Parts.{ref_below, named}
use Rattle.table.proofs.Walk.{rest, sp_apply, named_below}
use Rattle.tparams.proofs.PairLaws.{args_in}
use Rattle.tparams.proofs.DownLaws.{levels, whole, answered}
use Rattle.table.proofs.Did.{did_err, did_then}
use Rattle.shapes.proofs.Going.{going_start, going_nodes, going_in, going_stop, going_more, going_end, going_parts, down_none, down_by, down_stays}
use Rattle.tparams.proofs.+subst_apply_subst_down.Goals as goal

pub subst_apply-loop-i-init : goal.subst_apply-loop-i-init
subst_apply-loop-i-init t c = going_start c.requires.0 refl

pub subst_apply-subst_down-requires : goal.subst_apply-subst_down-requires
subst_apply-subst_down-requires t c = let invariant = c.loop-i.invariant in (
  omega (arith, c.decreases),
  (
    going_in invariant c.loop-i-test.true c.arg_at-t.ensures,
    parts_grow _ _ _ _ (going_nodes invariant) c.requires.1,
  ),
)

pub subst_apply-returns-in_err-parts : goal.subst_apply-returns-in_err-parts
unfolding subst_value rest sp_apply
subst_apply-returns-in_err-parts t c = going_stop c.loop-i.invariant c.loop-i-test.true c.arg_at-t.ensures c.in_err-parts.ensures (search rules)

pub subst_apply-loop-i-preserved : goal.subst_apply-loop-i-preserved
subst_apply-loop-i-preserved t c = going_more c.loop-i.invariant c.loop-i-test.true c.arg_at-t.ensures c.in_ok-parts.ensures refl

pub subst_apply-push_apply-requires : goal.subst_apply-push_apply-requires
subst_apply-push_apply-requires t c = going_parts c.loop-i.invariant c.loop-i-test.false

pub subst_apply-returns : goal.subst_apply-returns
unfolding subst_value rest sp_apply
subst_apply-returns t c = going_end c.loop-i.invariant c.loop-i-test.false c.push_apply.ensures

pub subst_down-returns-then-left-eq0 : goal.subst_down-returns-then-left-eq0
subst_down-returns-then-left-eq0 t c = down_none (levels _) _ _ _ c.if-left-eq0.true

pub subst_down-subst_down-requires : goal.subst_down-subst_down-requires
subst_down-subst_down-requires t c = (
  omega (arith, c.decreases, c.if-left-eq0.false),
  (omega (arith, ref_below _ _ _ _ c.args.st.now.lay c.requires.0 c.node_at-node.ensures _ _ c.in-Ref.is, c.requires.0), c.requires.1),
)

pub subst_down-returns-in_err-p-in-Ref : goal.subst_down-returns-in_err-p-in-Ref
unfolding subst_value with_args
subst_down-returns-in_err-p-in-Ref t c =
    down_by (levels _) _ _ _ c.node_at-node.result c.if-left-eq0.false c.node_at-node.ensures c.in-Ref.is (λ ds. refl)
    (did_err _ c.in_err-p-in-Ref.ensures (search rules))

pub subst_down-subst_apply-requires : goal.subst_down-subst_apply-requires
subst_down-subst_apply-requires t c = (
  omega (arith, c.decreases, c.if-left-eq0.false),
  (named_below _ _ _ _ _ _ c.requires.0 (named _ _ _ _ c.args.st.now.lay c.requires.0 c.node_at-node.ensures _ c.in-Apply.is), c.requires.1),
)

pub subst_down-returns-in-Unit : goal.subst_down-returns-in-Unit
unfolding outcome
subst_down-returns-in-Unit t c =
    down_stays (levels _) _ _ _ c.node_at-node.result c.if-left-eq0.false c.node_at-node.ensures _ refl c.requires.0
    (λ s. whole c.node_at-node.result.shape c.in-Unit.in-Unit-own.keys1 _ _ s _ _)

pub subst_down-returns-in-Var : goal.subst_down-returns-in-Var
unfolding outcome subst_value with_args
subst_down-returns-in-Var t c =
    down_stays (levels _) _ _ _ c.node_at-node.result c.if-left-eq0.false c.node_at-node.ensures _ c.in-Var.is tt (λ s. refl)

pub subst_down-returns-in-Param : goal.subst_down-returns-in-Param
unfolding subst_value with_args
subst_down-returns-in-Param t c =
    down_stays (levels _) _ _ _ c.node_at-node.result c.if-left-eq0.false c.node_at-node.ensures _ c.in-Param.is
    (rw c.arg_or_none.ensures (args_in _ _ _ _ _ c.requires.1)) (λ s. rw c.arg_or_none.ensures (answered s (D.arg_of _ _)))

pub subst_down-returns-in_ok-p-in-Ref : goal.subst_down-returns-in_ok-p-in-Ref
unfolding subst_value with_args
subst_down-returns-in_ok-p-in-Ref t c =
    down_by (levels _) _ _ _ c.node_at-node.result c.if-left-eq0.false c.node_at-node.ensures c.in-Ref.is (λ ds. refl)
    (did_then _ c.in_ok-p-in-Ref.ensures c.push_node.ensures)

pub subst_down-returns-in-Apply : goal.subst_down-returns-in-Apply
unfolding subst_value with_args seen with_structs args_at
subst_down-returns-in-Apply t c =
    down_by (levels _) _ _ _ c.node_at-node.result c.if-left-eq0.false c.node_at-node.ensures c.in-Apply.is (λ ds. refl) c.subst_apply.ensures
