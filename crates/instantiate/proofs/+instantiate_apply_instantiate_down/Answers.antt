use mathlib.Core.Path.{refl}
use native.Mathlib.Omega.{arith}
use Rattle.std.proofs.Common.{rules}
use Rattle.definition.specs.Instantiate.{instantiate_value}
use Rattle.definition.specs.Store.{args_at, with_args, with_structs}
use Rattle.table.specs.State.{seen, outcome}
use Rattle.table.proofs.Did.{did_err, did_then, nodes_more}
use Rattle.table.proofs.Grown.{nodes_grow, parts_grow}
use Rattle.table.proofs.Parts.{ref_below, named}
use Rattle.table.proofs.Walk.{named_below}
use Rattle.shapes.proofs.Going.{going_start, going_in, going_stop, going_more, going_end, going_parts, down_none, down_by, down_stays}
use Rattle.instantiate.proofs.DownLaws.{levels, whole, ref_is, did_known, constraint_on, apply_err, named_on, apply_then}
use Rattle.instantiate.proofs.TvarLaws.{did_any, constraint_err}
use Rattle.instantiate.proofs.+instantiate_apply_instantiate_down.Goals as goal

pub instantiate_apply-returns-in_err-tparams : goal.instantiate_apply-returns-in_err-tparams
instantiate_apply-returns-in_err-tparams t c = apply_err _ _ _ _ _ _ _ _ c.in_err-tparams.ensures (search rules)

pub instantiate_apply-loop-i-init : goal.instantiate_apply-loop-i-init
instantiate_apply-loop-i-init t c = going_start (named_on _ _ c.in_ok-tparams.ensures.changed c.requires) refl

pub instantiate_apply-instantiate_down-requires : goal.instantiate_apply-instantiate_down-requires
instantiate_apply-instantiate_down-requires t c = (omega (arith, c.decreases), going_in c.loop-i.invariant c.loop-i-test.true c.arg_at-t.ensures)

pub instantiate_apply-returns-in_err-parts : goal.instantiate_apply-returns-in_err-parts
instantiate_apply-returns-in_err-parts t c =
    apply_then _ _ _ _ _ _ _ _ c.in_ok-tparams.ensures c.requires (going_stop c.loop-i.invariant c.loop-i-test.true c.arg_at-t.ensures (did_known c.make_tparams.new.st c.loop-i.invariant.through.walked.changed.structs c.in_err-parts.ensures) (search rules))

pub instantiate_apply-loop-i-preserved : goal.instantiate_apply-loop-i-preserved
instantiate_apply-loop-i-preserved t c = going_more c.loop-i.invariant c.loop-i-test.true c.arg_at-t.ensures (did_known c.make_tparams.new.st c.loop-i.invariant.through.walked.changed.structs c.in_ok-parts.ensures) refl

pub instantiate_apply-join_args-requires : goal.instantiate_apply-join_args-requires
instantiate_apply-join_args-requires t c = (
  parts_grow _ _ _ _ (nodes_grow _ _ _ _ c.loop-i.invariant.through.walked.changed.grown) c.in_ok-tparams.ensures.inside,
  going_parts c.loop-i.invariant c.loop-i-test.false,
)

pub instantiate_apply-returns : goal.instantiate_apply-returns
instantiate_apply-returns t c =
    apply_then _ _ _ _ _ _ _ _ c.in_ok-tparams.ensures c.requires (going_end c.loop-i.invariant c.loop-i-test.false (did_any c.join_args.ensures))

pub instantiate_down-returns-then-left-eq0 : goal.instantiate_down-returns-then-left-eq0
instantiate_down-returns-then-left-eq0 t c = down_none levels _ _ _ c.if-left-eq0.true

pub instantiate_down-returns-in-Unit : goal.instantiate_down-returns-in-Unit
unfolding outcome
instantiate_down-returns-in-Unit t c =
    down_stays levels _ _ _ c.node_at-node.result c.if-left-eq0.false c.node_at-node.ensures _ refl c.requires
    (λ s. whole c.node_at-node.result.shape c.in-Unit.in-Unit-own.keys1 _ s _ _)

pub instantiate_down-returns-in-Var : goal.instantiate_down-returns-in-Var
unfolding outcome instantiate_value with_args
instantiate_down-returns-in-Var t c =
    down_stays levels _ _ _ c.node_at-node.result c.if-left-eq0.false c.node_at-node.ensures _ c.in-Var.is tt (λ s. refl)

pub instantiate_down-returns-in-Anything : goal.instantiate_down-returns-in-Anything
unfolding instantiate_value with_args
instantiate_down-returns-in-Anything t c =
    down_by levels _ _ _ c.node_at-node.result c.if-left-eq0.false c.node_at-node.ensures c.in-Anything.is (λ ds. refl) (did_any c.make_tvar.ensures)

pub instantiate_down-returns-in_err-push_constraint-in-Ref : goal.instantiate_down-returns-in_err-push_constraint-in-Ref
unfolding with_args
instantiate_down-returns-in_err-push_constraint-in-Ref t c =
    down_by levels _ _ _ c.node_at-node.result c.if-left-eq0.false c.node_at-node.ensures c.in-Ref.is (λ ds. ref_is _ _ _ _ _ _)
    (did_any (constraint_err _ _ c.in_err-push_constraint-in-Ref.ensures (search rules)))

pub instantiate_down-instantiate_down-requires : goal.instantiate_down-instantiate_down-requires
instantiate_down-instantiate_down-requires t c = (
  omega (arith, c.decreases, c.if-left-eq0.false),
  omega (arith, ref_below _ _ _ _ c.args.st.now.lay c.requires c.node_at-node.ensures _ _ c.in-Ref.is, c.requires, nodes_more c.in_ok-push_constraint-in-Ref.ensures.changed),
)

pub instantiate_down-returns-in_err-p-in-Ref : goal.instantiate_down-returns-in_err-p-in-Ref
unfolding with_args
instantiate_down-returns-in_err-p-in-Ref t c =
    down_by levels _ _ _ c.node_at-node.result c.if-left-eq0.false c.node_at-node.ensures c.in-Ref.is (λ ds. ref_is _ _ _ _ _ _)
    (constraint_on _ c.in_ok-push_constraint-in-Ref.ensures (did_err _ c.in_err-p-in-Ref.ensures (search rules)))

pub instantiate_down-returns-in_ok-p-in-Ref : goal.instantiate_down-returns-in_ok-p-in-Ref
unfolding with_args
instantiate_down-returns-in_ok-p-in-Ref t c =
    down_by levels _ _ _ c.node_at-node.result c.if-left-eq0.false c.node_at-node.ensures c.in-Ref.is (λ ds. ref_is _ _ _ _ _ _)
    (constraint_on _ c.in_ok-push_constraint-in-Ref.ensures (did_then _ c.in_ok-p-in-Ref.ensures (did_any c.push_node.ensures)))

pub instantiate_down-instantiate_apply-requires : goal.instantiate_down-instantiate_apply-requires
instantiate_down-instantiate_apply-requires t c = (
  omega (arith, c.decreases, c.if-left-eq0.false),
  named_below _ _ _ _ _ _ c.requires (named _ _ _ _ c.args.st.now.lay c.requires c.node_at-node.ensures _ c.in-Apply.is),
)

pub instantiate_down-returns-in-Apply : goal.instantiate_down-returns-in-Apply
unfolding instantiate_value with_args seen with_structs args_at
instantiate_down-returns-in-Apply t c =
    down_by levels _ _ _ c.node_at-node.result c.if-left-eq0.false c.node_at-node.ensures c.in-Apply.is (λ ds. refl) c.instantiate_apply.ensures
