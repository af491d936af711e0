-- `old_merge::shown` meets its contract. Assumes nothing.
use Rattle.table.proofs.Did.{did_now, did_is}
use Rattle.merge.proofs.Laws.{shown_var, shown_same}
use Rattle.old_merge.proofs.Room.{within_now}
use Rattle.old_merge.proofs.shown.Goals as goal

pub returns-then-is_anything : goal.returns-then-is_anything
returns-then-is_anything c =
    (did_is (λ ds k. shown_var _ _ _ c.node_at-n.result _ (c.node_at-n.ensures ds) c.is_anything.ensures c.if-is_anything.true) c.push_node.ensures.0, c.push_node.ensures.1)

pub returns-else-is_anything : goal.returns-else-is_anything
returns-else-is_anything c =
    (did_now c.requires (λ ds k. shown_same _ _ _ c.node_at-n.result _ (c.node_at-n.ensures ds) c.is_anything.ensures c.if-is_anything.false), within_now c.args.past.now)
