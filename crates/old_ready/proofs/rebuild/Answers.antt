-- `old_ready::rebuild` meets its contract. Assumes nothing.
use borrow.Enum.Refused.{opened}
use Rattle.history.specs.Past.{as_rows}
use Rattle.old_ready.proofs.Within.{within_now}
use Rattle.old_ready.proofs.Run.{ref_in, rebuilt_plain, anew_stays, anew_ref, anew_apply}
use Rattle.old_ready.proofs.rebuild.Goals as goal

pub push_node-requires : goal.push_node-requires
push_node-requires c = let pre = c.requires in
    let node_at = c.node_at-n in
    ref_in (as_rows c.args.past.now) _ pre.0 node_at.result node_at.ensures _ pre.1.0 _ _ c.in-Ref.is _ pre.1.1

pub returns-in-Ref : goal.returns-in-Ref
returns-in-Ref c = let pre = c.requires in
    let node_at = c.node_at-n in
    (anew_ref _ _ pre.0 node_at.result node_at.ensures _ pre.1.0 _ _ c.in-Ref.is _ c.push_node.ensures.0, c.push_node.ensures.1)

pub returns-in-Apply : goal.returns-in-Apply
returns-in-Apply c = let pre = c.requires in
    let node_at = c.node_at-n in
    (anew_apply _ _ pre.0 node_at.result node_at.ensures _ pre.1.0 _ c.in-Apply.is _ c.push_apply.ensures.0, c.push_apply.ensures.1)

pub returns-in_default : goal.returns-in_default
returns-in_default c = let pre = c.requires in
    let node_at = c.node_at-n in
    (anew_stays _ _ pre.0 node_at.result node_at.ensures _ (rebuilt_plain node_at.result.shape (opened c.in_default.in_default-own.keys3) _ _), within_now c.args.past.now)
