use Rattle.writer.proofs.Turns.{written, goes_more, write_none, write_all, part_room, bytes_at, head_room}
use Rattle.table.proofs.Grown.{loc_is}
use Rattle.shapes.proofs.Nodes.{at_node, part_low}
use native.Mathlib.Omega.{arith}
use Rattle.writer.proofs.+write_type.Goals as goal

pub write_head-next-requires : goal.write_head-next-requires
write_head-next-requires t c = let args = c.args in
    let pre = c.requires in
    let node_at = c.node_at-node in
    let a = at_node _ _ _ _ node_at.result args.st.now.lay pre.all_bytes.0 node_at.ensures c.part_count-n.ensures in
    (bytes_at a pre.all_bytes.1, head_room (written a) a args.buf.now _ pre.fits _ (λ ds. loc_is _ _ node_at.result (node_at.ensures ds)))

pub loop-i-init : goal.loop-i-init
loop-i-init t c = (omega arith, λ E h. h)

pub write_type-next-requires : goal.write_type-next-requires
write_type-next-requires t c = let args = c.args in
    let pre = c.requires in
    let node_at = c.node_at-node in
    let part_count = c.part_count-n in
    let write_head = c.write_head-next in
    let loop_test = c.loop-i-test in
    let E = args.buf.now in
    let a = at_node _ _ _ _ node_at.result args.st.now.lay pre.all_bytes.0 node_at.ensures
    part_count.ensures in
    let base = write_none (written a) a E _ pre.fits _ (λ ds. loc_is _ _ node_at.result (node_at.ensures ds)) _ _ write_head.ensures in
    let f = part_low a _ _ loop_test.true c.part_at-p.ensures in (
      omega (arith, f, c.decreases),
      (
        (omega (arith, f, pre.all_bytes.0), pre.all_bytes.1),
        part_room (written a) a E _ pre.fits _ _ _ _
            (c.loop-i.invariant.1 E base) loop_test.true c.part_at-p.ensures,
      ),
    )

pub loop-i-preserved : goal.loop-i-preserved
loop-i-preserved t c = let args = c.args in
    let pre = c.requires in
    let node_at = c.node_at-node in
    let part_count = c.part_count-n in
    let write_head = c.write_head-next in
    let loop = c.loop-i in
    let loop_test = c.loop-i-test in
    let E = args.buf.now in
    let a = at_node _ _ _ _ node_at.result args.st.now.lay pre.all_bytes.0 node_at.ensures
    part_count.ensures in
    let base = write_none (written a) a E _ pre.fits _ (λ ds. loc_is _ _ node_at.result (node_at.ensures ds)) _ _ write_head.ensures in
    goes_more (written a) a E _ pre.fits _ _ _ _ _ _ _ _ base loop.invariant loop_test.true
    c.part_at-p.ensures c.write_type-next.ensures

pub returns : goal.returns
returns t c = let args = c.args in
    let pre = c.requires in
    let node_at = c.node_at-node in
    let part_count = c.part_count-n in
    let E = args.buf.now in
    let a = at_node _ _ _ _ node_at.result args.st.now.lay pre.all_bytes.0 node_at.ensures
    part_count.ensures in
    let base = write_none (written a) a E _ pre.fits _ (λ ds. loc_is _ _ node_at.result (node_at.ensures ds)) _ _
    c.write_head-next.ensures in
    write_all (written a) a E _ _ _ _ (c.loop-i.invariant.1 E base) c.loop-i-test.false
