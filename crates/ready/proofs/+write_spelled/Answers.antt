use mathlib.Core.Path.{◌≡◌}
use Prim.Native.Nat.{◌+◌}
use native.Mathlib.Omega.{arith}
use Rattle.table.proofs.Grown.{loc_is}
use Rattle.shapes.proofs.Nodes.{at_node, part_low}
use Rattle.writer.proofs.Turns.{bytes_at}
use Rattle.ready.proofs.Told.{leads_in, end_numbered, shape_numbered, goes_none, open_fits, goes_open, head_fits, going_none, knows_then, part_fits, going_more, going_all}
use Rattle.ready.proofs.+write_spelled.Goals as goal

pub returns-in_default : goal.returns-in_default
returns-in_default g t c = goes_none _ g.H.Heads.met c.args.chains.now.st.now c.args.t c.args.left _ _ _ c.requires.known c.requires.fits (omega (arith, c.in_default.ensures))

pub write_head-requires-clause-fits : goal.write_head-requires-clause-fits
write_head-requires-clause-fits g t c = (
  (tt, end_numbered _ c.requires.in_use.1.1 _ c.requires.in_use.0 _ _ _ c.in-Open.is c.lead.ensures),
  open_fits g.H.Heads.spelling g.H.Heads.met _ c.args.t c.args.left _ _ _ c.requires.known c.requires.fits c.in-Some.below (omega (arith, c.in-Some.ensures)) _ c.lead.ensures _ _ c.in-Open.is,
)

pub returns-in-Open : goal.returns-in-Open
returns-in-Open g t c = goes_open _ g.H.Heads.met _ c.args.t c.args.left _ _ _ c.requires.known c.requires.fits c.in-Some.below (omega (arith, c.in-Some.ensures)) _ c.lead.ensures _ _ c.in-Open.is c.write_head.ensures

pub write_head-next-requires-clause-fits : goal.write_head-next-requires-clause-fits
write_head-next-requires-clause-fits g t c =
    let args = c.args in
    let node_at = c.node_at-n in
    let a = at_node _ _ _ _ node_at.result args.chains.now.st.now.lay (leads_in c.lead.ensures c.in-Node.is) node_at.ensures c.part_count-many.ensures in (
      (bytes_at a c.requires.in_use.1.0, shape_numbered a c.requires.in_use.1.1),
      head_fits g.H.Heads.spelling g.H.Heads.met _ args.t args.left _ _ _ c.requires.known c.requires.fits c.in-Some.below (omega (arith, c.in-Some.ensures)) _ c.lead.ensures _ c.in-Node.is a _,
    )

pub loop-i-init : goal.loop-i-init
loop-i-init g t c =
    let args = c.args in
    let node_at = c.node_at-n in
    let a = at_node _ _ _ _ node_at.result args.chains.now.st.now.lay (leads_in c.lead.ensures c.in-Node.is) node_at.ensures c.part_count-many.ensures in
    going_none _ g.H.Heads.met _ args.t args.left _ _ _ c.requires.known c.requires.fits c.in-Some.below (omega (arith, c.in-Some.ensures)) _ c.lead.ensures _ c.in-Node.is a
    _ (λ ds. loc_is _ _ node_at.result (node_at.ensures ds)) c.write_head-next.ensures c.write_head-next.auto.buf

pub write_spelled-next-requires : goal.write_spelled-next-requires
write_spelled-next-requires g t c κs within =
    let args = c.args in
    let node_at = c.node_at-n in
    let i = leads_in c.lead.ensures c.in-Node.is in
    let a = at_node _ _ _ _ node_at.result args.chains.now.st.now.lay i node_at.ensures c.part_count-many.ensures in
    let f = part_low a _ _ c.loop-i-test.true c.part_at-p.ensures in
    let e : args.left ≡ c.in-Some.below + 1 = omega (arith, c.in-Some.ensures) in (
      omega (arith, c.in-Some.ensures, c.decreases),
      (
        within,
        (
          knows_then g.H.Heads.spelling g.H.Heads.met _ args.t args.left _ _ _ c.requires.known c.requires.fits c.in-Some.below e _ c.lead.ensures _ c.in-Node.is a c.loop-i.invariant,
          (
            (omega (arith, f, i), c.requires.in_use.1),
            part_fits g.H.Heads.spelling g.H.Heads.met _ args.t args.left _ _ _ c.requires.known c.requires.fits c.in-Some.below e _ c.lead.ensures _ c.in-Node.is a c.loop-i.invariant _ c.loop-i-test.true c.part_at-p.ensures,
          ),
        ),
      ),
    )

pub loop-i-preserved : goal.loop-i-preserved
loop-i-preserved g t c =
    let args = c.args in
    let node_at = c.node_at-n in
    let a = at_node _ _ _ _ node_at.result args.chains.now.st.now.lay (leads_in c.lead.ensures c.in-Node.is) node_at.ensures c.part_count-many.ensures in
    going_more _ g.H.Heads.met _ args.t args.left _ _ _ c.requires.known c.requires.fits c.in-Some.below (omega (arith, c.in-Some.ensures)) _ c.lead.ensures _ c.in-Node.is a c.loop-i.invariant
    _ c.loop-i-test.true c.part_at-p.ensures c.write_spelled-next.ensures c.write_spelled-next.auto.buf

pub returns : goal.returns
returns g t c =
    let args = c.args in
    let node_at = c.node_at-n in
    let a = at_node _ _ _ _ node_at.result args.chains.now.st.now.lay (leads_in c.lead.ensures c.in-Node.is) node_at.ensures c.part_count-many.ensures in
    going_all _ g.H.Heads.met _ args.t args.left _ _ _ c.requires.known c.requires.fits c.in-Some.below (omega (arith, c.in-Some.ensures)) _ c.lead.ensures _ c.in-Node.is a c.loop-i.invariant c.loop-i-test.false
