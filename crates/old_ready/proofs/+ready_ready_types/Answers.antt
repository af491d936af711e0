use native.Mathlib.Omega.{arith}
use mathlib.Core.Path.{refl}
use Rattle.std.proofs.Common.{rules}
use Rattle.old_ready.proofs.Run.{readied_start, readied_in, readied_has, readied_part, readied_stop, readied_more, readied_parts, readied_end}
use Rattle.old_ready.proofs.+ready_ready_types.Goals as goal

pub ready_types-loop-i-init : goal.ready_types-loop-i-init
ready_types-loop-i-init t c = let pre = c.requires in
    readied_start _ _ _ pre.0 pre.1 _ refl

pub ready_types-part_of-p-requires : goal.ready_types-part_of-p-requires
ready_types-part_of-p-requires t c = let pre = c.requires in
    readied_in _ _ _ pre.0 pre.1 c.loop-i.invariant

pub ready_types-ready-requires : goal.ready_types-ready-requires
ready_types-ready-requires t c = let pre = c.requires in
    (omega (arith, c.decreases), readied_part _ _ _ pre.0 pre.1 c.loop-i.invariant c.loop-i-test.true c.part_of-p.ensures)

pub ready_types-returns-in_err-tys : goal.ready_types-returns-in_err-tys
ready_types-returns-in_err-tys t c = let pre = c.requires in
    readied_stop _ _ _ pre.0 pre.1 c.loop-i.invariant c.loop-i-test.true c.part_of-p.ensures c.ready.new.past c.in_err-tys.ensures (search rules)

pub ready_types-loop-i-preserved : goal.ready_types-loop-i-preserved
ready_types-loop-i-preserved t c = let pre = c.requires in
    readied_more _ _ _ pre.0 pre.1 c.loop-i.invariant c.loop-i-test.true c.part_of-p.ensures c.ready.new.past c.in_ok-tys.ensures refl

pub ready_types-rebuild-requires : goal.ready_types-rebuild-requires
ready_types-rebuild-requires t c = let pre = c.requires in
    let g = c.loop-i.invariant in
    (readied_in _ _ _ pre.0 pre.1 g, (readied_has _ _ _ pre.0 pre.1 g, readied_parts _ _ _ pre.0 pre.1 g c.loop-i-test.false))

pub ready_types-returns : goal.ready_types-returns
ready_types-returns t c = let pre = c.requires in
    readied_end _ _ _ pre.0 pre.1 c.loop-i.invariant c.loop-i-test.false c.rebuild.new.past c.rebuild.ensures
