use Rattle.std.proofs.Common.{rules, ◌≡◌, ◌≤◌, Err, is_none, unwrap_or, refl, arith}
use Rattle.cursor.proofs.Within.{within_all, within_then}
use Rattle.reader.specs.Taken.{place_read}
use Rattle.reader.proofs.Loop.{go_none, go_more, go_stop, go_over, go_all, takes_is, takes_none}
use Rattle.reader.proofs.+read_parts_read_type.Goals as goal

pub read_parts-loop-i-init : goal.read_parts-loop-i-init
read_parts-loop-i-init t c = (go_none _ _ _ _ _ refl, within_all)

pub read_parts-returns-in_err-part-clause-is : goal.read_parts-returns-in_err-part-clause-is
read_parts-returns-in_err-part-clause-is t c = let e : c.from_residual.result ≡ Err c.in_err-part.field-0.0 = search rules in
    rw e (go_stop c.loop-i.invariant.0 c.in_err-part.ensures.is c.loop-i-test.true c.args.head c.part_count-n.ensures)

pub read_parts-loop-i-preserved : goal.read_parts-loop-i-preserved
read_parts-loop-i-preserved t c = let few : c.part_count-n.result ≤ 8 = rw c.part_count-n.ensures c.requires.few in
    let a : c.is_none-over.result ≡ is_none c.in_ok-part.part = search rules in
    let b : c.unwrap_or.result ≡ unwrap_or c.in_ok-part.part 0 = search rules in
    (rw (a, b) (go_more c.loop-i.invariant.0 c.in_ok-part.ensures.is few c.loop-i-test.true), within_then c.loop-i.invariant.1 c.in_ok-part.ensures.within)

pub read_parts-returns-then-over-clause-is : goal.read_parts-returns-then-over-clause-is
read_parts-returns-then-over-clause-is t c = go_over c.loop-i.invariant.0 (omega arith) c.args.head c.part_count-n.ensures c.if-over.true

pub read_parts-returns-clause-is : goal.read_parts-returns-clause-is
read_parts-returns-clause-is t c = go_all c.loop-i.invariant.0 (omega arith) c.args.head c.part_count-n.ensures c.if-over.false c.place_node.ensures c.ok.ensures.value

pub read_type-returns-in_err-head-clause-is : goal.read_type-returns-in_err-head-clause-is
unfolding place_read
read_type-returns-in_err-head-clause-is t c = let e : c.from_residual.result ≡ Err c.in_err-head.field-0.0 = search rules in
    rw e (takes_none _ (λ ds s d k. rw (← c.in_err-head.ensures.reads s ds d k) refl))

pub read_type-returns-clause-is : goal.read_type-returns-clause-is
read_type-returns-clause-is t c = takes_is (λ ds s d k. c.in_ok-head.ensures.reads s ds d k) c.read_parts.ensures.is
