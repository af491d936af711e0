use Rattle.std.proofs.Common.{rules, ◌≡◌, ◌≤◌, Err, length, refl, arith}
use Rattle.definition.specs.Write.{Bytes}
use Rattle.cursor.specs.Words.{Within}
use Rattle.cursor.proofs.Within.{within_all, within_then, within_shorter}
use Rattle.needs.proofs.Takings.{few_own, few_beside, head_most}
use Rattle.needs.proofs.Walk.{go_none, go_few, part_few, go_more, go_stop, go_all, counts_is}
use Rattle.needs.proofs.+count_parts_count_type.Goals as goal

short : {l l' : Bytes} → Within l l' → length l ≤ 4096 → length l' ≤ 4096
short w p = let q = within_shorter w in omega arith

pub count_parts-both-all-requires : goal.count_parts-both-all-requires
count_parts-both-all-requires g t c = (rw c.own.ensures (few_own c.args.head.shape), rw c.beside.ensures (few_beside c.args.arg c.args.head.shape))

pub count_parts-loop-i-init : goal.count_parts-loop-i-init
count_parts-loop-i-init g t c = (go_none _ _ _ _ _ _ (rw (c.both-all.ensures, c.own.ensures, c.beside.ensures) (head_most c.args.arg c.args.head.shape)), within_all)

pub count_parts-returns-in_err-part-clause-is : goal.count_parts-returns-in_err-part-clause-is
count_parts-returns-in_err-part-clause-is g t c = let e : c.from_residual.result ≡ Err c.in_err-part.field-0.0 = search rules in
    rw e (go_stop c.loop-i.invariant.0 c.in_err-part.ensures.is c.loop-i-test.true c.args.head c.part_count-n.ensures)

pub count_parts-both-all-requires-in-loop-i : goal.count_parts-both-all-requires-in-loop-i
count_parts-both-all-requires-in-loop-i g t c = (go_few c.loop-i.invariant.0 c.requires.short, part_few c.loop-i.invariant.0 c.in_ok-part.ensures.is (short c.loop-i.invariant.1 c.requires.short))

pub count_parts-loop-i-preserved : goal.count_parts-loop-i-preserved
count_parts-loop-i-preserved g t c = (rw c.both-all-in-loop-i.ensures (go_more c.loop-i.invariant.0 c.in_ok-part.ensures.is c.loop-i-test.true), within_then c.loop-i.invariant.1 c.in_ok-part.ensures.within)

pub count_parts-returns-clause-is : goal.count_parts-returns-clause-is
count_parts-returns-clause-is g t c = go_all c.loop-i.invariant.0 (omega arith) c.args.arg c.args.head c.part_count-n.ensures c.is_apply-args.ensures (rw (c.both-all.ensures, c.own.ensures, c.beside.ensures) refl)

pub count_type-returns-clause-is : goal.count_type-returns-clause-is
count_type-returns-clause-is g t c = counts_is (λ ds s d k. c.in_ok-head.ensures.reads s ds d k) c.count_parts.ensures.is

pub count_parts-count_type-requires : goal.count_parts-count_type-requires
count_parts-count_type-requires g t c = let few = short c.loop-i.invariant.1 c.requires.short in search rules
