-- `answer::succeed` meets its contract. Assumes nothing.
use mathlib.Core.List.{[]}
use Rattle.answer.proofs.Settling.{given_back}
use Rattle.snapshot.specs.Back.{rows_of}
use Rattle.answer.proofs.Cases.{success_long, success_kept, success_back}
use Rattle.answer.proofs.succeed.Goals as goal

pub returns-in_default : goal.returns-in_default
returns-in_default c = let args = c.args in
    let paid = c.in_default.ensures in
    rw (paid.1 []).1
    (success_long args.w.now args.u args.before.used (rows_of args.before) args.buf.now args.kept args.show args.t args.tail _ _ _
    (λ ds. (paid.1 ds).0) (rw paid.0 at (c.refuse.ensures args.buf.now)))

pub returns-then-kept : goal.returns-then-kept
returns-then-kept c = let args = c.args in
    let paid = c.in-Some.ensures in
    rw (c.as_left.ensures, paid.0)
    (success_kept args.w.now args.u args.before.used (rows_of args.before) args.buf.now args.kept args.show args.t args.tail _ _
    (λ ds. (paid.1 ds).0) (λ ds. (paid.1 ds).1) c.if-kept.true c.requires.lay.0)

pub returns : goal.returns
returns c = let args = c.args in
    let pre = c.requires in
    let paid = c.in-Some.ensures in
    rw c.as_before.ensures
    (success_back args.w.now args.u args.before.used (rows_of args.before) args.buf.now args.kept args.show args.t args.tail _ _
    (λ ds. (paid.1 ds).0) (λ ds. (paid.1 ds).1) _ c.if-kept.false
    (given_back _ _ _ _ _ pre.lay.0 (pre.still c.if-kept.false) (rw paid.0 at c.give_back.ensures)))
