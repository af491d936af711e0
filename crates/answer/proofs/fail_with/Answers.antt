-- `answer::fail_with` meets its contract. Assumes nothing.
use mathlib.Core.List.{[]}
use Rattle.snapshot.specs.Back.{rows_of}
use Rattle.answer.proofs.Cases.{failure_long, failure_fits}
use Rattle.answer.proofs.fail_with.Goals as goal

pub returns-in_default : goal.returns-in_default
returns-in_default c = let args = c.args in
    let paid = c.in_default.ensures in
    λ e n h. rw (paid.1 []).1
    (failure_long args.w.now args.u args.before.used (rows_of args.before) args.buf.now args.show e args.tail _ n h _ _ _
    (λ ds. (paid.1 ds).0) (rw paid.0 at (c.refuse.ensures args.buf.now)))

pub returns : goal.returns
returns c = let args = c.args in
    let paid = c.in-Some.ensures in
    λ e n h. rw c.as_left.ensures
    (failure_fits args.w.now args.u args.before.used (rows_of args.before) args.buf.now args.show e args.tail _ n h _ _ _
    (λ ds. (paid.1 ds).0) (λ ds. (paid.1 ds).1) (rw paid.0 at c.put_vars.ensures))
