-- `answer::answer_of` meets its contract. Assumes nothing.
use mathlib.Core.Path.{◌≡◌, ap, ◌∙◌}
use Rattle.std.proofs.Common.{Err}
use Rattle.table.specs.declared.state.Stop.TheVariants.{Failed, Refused}
use Rattle.answer.specs.Ran.{answered}
use Rattle.answer.proofs.Cases.{is_done, is_failed, is_refused}
use Rattle.answer.proofs.Settling.{answers_is}
use Rattle.answer.proofs.answer_of.Goals as goal

pub succeed-requires : goal.succeed-requires
succeed-requires c = let p = c.requires in
    let e = c.in-Ok.is in record { lay = p.lay; shows = (rw e at p.tells.0, ((rw e at p.tells.1.0) tt, p.tells.1.1)); still = p.still _ e }

pub fail-requires : goal.fail-requires
fail-requires c = let p = c.requires in
    let arm = c.in-Err-Failed in
    let e : c.args.ran.result ≡ Err (Failed arm.e) = arm.is ∙ ap Err (rw arm.is at arm.field-0-is) in
    record { lay = p.lay; types_in = (rw e at p.tells.0, ((rw e at p.tells.1.0) tt, p.tells.1.1)) }

pub returns-in-Ok : goal.returns-in-Ok
returns-in-Ok c = let r = c.args.ran in
    answers_is _ _ _ _ _ _ _ _ _ (answered r) (λ ds s. is_done r _ s _ c.in-Ok.is) c.succeed.ensures

pub returns-in-Err-Failed : goal.returns-in-Err-Failed
returns-in-Err-Failed c = let r = c.args.ran in
    let arm = c.in-Err-Failed in
    let e : r.result ≡ Err (Failed arm.e) = arm.is ∙ ap Err (rw arm.is at arm.field-0-is) in
    answers_is _ _ _ _ _ _ _ _ _ (answered r) (λ ds s. is_failed r _ s _ e) c.fail.ensures

pub returns-in-Err-Refused : goal.returns-in-Err-Refused
returns-in-Err-Refused c = let r = c.args.ran in
    let arm = c.in-Err-Refused in
    let e : r.result ≡ Err (Refused arm.x) = arm.is ∙ ap Err (rw arm.is at arm.field-0-is) in
    answers_is _ _ _ _ _ _ _ _ _ (answered r) (λ ds s. is_refused r _ s _ e)
    (c.refuse.ensures _)
