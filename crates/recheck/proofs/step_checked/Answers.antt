-- `recheck::step_checked` meets its contract. Assumes nothing.
use mathlib.Core.Path.{refl}
use native.Mathlib.Omega.{arith}
use Rattle.answer.proofs.Growing.{all_many, all_now}
use Rattle.step.proofs.Saved.{stands_now, steps_before}
use Rattle.recheck.proofs.step_checked.Goals as goal

pub save_vars-requires : goal.save_vars-requires
save_vars-requires c = (c.requires.fresh.1.0, λ v p. absurd (omega (arith, p, c.requires.fresh.0)))

pub step_from-requires : goal.step_from-requires
step_from-requires c =
    let a = c.save_vars.ensures in
    let p = c.requires.stands in
    ((refl, (refl, (all_many a, all_now a))), ((stands_now a p.0, p.1), (c.requires.mark, c.requires.fresh.1.1)))

pub returns : goal.returns
returns c = record { next = c.step_from.ensures.next; steps = steps_before c.save_vars.ensures c.step_from.ensures.steps }
