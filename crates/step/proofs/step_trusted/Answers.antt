-- `step::step_trusted` meets its contract. Assumes nothing.
use mathlib.Core.Path.{refl}
use native.Mathlib.Omega.{arith}
use Rattle.answer.proofs.Growing.{all_many, all_now}
use Rattle.step.proofs.Saved.{stands_now, steps_before}
use Rattle.step.proofs.step_trusted.Goals as goal

pub step_from-requires : goal.step_from-requires
step_from-requires c =
    let p = c.requires.stands in
    let a = c.save_vars.ensures in
    ((refl, (refl, (all_many a, all_now a))), ((stands_now a p.0, (p.1.0, (p.1.1.0, p.1.1.1.1))), (omega (arith, c.save_vars.auto.saved, p.1.1.1.0), c.requires.list)))

pub returns : goal.returns
returns c = record { steps = steps_before c.save_vars.ensures c.step_from.ensures.0; noted_next = c.step_from.ensures.1 }
