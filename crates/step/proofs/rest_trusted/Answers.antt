-- `step::rest_trusted` meets its contract. Assumes nothing.
use mathlib.Core.Path.{refl}
use Rattle.answer.proofs.Growing.{all_many, all_now}
use Rattle.step.proofs.Saved.{stands_now, splits_before}
use Rattle.step.proofs.rest_trusted.Goals as goal

pub rest_from-requires : goal.rest_from-requires
rest_from-requires c =
    let a = c.save_vars.ensures in
    let p = c.requires.stands in
    ((refl, (refl, (all_many a, all_now a))), ((stands_now a p.0, rw (a.words, a.used) p.1.0), c.requires.list))

pub returns : goal.returns
returns c = splits_before c.save_vars.ensures c.rest_from.ensures
