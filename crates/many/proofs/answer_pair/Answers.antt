-- `many::answer_pair` meets its contract. Assumes nothing.
use mathlib.Core.Path.{refl}
use Rattle.answer.proofs.Growing.{all_many, all_now}
use Rattle.many.proofs.Answered.{pair_before, range_saved}
use Rattle.many.proofs.answer_pair.Goals as goal

pub answer_from-requires : goal.answer_from-requires
answer_from-requires c =
    let v = c.save_vars.ensures in
    ((refl, (refl, (all_many v, all_now v))), ((rw v.used c.requires.pair_in.0, range_saved v c.requires.pair_in.1), c.requires.room))

pub returns : goal.returns
returns c = pair_before c.save_vars.ensures c.answer_from.ensures
