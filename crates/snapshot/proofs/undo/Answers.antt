-- `snapshot::undo` meets its contract. Assumes nothing.
use mathlib.Core.Path.{◌∙◌}
use Rattle.snapshot.proofs.Tails.{put_stood, sized_on}
use Rattle.snapshot.proofs.undo.Goals as goal

pub give_back-requires : goal.give_back-requires
give_back-requires c = (sized_on _ c.put_vars.auto.w c.requires.0, c.requires.1)

pub returns : goal.returns
returns c =
    let put = c.put_vars.ensures in
    let given = c.give_back.ensures in
    (λ w₀ s. given.0 w₀ (put_stood _ _ _ _ _ _ s (put.0 w₀ s)), λ v p q f. given.1 v p q tt ∙ put.1 v p q f)
