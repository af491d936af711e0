-- `abilities::granted_set` meets its contract. Assumes nothing.
use Rattle.abilities.proofs.Laws.{sum_of}
use Rattle.abilities.proofs.granted_set.Goals as goal

pub returns : goal.returns
returns g c = λ ds k. sum_of _ _ _ _ _ (c.granted_bit-copy.ensures.1 ds k) (c.granted_bit-drop.ensures.1 ds k) (c.granted_bit-store.ensures.1 ds k) (c.granted_bit-key.ensures.1 ds k)
