-- `snapshot::give_back` meets its contract. Assumes nothing.
-- Four tails are zeroed one after the other; their contracts together are the law that the tables stand as at entry (Tails).
use Rattle.snapshot.proofs.Tails.{undoing, vars_stay}
use Rattle.snapshot.proofs.give_back.Goals as goal

pub returns : goal.returns
returns c = (
  λ w₀ s. undoing _ _ _ _ _ _ _ w₀ c.requires.1 s c.zero_rows.ensures c.zero_rows-2.ensures c.zero_rows-3.ensures c.zero_rows-4.ensures,
  λ v p q f. vars_stay _ _ _ _ _ _ _ c.requires.0 c.requires.1 c.zero_rows.ensures c.zero_rows-2.ensures c.zero_rows-3.ensures c.zero_rows-4.ensures v p,
)
