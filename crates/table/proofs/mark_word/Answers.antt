-- `table::mark_word` meets its contract. Assumes nothing.
use Rattle.table.proofs.Written.{mark_again}
use Prim.Native.Nat.{ℕ, ◌+◌}
use mathlib.Core.Path.{refl, ap}
use Rattle.table.specs.Rows.{mark_word, read_mark}
use Rattle.table.proofs.mark_word.Goals as goal

pub returns-in-None : goal.returns-in-None
unfolding mark_word read_mark
returns-in-None c = rw c.in-None.is (refl, refl)

pub returns-in-Some : goal.returns-in-Some
unfolding mark_word
returns-in-Some c = rw c.in-Some.is (ap (λ (x : ℕ). 16 + x) c.from.ensures.0, rw c.from.ensures.0 (mark_again _ (rw c.from.ensures.0 at c.from.ensures.1)))
