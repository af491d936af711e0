-- `solve::solve` meets its contract. Assumes nothing.
use mathlib.Core.Path.{refl}
use Rattle.solve.proofs.solve.Goals as goal

pub solve_from-requires : goal.solve_from-requires
solve_from-requires c = ((refl, refl), ((c.requires.saved.0, c.requires.saved.1.1), c.requires.holds_sound))
