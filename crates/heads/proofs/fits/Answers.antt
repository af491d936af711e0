-- `heads::fits` meets its contract. Assumes nothing.
use Rattle.heads.proofs.Rest.{fits_none}
use mathlib.Core.Path.{refl}
use Rattle.definition.specs.Trees.{mark_fits}
use Rattle.heads.proofs.fits.Goals as goal

pub returns-in-None : goal.returns-in-None
returns-in-None c = rw c.in-None.is (fits_none _)

pub returns-then-not-is_numeric : goal.returns-then-not-is_numeric
unfolding mark_fits
returns-then-not-is_numeric c = rw (c.in-Some.is, ← c.is_numeric.ensures, c.if-not-is_numeric.true) refl

pub returns-else-not-is_numeric : goal.returns-else-not-is_numeric
unfolding mark_fits
returns-else-not-is_numeric c = rw (c.in-Some.is, ← c.is_numeric.ensures, c.if-not-is_numeric.false) c.has_drop.ensures
