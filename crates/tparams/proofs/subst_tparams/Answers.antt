-- `tparams::subst_tparams` meets its contract. Assumes nothing.
use native.Mathlib.Numerals.{add-one}
use Rattle.definition.specs.TParams.{subst_tparams}
use Rattle.tparams.proofs.subst_tparams.Goals as goal

pub returns : goal.returns
unfolding subst_tparams
returns c = rw add-one at c.subst_down.ensures
