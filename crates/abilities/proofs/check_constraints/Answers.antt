-- `abilities::check_constraints` meets its contract. Assumes nothing.
use mathlib.Core.Path.{sym}
use Rattle.ends.proofs.Ends.{noted_none}
use Rattle.abilities.proofs.check_constraints.Goals as goal

pub note_ends-requires : goal.note_ends-requires
note_ends-requires g c = noted_none

pub slice_bounds-chains-end : goal.slice_bounds-chains-end
slice_bounds-chains-end g c = sym c.note_ends.ensures.1

pub returns : goal.returns
returns g c = c.check_in_turn.ensures
