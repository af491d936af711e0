-- `ends::reaches_itself` meets its contract. Assumes nothing.
use mathlib.Core.Path.{sym}
use Rattle.ends.proofs.Ends.{noted_none}
use Rattle.ends.proofs.reaches_itself.Goals as goal

pub returns-then-near_over : goal.returns-then-near_over
returns-then-near_over g c = c.near_over.ensures c.if-near_over.true

pub note_ends-requires : goal.note_ends-requires
note_ends-requires g c = noted_none

pub slice_bounds-chains-end : goal.slice_bounds-chains-end
slice_bounds-chains-end g c = sym c.note_ends.ensures.1

pub returns : goal.returns
returns g c = c.never_over.ensures
