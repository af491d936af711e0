-- `keep::places::mark_places` meets its contract. Assumes nothing.
use Rattle.table.specs.Did.{tables}
use Rattle.keep.specs.Placed.{PlacesMarked}
use Rattle.keep.proofs.places.mark_places.Given as goal

abbrev pub invariant-loop-t : goal.invariant-loop-t
invariant-loop-t l = PlacesMarked (tables l.st) l.nodes l.t l.places
