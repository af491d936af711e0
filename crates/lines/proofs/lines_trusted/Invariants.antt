-- `lines::lines_trusted` meets its contract. Assumes nothing.
-- Invariant: the words at the head of a turn hold the state after the lines that stand in front of the log (`Going`), and what was saved is part of them. A turn is one record and its line; bytes left fall.
use mathlib.Core.Path.{◌≡◌}
use mathlib.Core.Bool.{false}
use Prim.Native.Nat.{◌-◌}
use lib.ListN.{length}
use Rattle.snapshot.specs.Noted.{Noted}
use Rattle.lines.proofs.Jobs.{Going}
use Rattle.lines.proofs.lines_trusted.Given as goal

abbrev pub invariant-records : goal.invariant-records
invariant-records l = record {
  saved_all : length l.saved ≡ 5120;
  saved : Noted l.st l.saved;
  going : Going l.initial.st l.initial.params l.index l.stream l.more l.initial.log l.st l.params l.log l.lines.read l.lines.written l.lines.index;
  goes_on : l.lines.ended ≡ false;
}

abbrev pub decreases-records : goal.decreases-records
decreases-records l = length l.stream - l.lines.read
