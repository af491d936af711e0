-- `ends::note_ends` meets its contract. Assumes nothing.
use Prim.Native.Nat.{◌≤◌}
use Rattle.ends.specs.Ends.{Noted}
use Rattle.ends.proofs.note_ends.Given as goal

abbrev pub invariant-loop-i : goal.invariant-loop-i
invariant-loop-i g l = (l.longest ≤ (g.S.ReadState.state l.st).used.vars) × Noted (g.S.ReadState.state l.st) l.longest l.ends
