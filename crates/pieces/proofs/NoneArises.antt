-- R-6 of a job in pieces: where no reference stands directly over a reference in the state, a piece leaves such a state. Assumes nothing.
use mathlib.Core.Bool.{Bool, true, false}
use mathlib.Core.List.{[], ◌∷◌}
use Prim.Native.Nat.{ℕ, zero, suc, ◌-◌}
use lib.ListN.{length}
use Rattle.definition.specs.Types.{State}
use Rattle.definition.specs.Write.{Bytes}
use Rattle.definition.specs.Step.{Answer, job_buffer, step_stream}
use Rattle.definition.specs.Job.{ends_job, line}
use Rattle.theorems.proofs.DoubledNone.{NoDoubledState, none_arises_streamed}
use Rattle.pieces.specs.Pieces.{takes_on, halt, after_line, next_from, next_lines}
use Rattle.pieces.proofs.Pieces.{entry_of, piece_after}

from_none_arises : (n i : ℕ) (s : State) (bytes : Bytes) (room : ℕ) (more : Bool) → NoDoubledState s → NoDoubledState (next_from n i s bytes room more).state
unfolding next_from halt after_line
from_none_arises zero i s [] room more d = d
from_none_arises zero i s (b ∷ bytes) room more d = d
from_none_arises (suc n) i s [] room more d = d
from_none_arises (suc n) i s (b ∷ bytes) room more d =
    go (takes_on i (b ∷ bytes) room more) (ends_job r.0.number) (none_arises_streamed s (b ∷ bytes) job_buffer d)
    (λ state rest room k. from_none_arises n (suc i) state rest room more k)
  where
    r : Answer × Bytes
    r = step_stream s (b ∷ bytes) job_buffer

    go : (t o : Bool) → NoDoubledState r.0.state → ((state : State) (rest : Bytes) (room : ℕ) → NoDoubledState state → NoDoubledState (next_from n (suc i) state rest room more).state)
        → NoDoubledState (piece_after t o n i s (b ∷ bytes) r room more).state
    go false o k f = d
    go true true k f = k
    go true false k f = f r.0.state r.1 (room - length (line (entry_of i r))) k

pub none_arises_lines : (i : ℕ) (s : State) (bytes : Bytes) (room : ℕ) (more : Bool) → NoDoubledState s → NoDoubledState (next_lines i s bytes room more).state
unfolding next_lines
none_arises_lines i s bytes room more d = from_none_arises (length bytes) i s bytes room more d
