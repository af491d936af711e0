-- The ends of chains, noted once for all variables: what the table of them says. Assumes nothing: these are definitions.
use Rattle.std.specs.Prelude.{◌≡◌, List, ℕ, ◌-◌, ◌<◌, ◌≤◌, length, get_or}
use Rattle.std.specs.Prelude.{Option, None, Some}
use Rattle.definition.specs.Types.{Struct}
use Rattle.definition.specs.Subst.{next_of, forward}
use Rattle.table.specs.Did.{held}
use Rattle.table.specs.declared.state.State.{State}
use Rattle.ends.specs.declared.Meeting.{Meeting}

-- x is one more than the variable at which the chain from v ends, in at most n steps
pub record EndsBy (s : State) (v n x : ℕ) : Type 0 where
  pub short : x ≤ 65536
  pub is : (ds : List Struct) → forward n (held s ds) v ≡ x - 1
  pub last : (ds : List Struct) → next_of (held s ds) (x - 1) ≡ None

-- a number that is noted says so of its variable
pub record Noted (s : State) (n : ℕ) (ends : List ℕ) : Type 0 where
  pub size : length ends ≡ 1024
  pub ends_by : (v : ℕ) → 0 < get_or ends v 0 → EndsBy s v n (get_or ends v 0)

-- following the chain from v led to this end, and with it the noted chains have at most so many steps
abbrev pub Meets : State → ℕ → ℕ → Option Meeting → Type 0
Meets s v longest (Some m) = (longest ≤ m.long) × ((m.long ≤ s.used.vars) × EndsBy s v m.long m.end)
Meets s v longest None = Unit {0}
