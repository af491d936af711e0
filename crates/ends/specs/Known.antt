-- What a table of the chains' ends says of a state, and that it says so in one way at most, so that a ghost field can hold it. Assumes nothing.
use Rattle.std.specs.Prelude.{◌≡◌, List, ℕ, ◌-◌, ◌<◌, ◌≤◌, get_or}
use Rattle.definition.specs.Types.{Struct}
use Rattle.definition.specs.Subst.{forward_tvar}
use Rattle.table.specs.Did.{held}
use Rattle.table.specs.declared.state.State.{State}
use denote.Struct.Props.{props}

-- a number that is noted is one more than what forward_tvar gives
pub record EndsKnown (s : State) (ends : List ℕ) : Type 0 where
  pub short : (v : ℕ) → get_or ends v 0 ≤ 65536
  pub is : (v : ℕ) → 0 < get_or ends v 0 → (ds : List Struct) → get_or ends v 0 - 1 ≡ forward_tvar (held s ds) v

pub EndsKnown-prop : (s : State) (ends : List ℕ) → IsProp (EndsKnown s ends)
EndsKnown-prop s ends = hlevel props
