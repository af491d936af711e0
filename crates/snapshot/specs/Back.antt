-- A state that goes back to what it was at entry. Assumes nothing: these are definitions.
use Rattle.std.specs.Prelude.{◌≡◌, List, ℕ}
use Rattle.table.specs.State.{view}
use Rattle.table.specs.declared.state.State.{State}
use Rattle.snapshot.specs.declared.before.Before.{Before}
use Rattle.snapshot.specs.Snap.{Rows, Since}
use Rattle.table.specs.Did.{Linked}

-- the rows that b has
abbrev pub rows_of : Before → Rows
rows_of b = record { words = b.saved.now; touched = b.touched }

-- s has grown from the words w₀, of which b was saved
pub record GrownFrom (w₀ : List ℕ) (b : Before) (s : State) : Type 0 where
  pub many : s.saved ≡ b.used.vars
  pub since : Since w₀ b.used (record { words = b.saved.now; touched = s.touched }) s.words.now s.used

-- s became t, which lends the same words: they hold what w₀ held
pub record WentBack (w₀ : List ℕ) (b : Before) (s t : State) : Type 0 where
  pub same : Linked s t
  pub used : t.used ≡ b.used
  pub is : view t.words.now b.used ≡ view w₀ b.used
