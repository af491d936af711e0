-- Saved rows beside the state that notes which of them were touched since. Assumes nothing: these are definitions.
use Rattle.std.specs.Prelude.{◌≡◌, List, ℕ, ◌<◌}
use Rattle.table.specs.Touched.{Untouched}
use Rattle.table.specs.declared.state.State.{State}
use Rattle.snapshot.specs.Snap.{Saved}
use Rattle.snapshot.specs.Copied.{RowCopied}

-- a saved row that is not noted is as it is
abbrev pub Noted : State → List ℕ → Type 0
Noted s saved = (v : ℕ) → v < s.saved → v < s.used.vars → Untouched s.touched v → RowCopied saved 0 s.words.now 16389 v

-- s became t, whose variables in use are saved, all of them; words and counts are as they were
pub record SavesAll (s t : State) (saved : List ℕ) : Type 0 where
  pub name : t.words.ghost_name ≡ s.words.ghost_name
  pub words : t.words.now ≡ s.words.now
  pub used : t.used ≡ s.used
  pub many : t.saved ≡ s.used.vars
  pub all : Saved s.words.now s.used saved
