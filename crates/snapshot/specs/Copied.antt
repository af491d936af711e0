-- Rows of variables, copied from one list of them to another. Assumes nothing: these are definitions.
use Rattle.std.specs.Prelude.{◌≡◌, ◌⊎◌, List, ℕ, ◌+◌, ◌*◌, ◌<◌, length, get_or}
use Rattle.table.specs.Touched.{Untouched}
use Rattle.table.specs.declared.Touched.{Touched}

-- row v of `from`, whose rows begin at `first`, is row v of to', whose rows begin at `at`
abbrev pub RowCopied : List ℕ → ℕ → List ℕ → ℕ → ℕ → Type 0
RowCopied to' at from first v = (k : ℕ) → k < 5 → get_or to' (at + (v * 5 + k)) 0 ≡ get_or from (first + (v * 5 + k)) 0

-- `to` became to': row v is copied, if it is among the first n
pub record CopiedRow (to : List ℕ) (at : ℕ) (from : List ℕ) (first n v : ℕ) (to' : List ℕ) : Type 0 where
  pub size : length to' ≡ length to
  pub here : v < n → RowCopied to' at from first v
  pub there : (j : ℕ) → ((k : ℕ) → v < n → k < 5 → j ≡ at + (v * 5 + k) → ⊥) → get_or to' j 0 ≡ get_or to j 0

-- .. each of the first n is copied, but for some that are not noted: these are as they were
pub record Copied (to : List ℕ) (at : ℕ) (from : List ℕ) (first n : ℕ) (t : Touched) (to' : List ℕ) : Type 0 where
  pub size : length to' ≡ length to
  pub rows : (v : ℕ) → v < n → RowCopied to' at from first v ⊎ Untouched t v
  pub stay : (v : ℕ) → v < n → Untouched t v → RowCopied to' at to at v
  pub there : (j : ℕ) → ((k : ℕ) → k < n * 5 → j ≡ at + k → ⊥) → get_or to' j 0 ≡ get_or to j 0
