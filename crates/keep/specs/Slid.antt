-- Rows that slide down in their place. Assumes nothing: these are definitions.
use Rattle.std.specs.Prelude.{◌≡◌, ◌⊎◌, Bool, List, ℕ, ◌+◌, ◌*◌, ◌≤◌, ◌<◌, length, get_or}
use mathlib.Core.List.{map}
use Rattle.definition.specs.Keep.{those_below}
use Rattle.table.specs.Rows.{Table, row, entries, Clean}

-- all words outside this table are as they were
pub record Within {A : Type 0} (T : Table A) (w w' : List ℕ) : Type 0 where
  pub size : length w' ≡ length w
  pub there : (j : ℕ) → (j < T.base) ⊎ (T.base + T.rows * T.width ≤ j) → get_or w' j 0 ≡ get_or w j 0

-- of the rows below t of w₀, those with f stand in front, the first k rows of w, each as h makes it; from row t on w is as w₀ was
pub record Slid {A : Type 0} (T : Table A) (f : ℕ → Bool) (h : ℕ → A) (w₀ w : List ℕ) (t k : ℕ) : Type 0 where
  pub many : k ≡ length (those_below t f)
  pub done : entries T w k ≡ map h (those_below t f)
  pub clean : (i : ℕ) → i < k → row T w i ≡ T.write (get_or (entries T w k) i T.blank)
  pub rest : (i : ℕ) → t ≤ i → i < T.rows → row T w i ≡ row T w₀ i
  pub within : Within T w₀ w

-- n rows are in use, and those past them are blank
pub record Slides {A : Type 0} (T : Table A) (w : List ℕ) (n : ℕ) : Type 0 where
  pub size : length w ≡ 24069
  pub few : n ≤ T.rows
  pub clean : Clean T w n

-- .. those with f stand in front, k rows, and all rows past them are blank
pub record SlidDown {A : Type 0} (T : Table A) (f : ℕ → Bool) (h : ℕ → A) (w : List ℕ) (n : ℕ) (w' : List ℕ) (k : ℕ) : Type 0 where
  pub many : k ≡ length (those_below n f)
  pub done : entries T w' k ≡ map h (those_below n f)
  pub clean : Clean T w' k
  pub within : Within T w w'
