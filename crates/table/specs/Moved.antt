-- One row written in words that are no state. Assumes nothing: these are definitions.
use Rattle.std.specs.Prelude.{List, ℕ, ◌+◌, ◌*◌}
use Rattle.table.specs.Rows.{Table, Written}
use Rattle.table.specs.State.{Wrote}

-- row k of T is written as a
pub record Puts {A : Type 0} (T : Table A) (w : List ℕ) (k : ℕ) (a : A) (w' : List ℕ) : Type 0 where
  pub words : List ℕ
  pub wrote : Wrote w (T.base + k * T.width) T.width words w'
  pub written : Written T words a
