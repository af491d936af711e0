-- What owning a table of parameter bytes tells: 256 rows of 8. Assumes nothing.
use mathlib.Core.Path.{◌≡◌}
use mathlib.Core.List.{List, [], ◌∷◌}
use Prim.Native.Nat.{ℕ, zero, suc, ◌<◌}
use native.Mathlib.Nat.{not-suc-le-zero, le_of_suc-le-suc}
use mir.Syntax.{w8}
use mir.Val.{Val}
use denote.Array.{each, in_array}
use denote.Plain.{UInt}
use denote.Shadow.{shadow}
use lib.ListN.{length, get_or}
use Rattle.sound.proofs.Tested.{TableOf}

long_row : (n : ℕ) (xs : List (List ℕ)) (us : List Val) (i : ℕ) → i < length xs → shadow (each (List ℕ) (in_array ℕ (UInt w8).own_val n) xs us) → length (get_or xs i []) ≡ n
long_row n [] us i h p = absurd (not-suc-le-zero h)
long_row n (x ∷ xs) [] i h p = absurd p
long_row n (x ∷ xs) (u ∷ us) zero h p = p.0.1.0.1
long_row n (x ∷ xs) (u ∷ us) (suc i) h p = long_row n xs us i (le_of_suc-le-suc h) p.1

pub table_of : (xs : List (List ℕ)) (us : List Val) → length xs ≡ 256 → shadow (each (List ℕ) (in_array ℕ (UInt w8).own_val 8) xs us) → TableOf xs
table_of xs us e p = record { rows = e; row_long = λ i h. long_row 8 xs us i (rw e h) p }
