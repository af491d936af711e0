-- The declarations that lent words and bytes hold are known. Assumes nothing.
use mathlib.Core.Path.{◌≡◌, sym}
use mathlib.Core.List.{List, []}
use Prim.Native.Nat.{ℕ, ◌≤◌, ◌<◌}
use native.Mathlib.Omega.{arith}
use native.Mathlib.Decide.{dec_lt}
use lib.ListN.{length, get_or}
use Rattle.definition.specs.Types.{Struct}
use Rattle.table.specs.Rows.{row, struct_table}
use Rattle.table.specs.declared.Used.{Used}
use Rattle.table.proofs.Tab.{length_tab, getD_tab, getD_tab_out}
use Rattle.sound.specs.Lent.{bytes_at, struct_of, structs_of}
use Rattle.sound.proofs.Lays.{lent_declares}
use Rattle.table.specs.Known.{Known}

-- their bytes are the first of their rows
row_bytes : (w : List ℕ) (params : List (List ℕ)) (i k : ℕ) → k < length (struct_of w params i).params → get_or (get_or params i []) k 0 ≡ get_or (struct_of w params i).params k 0
unfolding struct_of bytes_at
row_bytes w params i k lt =
    let many = length (struct_table.read (row struct_table w i)).params in
    sym (getD_tab many (λ k. get_or (get_or params i []) k 0) k 0 (omega (arith, length_tab many (λ k. get_or (get_or params i []) k 0))))

module _ (w : List ℕ) (params : List (List ℕ)) (n i : ℕ) where
  row_at : i < n → get_or (structs_of w params n) i struct_table.blank ≡ struct_of w params i
  unfolding structs_of
  row_at lt = getD_tab n (λ i. struct_of w params i) i struct_table.blank lt

  row_past : n ≤ i → get_or (structs_of w params n) i struct_table.blank ≡ struct_table.blank
  unfolding structs_of
  row_past le = getD_tab_out n (λ i. struct_of w params i) i struct_table.blank le

pub known_structs : (w : List ℕ) (u : Used) (params : List (List ℕ)) → Known w u params (structs_of w params u.structs)
known_structs w u params = record { rows = lent_declares w params u; bytes = λ i k lt. by i k (dec_lt i u.structs) lt }
  where
    ds : List Struct
    ds = structs_of w params u.structs

    by : (i k : ℕ) → Dec (i < u.structs) → k < length (get_or ds i struct_table.blank).params → get_or (get_or params i []) k 0 ≡ get_or (get_or ds i struct_table.blank).params k 0
    by i k (yes in_use) lt = rw (row_at w params u.structs i in_use) (row_bytes w params i k (rw (row_at w params u.structs i in_use) at lt))
    by i k (no out) lt = absurd (let none = (rw (row_past w params u.structs i (omega arith)) at lt) in omega arith)
