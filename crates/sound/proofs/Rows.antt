-- Rows in use and rows past them, whatever a table's rows mean. Assumes nothing.
-- For any table: rows in use are read and written alike, those past them are blank, and a blank tail is zeros.
use mathlib.Core.Path.{◌≡◌, sym, ap, ◌∙◌}
use mathlib.Core.Bool.{true}
use mathlib.Core.List.{List}
use Prim.Native.Nat.{ℕ, ◌+◌, ◌*◌, ◌-◌, ◌<◌, ◌≤◌, ◌/◌, ◌%◌}
use native.Mathlib.Nat.{mul-le-mul_right, suc-mul, add-mul, div-add-mod', mod-lt}
use native.Mathlib.Omega.{arith}
use native.Mathlib.Decide.{dec_lt}
use lib.ListN.{get_or}
use borrow.Author.Tests.{eqb-true, eq-eqb}
use Rattle.table.specs.Tab.{tab}
use Rattle.table.specs.Rows.{Table, words_at, row, entries}
use Rattle.table.proofs.Tab.{getD_tab, tab_ext}
use Rattle.table.proofs.Rows.{entry_at, entry_out, row_word}
use Rattle.sound_tables.specs.Tables.{zero_at, zeros}
use Rattle.sound_fields.proofs.Below.{all_at, all_from}
use Rattle.sound.proofs.Encode.{Rows}

module _ {A : Type 0} (T : Table A) (w : List ℕ) (n : ℕ) where
  pub rows_from : ((i : ℕ) → i < n → T.write (T.read (row T w i)) ≡ row T w i) → ((i : ℕ) → n ≤ i → i < T.rows → row T w i ≡ T.write T.blank) → Rows T w (entries T w n)
  rows_from used past i h = by (dec_lt i n)
    where
      by : Dec (i < n) → row T w i ≡ T.write (get_or (entries T w n) i T.blank)
      by (yes p) = sym (ap (λ (a : A). T.write a) (entry_at T w n i T.blank p) ∙ used i p)
      by (no p) = past i (omega arith) h ∙ ap (λ (a : A). T.write a) (sym (entry_out T w n i T.blank (omega arith)))

  pub used_row : Rows T w (entries T w n) → n ≤ T.rows → (i : ℕ) → i < n → T.write (T.read (row T w i)) ≡ row T w i
  used_row h le i p = sym (h i (omega arith) ∙ ap (λ (a : A). T.write a) (entry_at T w n i T.blank p))

  pub past_row : Rows T w (entries T w n) → (i : ℕ) → n ≤ i → i < T.rows → row T w i ≡ T.write T.blank
  past_row h i p q = h i q ∙ ap (λ (a : A). T.write a) (entry_out T w n i T.blank p)

  -- ---- the tail

  abbrev pub Past : Type 0
  Past = (i : ℕ) → n ≤ i → i < T.rows → row T w i ≡ tab T.width (λ k. 0)

  pub tail_rows : zeros w (T.base + n * T.width) (T.base + T.rows * T.width) ≡ true → Past
  unfolding zeros zero_at row words_at
  tail_rows e i le lt = tab_ext T.width _ _ (λ k h.
      let a = mul-le-mul_right T.width le in
      let b = mul-le-mul_right T.width lt in
      let j = T.base + i * T.width + k - (T.base + n * T.width) in
      let z : T.base + n * T.width + j ≡ T.base + i * T.width + k = omega (arith, a) in
      let q : j < T.base + T.rows * T.width - (T.base + n * T.width) = omega (arith, a, b, suc-mul i T.width) in
      rw z at (eqb-true (get_or w (T.base + n * T.width + j) 0) 0 (all_at (T.base + T.rows * T.width - (T.base + n * T.width)) (zero_at w (T.base + n * T.width)) e j q)))

  pub rows_tail : 0 < T.width → n ≤ T.rows → Past → zeros w (T.base + n * T.width) (T.base + T.rows * T.width) ≡ true
  unfolding zeros zero_at
  rows_tail pos le h = all_from (T.base + T.rows * T.width - (T.base + n * T.width)) (zero_at w (T.base + n * T.width)) (λ j p.
      let W = T.width in
      let i = n + j / W in
      let k = j % W in
      let dm : j / W * W + j % W ≡ j = div-add-mod' j W in
      let am : i * W ≡ n * W + j / W * W = add-mul n (j / W) W in
      let km : k < W = mod-lt j pos in
      let a = mul-le-mul_right W le in
      let im : i < T.rows = lt_rows j p a in
      let z : T.base + n * W + j ≡ T.base + i * W + k = omega (arith, dm, am) in
      eq-eqb _ 0 (ap (λ (x : ℕ). get_or w x 0) z ∙ sym (row_word T w i k km) ∙ ap (λ (l : List ℕ). get_or l k 0) (h i (omega arith) im) ∙ getD_tab W (λ k. 0) k 0 km))
    where
      lt_rows : (j : ℕ) → j < T.base + T.rows * T.width - (T.base + n * T.width) → n * T.width ≤ T.rows * T.width → n + j / T.width < T.rows
      lt_rows j p a = by (dec_lt (n + j / T.width) T.rows)
        where
          by : Dec (n + j / T.width < T.rows) → n + j / T.width < T.rows
          by (yes q) = q
          by (no q) =
              let m = mul-le-mul_right {m = T.rows} {n = n + j / T.width} T.width (omega arith) in
              absurd (omega (arith, m, a, add-mul n (j / T.width) T.width, div-add-mod' j T.width))
