-- The loop that puts zeros after the first n bytes of a row. Assumes nothing.
use mathlib.Core.Path.{◌≡◌, sym, ◌∙◌}
use mathlib.Core.List.{List}
use Prim.Native.Nat.{ℕ, ◌≤◌, ◌<◌}
use native.Mathlib.Omega.{arith}
use native.Mathlib.Decide.{dec_lt}
use lib.ListN.{length, get_or, take, length-take, get_or-eq_default}
use lib.Seq.{ext_get_or, get_or-take}
use Rattle.table.specs.Tab.{tab}
use Rattle.table.proofs.Tab.{length_tab, getD_tab}
use Rattle.verdict.specs.Verdict.{padded}

pub record Padding (bytes : List ℕ) (n : ℕ) (row : List ℕ) (i : ℕ) : Type 0 where
  pub from : n ≤ i
  pub within : i ≤ 8
  pub size : length row ≡ 8
  pub front : (k : ℕ) → k < n → get_or row k 0 ≡ get_or bytes k 0
  pub zeros : (k : ℕ) → n ≤ k → k < i → get_or row k 0 ≡ 0

pub padding_all : (bytes : List ℕ) (n : ℕ) (row : List ℕ) (i : ℕ) → Padding bytes n row i → 8 ≤ i → row ≡ padded bytes n
unfolding padded
padding_all bytes n row i h ge =
    let f : ℕ → ℕ = λ k. get_or (take n bytes) k 0 in
    ext_get_or 0 row (tab 8 f) (h.size ∙ sym (length_tab 8 f)) (λ k p. let q : k < 8 = omega (arith, h.size) in at k q (dec_lt k n) ∙ sym (getD_tab 8 f k 0 q))
  where
    at : (k : ℕ) → k < 8 → Dec (k < n) → get_or row k 0 ≡ get_or (take n bytes) k 0
    at k q (yes l) = h.front k l ∙ sym (get_or-take n bytes k 0 l)
    at k q (no l) = h.zeros k (omega arith) (omega arith) ∙ sym (get_or-eq_default (take n bytes) 0 {n = k} (simp length-take (omega (arith, h.from, h.within))))
