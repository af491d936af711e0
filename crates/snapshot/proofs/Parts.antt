-- A part of the words, written as one. Assumes nothing.
use Rattle.std.proofs.Common.{◌≡◌, ℕ, ◌+◌, ◌-◌, ◌*◌, ◌≤◌, ◌<◌, List, length, get_or, subst, arith, rules}
use Rattle.std.proofs.lemmas.List.{places}
use Rattle.std.proofs.Math.Nat.{mul-sub, mul-le-mul_right, mul_comm}
use native.Mathlib.Decide.{dec_lt}
use borrow.Rule.Slice.PartMut.{put_mid}
use Rattle.table.specs.State.{Wrote}

module _ (w : List ℕ) (at n : ℕ) (row ys : List ℕ) (within : at + n ≤ length w) (long : length ys ≡ n) (same : (k : ℕ) → k < n → get_or ys k 0 ≡ get_or row k 0) where
  pub wrote_mid : Wrote w at n row (put_mid at n w ys)
  wrote_mid = record { size = search (rules, places); here = λ k p. here k p; there = λ j f. by j f (dec_lt j at) (dec_lt j (at + n)) }
    where
      here : (k : ℕ) → k < n → get_or (put_mid at n w ys) (at + k) 0 ≡ get_or row k 0
      here k p = let e = same k p in grind (arith, places)

      by : (j : ℕ) → ((k : ℕ) → k < n → j ≡ at + k → ⊥) → Dec (j < at) → Dec (j < at + n) → get_or (put_mid at n w ys) j 0 ≡ get_or w j 0
      by j f (yes p) q = grind (arith, places)
      by j f (no p) (yes q) = absurd (f (j - at) (omega arith) (omega arith))
      by j f (no p) (no q) = grind (arith, places)

  -- .. as the part from place `at` to `at + n`
  pub wrote_part : Wrote w at n row (put_mid at (at + n - at) w ys)
  wrote_part = let e : at + n - at ≡ n = omega arith in rw e wrote_mid

-- a list that is written whole, by how many words it has
pub wrote_long : {w row w' : List ℕ} {at n : ℕ} → length row ≡ n → Wrote w at (length row) row w' → Wrote w at n row w'
wrote_long {w} {row} {w'} {at} e h = subst (λ (m : ℕ). Wrote w at m row w') e h

-- where rows from the first to the last end
pub rows_end : (base from to n : ℕ) → from ≤ to → base + to * n ≡ base + from * n + (to - from) * n
rows_end base from to n le =
    let more : from * n ≤ to * n = mul-le-mul_right n le in
    let less : (to - from) * n ≡ to * n - from * n = rw (mul_comm (to - from) n, mul_comm to n, mul_comm from n) (mul-sub n to from) in
    omega (arith, more, less)
