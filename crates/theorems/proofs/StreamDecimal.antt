-- A number in decimal: digits enough. Assumes nothing.
use mathlib.Core.Path.{◌≡◌, refl, ap}
use mathlib.Core.Bool.{Bool, true, false}
use mathlib.Core.List.{[], ◌∷◌, ◌++◌}
use Prim.Native.Nat.{ℕ, zero, suc, ◌+◌, ◌*◌, ◌/◌, ◌%◌, ◌≤◌, ◌<◌}
use native.Mathlib.Omega.{arith}
use lib.Dec.{ltb}
use borrow.Author.Tests.{ltb-false}
use Rattle.std.specs.Prelude.{if◌then◌else◌}
use Rattle.definition.specs.Write.{Bytes}
use Rattle.definition.specs.Job.{digits, decimal}

-- ten to the n
abbrev pub ten : ℕ → ℕ
ten zero = 1
ten (suc n) = 10 * ten n

tenth : (x p : ℕ) → x < 10 * p → x / 10 < p
tenth x p h = omega arith

no_digit : {A : Type 0} (x : ℕ) → x < 10 → ltb x 10 ≡ false → A
no_digit x h e = absurd (omega (arith, ltb-false x 10 e))

if_same : (b : Bool) {l r : Bytes} → (b ≡ false → l ≡ r) → ◌≡◌ {A = Bytes} (if b then [] else l) (if b then [] else r)
if_same true h = refl
if_same false h = h refl

digits_step : (n m x : ℕ) → (ltb x 10 ≡ false → digits n (x / 10) ≡ digits m (x / 10)) → digits (suc n) x ≡ digits (suc m) x
unfolding digits
digits_step n m x h = ap (λ (front : Bytes). front ++ ((48 + x % 10) ∷ [])) (if_same (ltb x 10) h)

pub digits_same : (n m x : ℕ) → x < ten (suc n) → x < ten (suc m) → digits (suc n) x ≡ digits (suc m) x
digits_same zero m x h i = digits_step zero m x (λ e. no_digit x h e)
digits_same (suc n) zero x h i = digits_step (suc n) zero x (λ e. no_digit x i e)
digits_same (suc n) (suc m) x h i = digits_step (suc n) (suc m) x (λ e. digits_same n m (x / 10) (tenth x (ten (suc n)) h) (tenth x (ten (suc m)) i))

ten_up : (d n : ℕ) → ten n ≤ ten (d + n)
ten_up zero n = let e : 0 + n ≡ n = omega arith in rw e (omega arith)
ten_up (suc d) n = let e : suc d + n ≡ suc (d + n) = omega arith in rw e (omega (arith, ten_up d n))

-- numbers below 10 to the 20
pub decimal_enough : (d x : ℕ) → x < ten 20 → digits (d + 20) x ≡ decimal x
unfolding decimal
decimal_enough d x h = let e : d + 20 ≡ suc (d + 19) = omega arith in rw e (digits_same (d + 19) 19 x (up (ten_up d 20)) h)
  where
    up : ten 20 ≤ ten (d + 20) → x < ten (suc (d + 19))
    up l = let e : d + 20 ≡ suc (d + 19) = omega arith in let k : ten 20 ≤ ten (suc (d + 19)) = rw e at l in omega (arith, h, k)
