-- What the entries and the room come to never rises: nor by no step, nor by two. Assumes nothing.
use Prim.Native.Nat.{ℕ, ◌≤◌}
use native.Mathlib.Omega.{arith}
use Rattle.history.specs.Past.{reach, marks_reach, Within}
use Rattle.history.specs.declared.Past.{Past}

fall : (a b c : ℕ) → b ≤ a → c ≤ b → c ≤ a
fall a b c x y = omega arith

pub within_now : (p : Past) → Within p p
within_now p = (omega arith, omega arith)

-- .. the later step first, as paths go on
pub within_on : (p q r : Past) → Within q r → Within p q → Within p r
within_on p q r b a = (fall (reach p) (reach q) (reach r) a.0 b.0, fall (marks_reach p) (marks_reach q) (marks_reach r) a.1 b.1)
