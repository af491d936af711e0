-- `Within` over several steps, by its numbers: a cycle's answers need not name each `Past`, as the laws of `old_merge` ask. Assumes nothing.
use Prim.Native.Nat.{ℕ, ◌≤◌}
use native.Mathlib.Omega.{arith}

pub within_none : {a b : ℕ} → (a ≤ a) × (b ≤ b)
within_none = (omega arith, omega arith)

-- the earlier step first
pub within_then : {a b c x y z : ℕ} → (b ≤ a) × (y ≤ x) → (c ≤ b) × (z ≤ y) → (c ≤ a) × (z ≤ x)
within_then p q = (omega (arith, p.0, q.0), omega (arith, p.1, q.1))
