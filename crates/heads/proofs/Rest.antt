-- Ability marks, and one part. Assumes nothing.
use mathlib.Core.Path.{◌≡◌, refl, sym}
use mathlib.Core.Bool.{Bool, true, false, not, ◌||◌}
use Prim.Native.Nat.{ℕ, ◌+◌, ◌-◌, ◌<◌, ◌≤◌}
use native.Mathlib.Nat.{le_antisymm}
use native.Mathlib.Omega.{arith}
use borrow.Author.Tests.{le-leb, lt-leb}
use lib.Dec.{leb}
use Rattle.std.specs.Prelude.{None}
use Rattle.definition.specs.Types.{TypeName}
use Rattle.definition.specs.Join.{is_numeric}
use Rattle.definition.specs.Write.{Bytes}
use Rattle.definition.specs.Reader.{Read, got, not_read, Reader, give, go_on, ◌>>=◌}
use Rattle.definition.specs.Trees.{Tree, Trees, no_trees, ◌then◌, read_trees, has_drop, mark_fits}

read_on : (m : Read Tree) (part : Reader Tree) (f : Trees → Tree)
    → go_on (go_on m (λ t bytes. go_on (read_trees 0 part bytes) (λ ts. give (◌then◌ t ts)))) (λ ts. give (f ts)) ≡ go_on m (λ t. give (f (◌then◌ t no_trees)))
unfolding go_on read_trees give
read_on (got t bytes) part f = refl
read_on (not_read x) part f = refl

pub read_one : (part : Reader Tree) (l : Bytes) (f : Trees → Tree) → go_on (read_trees 1 part l) (λ ts. give (f ts)) ≡ go_on (part l) (λ t. give (f (◌then◌ t no_trees)))
unfolding read_trees ◌>>=◌
read_one part l f = read_on (part l) part f

or_true : (a : Bool) → a || true ≡ true
or_true true = refl
or_true false = refl

pub fits_none : (n : TypeName) → true ≡ mark_fits None n
unfolding mark_fits has_drop
fits_none n = sym (or_true (not (is_numeric n)))

-- the set in a mark's byte
pub set_in : (x : ℕ) → x ≤ 31 → leb (x - 16) 15 ≡ true
set_in x l = le-leb (x - 16) 15 (omega (arith, l))

pub set_past : (x : ℕ) → 31 < x → leb (x - 16) 15 ≡ false
set_past x l = lt-leb (x - 16) 15 (omega (arith, l))

-- the one tag left
pub last_tag : (t : ℕ) → t ≤ 8 → (t ≡ 0 → ⊥) → (t ≡ 1 → ⊥) → (t ≡ 2 → ⊥) → (t ≡ 3 → ⊥) → (t ≡ 4 → ⊥) → (t ≡ 5 → ⊥) → (t ≡ 6 → ⊥) → (t ≡ 7 → ⊥) → t ≡ 8
last_tag t l a b c d e f g h =
    le_antisymm l (next 7 t (next 6 t (next 5 t (next 4 t (next 3 t (next 2 t (next 1 t (next 0 t (omega arith) a) b) c) d) e) f) g) h)
  where
    next : (n tag : ℕ) → n ≤ tag → (tag ≡ n → ⊥) → n + 1 ≤ tag
    next n tag l e = omega arith
