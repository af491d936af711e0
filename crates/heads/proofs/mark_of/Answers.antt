-- `heads::mark_of` meets its contract. Assumes nothing.
use Rattle.std.proofs.Common.{None, ◌≡◌, ◌<◌, ◌-◌, ℕ, refl, arith}
use borrow.Author.Tests.{ne_eqb, le-leb, lt-leb}
use Rattle.definition.specs.Trees.{mark_of}
use Rattle.heads.proofs.mark_of.Goals as goal

pub returns-in-0 : goal.returns-in-0
unfolding mark_of
returns-in-0 c = rw c.in-0.is refl

pub returns-in-16-to-31 : goal.returns-in-16-to-31
unfolding mark_of
returns-in-16-to-31 c = let z = c.in-16-to-31 in let x = c.args.byte in
    simp (ne_eqb x 0 (λ e. omega arith), le-leb 16 x (omega arith), le-leb (x - 16) 15 (omega arith))

past : (x : ℕ) → (x ≡ 0 → ⊥) → 31 < x → None ≡ mark_of x
unfolding mark_of
past x e h = simp (ne_eqb x 0 e, le-leb 16 x (omega arith), lt-leb (x - 16) 15 (omega arith))

below : (x : ℕ) → (x ≡ 0 → ⊥) → x < 16 → None ≡ mark_of x
unfolding mark_of
below x e h = simp (ne_eqb x 0 e, lt-leb 16 x h)

pub returns-in_default : goal.returns-in_default
returns-in_default c = below _ (λ e. omega arith) (omega arith)

pub returns-in_default-2 : goal.returns-in_default-2
returns-in_default-2 c = past _ (λ e. omega arith) (omega arith)
