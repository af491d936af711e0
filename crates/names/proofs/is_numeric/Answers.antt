-- `names::is_numeric` meets its contract. Assumes nothing.
use mathlib.Core.Path.{◌≡◌, refl, sym, ◌∙◌}
use mathlib.Core.Bool.{true, false}
use mathlib.Core.List.{List, [], ◌∷◌}
use Prim.Native.Nat.{ℕ, zero, suc, ◌≤◌}
use lib.Dec.{eqb}
use borrow.Author.Tests.{ne_eqb}
use native.Mathlib.Omega.{arith}
use Rattle.definition.specs.Types.{Builtin}
use Rattle.definition.specs.Store.{any_of}
use Rattle.definition.specs.Join.{integers, is_numeric}
use Rattle.names.proofs.is_numeric.Goals as goal

low : (b : ℕ) → 2 ≤ b → b ≤ 4 → true ≡ is_numeric (Builtin b)
unfolding is_numeric integers any_of
low zero h k = absurd (omega arith)
low (suc zero) h k = absurd (omega arith)
low (suc (suc zero)) h k = refl
low (suc (suc (suc zero))) h k = refl
low (suc (suc (suc (suc zero)))) h k = refl
low (suc (suc (suc (suc (suc b))))) h k = absurd (omega arith)

high : (b : ℕ) → 7 ≤ b → b ≤ 9 → true ≡ is_numeric (Builtin b)
unfolding is_numeric integers any_of
high (suc (suc (suc (suc (suc (suc (suc zero))))))) h k = refl
high (suc (suc (suc (suc (suc (suc (suc (suc zero)))))))) h k = refl
high (suc (suc (suc (suc (suc (suc (suc (suc (suc zero))))))))) h k = refl
high b h k = absurd (omega arith)

past : (b n : ℕ) (ns : List ℕ) → (b ≡ n → ⊥) → any_of (λ m. eqb b m) (n ∷ ns) ≡ any_of (λ m. eqb b m) ns
unfolding any_of
past b n ns e = rw (any_of, ne_eqb b n e) refl

outside : (b : ℕ) → (b ≡ 2 → ⊥) → (b ≡ 3 → ⊥) → (b ≡ 4 → ⊥) → (b ≡ 7 → ⊥) → (b ≡ 8 → ⊥) → (b ≡ 9 → ⊥) → false ≡ is_numeric (Builtin b)
unfolding is_numeric integers any_of
outside b p q r s t u = sym (past b 2 (3 ∷ 4 ∷ 7 ∷ 8 ∷ 9 ∷ []) p ∙ past b 3 (4 ∷ 7 ∷ 8 ∷ 9 ∷ []) q ∙ past b 4 (7 ∷ 8 ∷ 9 ∷ []) r ∙ past b 7 (8 ∷ 9 ∷ []) s ∙ past b 8 (9 ∷ []) t ∙ past b 9 [] u)

pub returns-in-2 : goal.returns-in-2
returns-in-2 c = low c.args.b (omega arith) (omega arith)

pub returns-in-2-2 : goal.returns-in-2-2
returns-in-2-2 c = high c.args.b (omega arith) (omega arith)

pub returns-in_default : goal.returns-in_default
returns-in_default c = outside c.args.b (λ e. omega arith) (λ e. omega arith) (λ e. omega arith) (λ e. omega arith) (λ e. omega arith) (λ e. omega arith)

pub returns-in_default-2 : goal.returns-in_default-2
returns-in_default-2 c = outside c.args.b (λ e. omega arith) (λ e. omega arith) (λ e. omega arith) (λ e. omega arith) (λ e. omega arith) (λ e. omega arith)

pub returns-in_default-3 : goal.returns-in_default-3
returns-in_default-3 c = outside c.args.b (λ e. omega arith) (λ e. omega arith) (λ e. omega arith) (λ e. omega arith) (λ e. omega arith) (λ e. omega arith)
