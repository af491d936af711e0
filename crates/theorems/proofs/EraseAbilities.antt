-- Abilities, missing ones and rules are the same with all locations set to 0. Assumes nothing.
use mathlib.Core.Path.{◌≡◌, refl}
use Prim.Native.Nat.{ℕ, zero, suc}
use Rattle.definition.specs.Types.{State}
use Rattle.definition.specs.Store.{count, spanned}
use Rattle.definition.specs.Subst.{unfold_type}
use Rattle.definition.specs.Abilities.{infer, infer_abilities, rule}
use Rattle.definition.specs.Constraints.{missing}
use Rattle.theorems.proofs.Erase.{erase, count_erase, structs_erase, spanned_erase}
use Rattle.theorems.proofs.EraseJoin.{unfold_type_erase}
use Rattle.theorems.proofs.SolveInferred.{those_on, value_same, rule_same}

module _ (s : State) where
  infer_erase : (n t : ℕ) → infer n (erase s) t ≡ infer n s t
  unfolding infer
  infer_erase zero t = refl
  infer_erase (suc n) t = rw (spanned_erase s t, unfold_type_erase s (spanned s t)) (value_same (erase s) s (structs_erase s) _ _ (λ p. infer_erase n p) (unfold_type s (spanned s t)).value)

  pub abilities_erase : (t : ℕ) → infer_abilities (erase s) t ≡ infer_abilities s t
  unfolding infer_abilities
  abilities_erase t = rw (count_erase s) (infer_erase (count s) t)

  pub rule_erase : (ability t : ℕ) → rule (erase s) ability (unfold_type (erase s) (spanned (erase s) t)).value ≡ rule s ability (unfold_type s (spanned s t)).value
  rule_erase ability t = rw (spanned_erase s t, unfold_type_erase s (spanned s t)) (rule_same (erase s) s (structs_erase s) abilities_erase ability (unfold_type s (spanned s t)).value)

  pub missing_erase : (ty wanted : ℕ) → missing (erase s) ty wanted ≡ missing s ty wanted
  unfolding missing
  missing_erase ty wanted = those_on _ _ (λ ability. rw (abilities_erase ty) refl)
