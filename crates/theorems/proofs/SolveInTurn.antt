-- What `in_turn` gives, and so what SV's constraints come to: their failures and an empty list, or 9, or 16. Assumes nothing.
use mathlib.Core.Path.{◌≡◌, refl, ap, ◌∙◌}
use mathlib.Core.Logic.{◌⊎◌, inl, inr}
use mathlib.Core.Bool.{Bool, true, false}
use mathlib.Core.List.{List, [], ◌∷◌, ◌++◌, map}
use Prim.Native.Nat.{ℕ}
use Rattle.definition.specs.Types.{Constraint, AbilityConstraint, NumericConstraint, BitsConstraint, OrderedConstraint, BaseTypeConstraint, SingleTypeConstraint, Spanned, TypeValue, State, Refusal, runs_into_itself, mark_contradicted, Result, ok, err, refused, ◌>>=◌}
use Rattle.definition.specs.Store.{spanned, with_constraints}
use Rattle.definition.specs.Subst.{unfold_type, reaches_itself}
use Rattle.definition.specs.Abilities.{Rule, declaration, argument, contradicted, rule}
use Rattle.definition.specs.Constraints.{missing, by_rule, in_turn, solve_ability_constraint, solve_constraint, solve_all}
use Rattle.definition.specs.Write.{Bytes}
use Rattle.theorems.proofs.DemandTracks.{never}

-- ---- in turn

-- failures are told
abbrev pub Tells : Result Bytes → Type 0
Tells m = (failures : Bytes) × (m ≡ ok failures)

module _ {A : Type 0} (f : A → Result Bytes) where
  pub turn_first : (x : A) (xs : List A) {y : Refusal} → f x ≡ refused y → in_turn f (x ∷ xs) ≡ refused y
  unfolding in_turn ◌>>=◌
  turn_first x xs e = rw (e, in_turn) refl

  pub turn_later : (x : A) (xs : List A) {y : Refusal} → Tells (f x) → in_turn f xs ≡ refused y → in_turn f (x ∷ xs) ≡ refused y
  unfolding in_turn ◌>>=◌
  turn_later x xs t e = rw (t.1, in_turn) (rw e refl)

  -- what refuses is the first, or something later and the first tells failures
  pub turn_refused : (x : A) (xs : List A) {y : Refusal} → in_turn f (x ∷ xs) ≡ refused y → (f x ≡ refused y) ⊎ (Tells (f x) × (in_turn f xs ≡ refused y))
  unfolding in_turn ◌>>=◌
  turn_refused x xs {y} e = go (f x) refl e
    where
      rest : (failures : Bytes) (m : Result Bytes) → (m >>= λ more. ok (failures ++ more)) ≡ refused y → m ≡ refused y
      rest failures (ok more) e = never (cc)
      rest failures (err s e) d = never (cc)
      rest failures (refused z) e = let d : z ≡ y = cc in ap refused d

      go : (m : Result Bytes) → f x ≡ m → (m >>= λ failures. in_turn f xs >>= λ more. ok (failures ++ more)) ≡ refused y → (f x ≡ refused y) ⊎ (Tells (f x) × (in_turn f xs ≡ refused y))
      go (ok failures) d e = inr ((failures, d), rest failures (in_turn f xs) e)
      go (err s t) d e = never (cc)
      go (refused z) d e = inl (d ∙ (let q : z ≡ y = cc in ap refused q))

pub turn_map : {A B : Type 0} (f : B → Result Bytes) (g : A → B) (xs : List A) → in_turn f (map g xs) ≡ in_turn (λ x. f (g x)) xs
unfolding in_turn
turn_map f g [] = refl
turn_map f g (x ∷ xs) = ap (λ (m : Result Bytes). f (g x) >>= λ failures. m >>= λ more. ok (failures ++ more)) (turn_map f g xs)

-- ---- failures, 9 or 16

pub data Solved : Result Bytes → Type 0 where
  told : {failures : Bytes} → Solved (ok failures)
  nine : Solved (refused runs_into_itself)
  sixteen : Solved (refused mark_contradicted)

all_solved : {A : Type 0} (f : A → Result Bytes) → ((x : A) → Solved (f x)) → (xs : List A) → Solved (in_turn f xs)
unfolding in_turn ◌>>=◌
all_solved f h [] = told
all_solved f h (x ∷ xs) = go (h x) (all_solved f h xs)
  where
    go : {m n : Result Bytes} → Solved m → Solved n → Solved (m >>= λ failures. n >>= λ more. ok (failures ++ more))
    go told told = told
    go told nine = nine
    go told sixteen = sixteen
    go nine t = nine
    go sixteen t = sixteen

module _ (s : State) where
  rule_solved : (loc ability : ℕ) (unfolded : Spanned TypeValue) (r : Rule) → Solved (by_rule s loc ability unfolded r)
  unfolding by_rule
  rule_solved loc ability unfolded declaration = told
  rule_solved loc ability unfolded (argument place) = told
  rule_solved loc ability unfolded contradicted = sixteen

  ability_solved : (loc ty abilities : ℕ) → Solved (solve_ability_constraint s loc ty abilities)
  unfolding solve_ability_constraint
  ability_solved loc ty abilities = go (reaches_itself s ty)
    where
      rows : ℕ → Result Bytes
      rows ability = by_rule s loc ability (unfold_type s (spanned s ty)) (rule s ability (unfold_type s (spanned s ty)).value)

      go : (b : Bool) → Solved (elim b [ true ↦ refused runs_into_itself | false ↦ in_turn rows (missing s ty abilities) ])
      go true = nine
      go false = all_solved rows (λ ability. rule_solved loc ability _ _) (missing s ty abilities)

  pub constraint_solved : (c : Constraint) → Solved (solve_constraint s c)
  unfolding solve_constraint
  constraint_solved (AbilityConstraint loc ty abilities) = ability_solved loc ty abilities
  constraint_solved (NumericConstraint loc ty) = told
  constraint_solved (BitsConstraint loc ty) = told
  constraint_solved (OrderedConstraint loc ty) = told
  constraint_solved (BaseTypeConstraint loc ty) = told
  constraint_solved (SingleTypeConstraint loc ty) = told

  pub solve_cases : (P : Result (State × Bytes) → Type 0) → ((failures : Bytes) → P (ok (with_constraints s [], failures))) → P (refused runs_into_itself) → P (refused mark_contradicted) → P (solve_all s)
  unfolding ◌>>=◌
  solve_cases P p p9 p16 = go (all_solved (λ c. solve_constraint s c) constraint_solved s.constraints)
    where
      go : {m : Result Bytes} → Solved m → P (m >>= λ failures. ok (with_constraints s [], failures))
      go (told {failures = failures}) = p failures
      go nine = p9
      go sixteen = p16
