-- subst_tparams goes down level by level; what stays whole, and what a parameter's argument answers. Assumes nothing.
use mathlib.Core.Path.{◌≡◌, refl}
use mathlib.Core.List.{[], ◌∷◌}
use Rattle.std.specs.Prelude.{Option, None, Some}
use Prim.Native.Nat.{ℕ}
use denote.Enum.Declared.{tag_of}
use types.Run.{OneOf}
use Rattle.definition.specs.Types.{State, Result, ok, refused, no_argument}
use Rattle.definition.specs.Store.{with_args}
use Rattle.definition.specs.TParams.{TParamSubst, subst_value, subst_down}
use Rattle.table.specs.State.{shape_of, outcome}
use Rattle.table.specs.declared.Shape.{Shape}
use Rattle.table.specs.contracts.Shape.{the_type}
use Rattle.shapes.proofs.Tags.{other_shapes}
use Rattle.shapes.proofs.Levels.{Walk, Levels}
use Rattle.tparams.specs.Pairs.{answer}

pub levels : (ps : TParamSubst) → Levels (λ n. subst_down n ps) (λ f. subst_value f ps)
unfolding subst_down
levels ps = record { none_left = λ s ty. refl; level = λ n s ty. refl }

-- Unit, UnresolvedError, Anything
pub whole : (sh : Shape) → OneOf (0 ∷ 6 ∷ 5 ∷ []) (tag_of the_type sh) → (f : Walk) (ps : TParamSubst) (s : State) (ty loc : ℕ) → ok (s, ty) ≡ subst_value f ps s ty loc (with_args s (shape_of sh))
unfolding subst_value with_args
whole = other_shapes (0 ∷ 6 ∷ 5 ∷ []) (λ sh. (f : Walk) (ps : TParamSubst) (s : State) (ty loc : ℕ) → ok (s, ty) ≡ subst_value f ps s ty loc (with_args s (shape_of sh)))
    (λ f ps s ty loc. refl) tt tt tt tt (λ f ps s ty loc. refl) (λ f ps s ty loc. refl)

pub answered : (s : State) (o : Option ℕ) → outcome (answer o) s ≡ elim o as (λ x. Result (State × ℕ)) [ None ↦ refused no_argument | Some arg ↦ ok (s, arg) ]
unfolding outcome
answered s None = refl
answered s (Some t) = refl
