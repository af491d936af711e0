-- A type gone down level by level: what one level does. Assumes nothing.
use mathlib.Core.Path.{◌≡◌, sym, ap, ◌∙◌}
use Prim.Native.Nat.{ℕ, suc, ◌-◌}
use native.Mathlib.Omega.{arith}
use Rattle.definition.specs.Types as d
use Rattle.definition.specs.Types.{State, Result, refused, runs_into_itself}
use Rattle.definition.specs.Store.{node, loc_of, type_at, with_args}
use Rattle.table.specs.State.{node_of, shape_of}
use Rattle.table.specs.declared.Shape.{Shape}
use Rattle.table.specs.declared.Node.{Node}
use Rattle.table.proofs.Grown.{loc_is, value_is}

-- what is done to one type
abbrev pub Walk : Type 0
Walk = State → ℕ → Result (State × ℕ)

-- down is at most so many levels of value, which gets the walk for the parts
pub record Levels (down : ℕ → Walk) (value : Walk → State → ℕ → ℕ → d.TypeValue → Result (State × ℕ)) : Type 0 where
  pub none_left : (s : State) (ty : ℕ) → refused runs_into_itself ≡ down 0 s ty
  pub level : (n : ℕ) (s : State) (ty : ℕ) → value (down n) s ty (loc_of s ty) (type_at s ty) ≡ down (suc n) s ty

-- a level is left, and the node ty has the shape sh
module _ {down : ℕ → Walk} {value : Walk → State → ℕ → ℕ → d.TypeValue → Result (State × ℕ)} (levels : Levels down value) (left ty : ℕ) (left_some : left ≡ 0 → ⊥) (nd : Node) where
  pub level_is : {sh : Shape} → nd.shape ≡ sh → (s : State) → node_of nd ≡ node s ty → value (down (left - 1)) s ty nd.loc (with_args s (shape_of sh)) ≡ down left s ty
  level_is e s node_is =
      let z : suc (left - 1) ≡ left = omega arith in
      ap (λ (x : Shape). value (down (left - 1)) s ty nd.loc (with_args s (shape_of x))) (sym e)
      ∙ ap (λ (l : ℕ). value (down (left - 1)) s ty l (with_args s (shape_of nd.shape))) (loc_is s ty nd node_is)
      ∙ ap (value (down (left - 1)) s ty (loc_of s ty)) (value_is s ty nd node_is)
      ∙ levels.level (left - 1) s ty
      ∙ ap (λ (n : ℕ). down n s ty) z
