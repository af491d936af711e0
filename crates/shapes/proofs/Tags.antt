-- What holds under a `_` arm: P of each shape, name or constraint whose tag is one of those that fall there. A caller gives P's proof for each of these
-- tags, and `tt` for the others. Assumes nothing.
use mathlib.Core.Path.{◌≡◌, refl, sym, subst}
use mathlib.Core.Bool.{Bool, true, false, not}
use mathlib.Core.List.{List, [], ◌∷◌}
use Prim.Native.Nat.{ℕ}
use lib.Dec.{T}
use mir.Val.{has_key}
use denote.Enum.Declared.{tag_of}
use types.Run.{OneOf, miss}
use Rattle.names.specs.declared.AbilitySet.{AbilitySet}
use Rattle.names.specs.declared.TParamID.{TParamID}
use Rattle.names.specs.declared.TVar.{TVar}
use Rattle.names.specs.declared.TypeName.{TypeName}
use Rattle.names.specs.declared.TypeName.TheVariants.{Multiple, Builtin, ModuleType}
use Rattle.names.specs.contracts.TypeName.{the_type as name_type}
use Rattle.table.specs.declared.Applied.{Applied}
use Rattle.table.specs.declared.Shape.{Shape}
use Rattle.table.specs.declared.Shape.TheVariants.{Unit as UnitS, Ref, Param, Apply, Var, Anything, UnresolvedError}
use Rattle.table.specs.contracts.Shape.{the_type}
use Rattle.table.specs.declared.Constraint.{Constraint}
use Rattle.table.specs.declared.Constraint.TheVariants.{Ability, Numeric, Bits, Ordered, BaseType, SingleType}
use Rattle.table.specs.contracts.Constraint.{the_type as constraint_type}

-- A, if the tag k is one of these
abbrev pub When : Bool → Type 0 → Type 0
When true A = A
When false A = Unit {0}

module _ (tags : List ℕ) where
  abbrev pub At : ℕ → Type 0 → Type 0
  At k A = When (has_key tags k) A

  met : {A : Type 0} (k : ℕ) (b : Bool) → has_key tags k ≡ b → When b A → OneOf tags k → A
  met k true e a o = a
  met k false e a o = absurd (miss tags k (subst (λ (x : Bool). T (not x)) (sym e) tt) o)

  pub other_shapes : (P : Shape → Type 0) → At 0 (P UnitS) → At 1 ((m : Bool) (t : ℕ) → P (Ref m t)) → At 2 ((id : TParamID) (a : AbilitySet) → P (Param id a))
      → At 3 ((a : Applied) → P (Apply a)) → At 4 ((v : TVar) → P (Var v)) → At 5 (P Anything) → At 6 (P UnresolvedError)
      → (s : Shape) → OneOf tags (tag_of the_type s) → P s
  other_shapes P unit ref param apply var anything error UnitS o = met 0 _ refl unit o
  other_shapes P unit ref param apply var anything error (Ref m t) o = met 1 _ refl ref o m t
  other_shapes P unit ref param apply var anything error (Param id a) o = met 2 _ refl param o id a
  other_shapes P unit ref param apply var anything error (Apply a) o = met 3 _ refl apply o a
  other_shapes P unit ref param apply var anything error (Var v) o = met 4 _ refl var o v
  other_shapes P unit ref param apply var anything error Anything o = met 5 _ refl anything o
  other_shapes P unit ref param apply var anything error UnresolvedError o = met 6 _ refl error o

  pub other_names : (P : TypeName → Type 0) → At 0 ((n : ℕ) → P (Multiple n)) → At 1 ((b : ℕ) → P (Builtin b)) → At 2 ((m : ℕ) → P (ModuleType m))
      → (n : TypeName) → OneOf tags (tag_of name_type n) → P n
  other_names P multiple builtin module_type (Multiple n) o = met 0 _ refl multiple o n
  other_names P multiple builtin module_type (Builtin b) o = met 1 _ refl builtin o b
  other_names P multiple builtin module_type (ModuleType m) o = met 2 _ refl module_type o m

-- the tags of the constraints that ask for no abilities
abbrev pub plain_tags : List ℕ
plain_tags = 1 ∷ 2 ∷ 3 ∷ 4 ∷ 5 ∷ []

pub other_constraints : (P : Constraint → Type 0) → ((loc ty : ℕ) → P (Numeric loc ty)) → ((loc ty : ℕ) → P (Bits loc ty)) → ((loc ty : ℕ) → P (Ordered loc ty)) → ((loc ty : ℕ) → P (BaseType loc ty)) → ((loc ty : ℕ) → P (SingleType loc ty))
    → (c : Constraint) → OneOf plain_tags (tag_of constraint_type c) → P c
other_constraints P numeric bits ordered base single (Ability loc ty a) o = absurd (miss plain_tags 0 tt o)
other_constraints P numeric bits ordered base single (Numeric loc ty) o = numeric loc ty
other_constraints P numeric bits ordered base single (Bits loc ty) o = bits loc ty
other_constraints P numeric bits ordered base single (Ordered loc ty) o = ordered loc ty
other_constraints P numeric bits ordered base single (BaseType loc ty) o = base loc ty
other_constraints P numeric bits ordered base single (SingleType loc ty) o = single loc ty
