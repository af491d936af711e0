-- typing/expand.rs: type_; 02, R-5. The names are the Rust's. Assumes nothing: these are definitions.
-- Changed from the source that NOTICE names: ported to Rattle.
use Rattle.std.specs.Prelude.{◌∷◌, ◌++◌, ◌*◌}
use Rattle.definition.specs.Types.{true, false, List, [], None, Some, ℕ, zero, suc, TypeName, Multiple, Builtin, ModuleType, UnitType, Ref, Param, Apply, Var, Anything, UnresolvedError, TypeValue, State, runs_into_itself, already_expanded, Result, ok, refused, ◌>>=◌}
use Rattle.definition.specs.Store.{count, type_at, loc_of, get}
use Rattle.definition.specs.Subst.{forward_tvar, reaches_itself}
use Rattle.definition.specs.Abilities.{infer_abilities}
use Rattle.definition.specs.Write.{Bytes, u32, head}

-- the type that type_ leaves, in bytes, and a code for each UninferredType that it reports, from left to right
pub record Expanded : Type 0 where
  pub type : Bytes
  pub codes : Bytes

abbrev pub expanded : Bytes → Bytes → Result Expanded
expanded type codes = ok (record { type = type; codes = codes })

-- byte 5 and the location of the variable
unfoldable pub uninferred : ℕ → Bytes
uninferred loc = 5 ∷ u32 loc

-- types: one after the other
unfoldable pub expand_types : (ℕ → Result Expanded) → List ℕ → Result Expanded
expand_types type_ [] = expanded [] []
expand_types type_ (ty ∷ tys) = do first ← type_ ty; rest ← expand_types type_ tys; expanded (first.type ++ rest.type) (first.codes ++ rest.codes)

-- a tag, a location and fields before the parts
unfoldable pub under : Bytes → Result Expanded → Result Expanded
under head parts = do parts ← parts; expanded (head ++ parts.type) parts.codes

-- Apply(Some(_), sp!(_, TypeName_::Builtin(_)), tys) => types(context, tys), Apply(Some(_), _, _) => panic!
unfoldable pub expand_marked : TypeName → Result Expanded → Result Expanded
expand_marked (Builtin b) type = type
expand_marked (Multiple len) type = refused already_expanded
expand_marked (ModuleType m) type = refused already_expanded

-- one level of type_; the function is type_, for what is below
unfoldable pub expand_value : (ℕ → Result Expanded) → State → ℕ → ℕ → TypeValue → Result Expanded
expand_value type_ s ty loc UnitType = expanded (head loc UnitType) []
expand_value type_ s ty loc UnresolvedError = expanded (head loc UnresolvedError) []
expand_value type_ s ty loc Anything = expanded (head loc Anything) []
expand_value type_ s ty loc (Param id a) = expanded (head loc (Param id a)) []
expand_value type_ s ty loc (Ref m t) = under (head loc (Ref m t)) (type_ t)
expand_value type_ s ty loc (Var v) = elim (get s (forward_tvar s v)) [ None ↦ expanded (head loc UnresolvedError) (uninferred loc) | Some t ↦ type_ t ]
expand_value type_ s ty loc (Apply (Some set) n tys) = expand_marked n (under (head loc (Apply (Some set) n tys)) (expand_types type_ tys))
expand_value type_ s ty loc (Apply None n tys) = under (head loc (Apply (Some (infer_abilities s ty)) n tys)) (expand_types type_ tys)

-- at most n calls deep
unfoldable pub expand : ℕ → State → ℕ → Result Expanded
expand zero s ty = refused runs_into_itself
expand (suc n) s ty = expand_value (λ t. expand n s t) s ty (loc_of s ty) (type_at s ty)

-- type_. A level is a call, and one more for a bound variable
unfoldable pub expand_type : State → ℕ → Result Expanded
expand_type s ty = elim (reaches_itself s ty) [ true ↦ refused runs_into_itself | false ↦ expand (2 * count s) s ty ]
