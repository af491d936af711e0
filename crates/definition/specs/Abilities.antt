-- typing/core.rs: infer_abilities, and what debug_abilities_info and ability_not_satisified_tips find; expansion/ast.rs's AbilitySet, parser/ast.rs's
-- Ability_::requires; 02, R-1. The names are the Rust's. Assumes nothing: these are definitions.
-- Changed from the source that NOTICE names: ported to Rattle.
use Rattle.std.specs.Prelude.{◌&&◌, ◌∷◌, ◌+◌, ◌/◌, ◌%◌, if◌then◌else◌}
use Rattle.definition.specs.Types.{Bool, true, false, not, List, [], Option, None, Some, ℕ, zero, suc, get_or, ltb, eqb, TypeName, Multiple, Builtin, ModuleType, UnitType, Ref, Param, Apply, Var, Anything, UnresolvedError, TypeValue, State}
use Rattle.definition.specs.Store.{count, spanned}
use Rattle.definition.specs.Subst.{unfold_type}
use Rattle.definition.specs.Instantiate.{struct_tparams}

-- ---- AbilitySet: the sum of copy 1, drop 2, store 4 and key 8
unfoldable pub all : ℕ
all = 15

unfoldable pub primitives : ℕ
primitives = 7

unfoldable pub references : ℕ
references = 3

unfoldable pub signer : ℕ
signer = 2

unfoldable pub collection : ℕ
collection = 7

-- has_ability_
unfoldable pub has : ℕ → ℕ → Bool
has set ability = eqb (set / ability % 2) 1

unfoldable pub select : (ℕ → Bool) → List ℕ → List ℕ
select test [] = []
select test (ability ∷ abilities) = elim (test ability) [ true ↦ ability ∷ select test abilities | false ↦ select test abilities ]

-- the abilities that pass a test, in the order in which a set is gone through
unfoldable pub those : (ℕ → Bool) → List ℕ
those test = select test (1 ∷ 2 ∷ 4 ∷ 8 ∷ [])

-- AbilitySet::from_abilities
unfoldable pub from_abilities : List ℕ → ℕ
from_abilities [] = 0
from_abilities (ability ∷ abilities) = ability + from_abilities abilities

-- Ability_::requires: what an argument must have. key needs store, each other ability itself
unfoldable pub requires : ℕ → ℕ
requires ability = if eqb ability 8 then 4 else ability

-- ---- a name's declaration
-- BuiltinTypeName_::declared_abilities
unfoldable pub builtin_abilities : ℕ → ℕ
builtin_abilities b = if eqb b 1 then signer else if eqb b 5 then collection else primitives

unfoldable pub struct_abilities : State → ℕ → ℕ
struct_abilities s n = (get_or s.structs n (record { abilities = 0; params = [] })).abilities

unfoldable pub declared_abilities : State → TypeName → ℕ
declared_abilities s n = elim n [ Multiple len ↦ collection | Builtin b ↦ builtin_abilities b | ModuleType m ↦ struct_abilities s m ]

-- argument i counts: a struct's phantom arguments do not, nor would one past its parameters, as `infer_abilities` zips the two
unfoldable pub counts : State → TypeName → ℕ → Bool
counts s n i = elim n [ Multiple len ↦ true | Builtin b ↦ true | ModuleType m ↦ ltb (get_or (struct_tparams s m) i 16) 16 ]

-- the place of the first argument that counts and lacks; the first of all has place i
unfoldable pub first_lacking : (ℕ → Bool) → (ℕ → Bool) → ℕ → List ℕ → Option ℕ
first_lacking counts lacks i [] = None
first_lacking counts lacks i (ty ∷ tys) = elim (counts i && lacks ty) [ true ↦ Some i | false ↦ first_lacking counts lacks (suc i) tys ]

unfoldable pub is_none : Option ℕ → Bool
is_none place = elim place [ None ↦ true | Some i ↦ false ]

-- ---- infer_abilities
-- over the abilities that `infer` gives each argument
module _ (infer : ℕ → ℕ) (s : State) where
  unfoldable pub lacking : TypeName → List ℕ → ℕ → Option ℕ
  lacking n tys needed = first_lacking (counts s n) (λ ty. not (has (infer ty) needed)) 0 tys

  -- of what is declared, what no argument that counts takes away
  unfoldable pub granted : TypeName → List ℕ → ℕ → Bool
  granted n tys ability = has (declared_abilities s n) ability && is_none (lacking n tys (requires ability))

  -- one level, of an unfolded type: no type of a sound state unfolds to a variable. A mark is taken as it is
  unfoldable pub infer_value : TypeValue → ℕ
  infer_value UnitType = collection
  infer_value (Ref m t) = references
  infer_value (Var v) = all
  infer_value UnresolvedError = all
  infer_value Anything = all
  infer_value (Param id abilities) = abilities
  infer_value (Apply (Some abilities) n tys) = abilities
  infer_value (Apply None n tys) = from_abilities (those (granted n tys))

-- n levels, those that ends_in counts. A type whose reading is over in n levels meets no 0
unfoldable pub infer : ℕ → State → ℕ → ℕ
infer zero s ty = all
infer (suc n) s ty = infer_value (λ t. infer n s t) s (unfold_type s (spanned s ty)).value

unfoldable pub infer_abilities : State → ℕ → ℕ
infer_abilities s ty = infer (count s) s ty

-- ---- ability_not_satisified_tips: the rule that decided that an ability is missing
-- the declaration lacks it; the argument at a place lacks what is needed; neither, so that a mark is contradicted
pub data Rule : Type 0 where
  declaration contradicted : Rule
  argument : ℕ → Rule

unfoldable pub by_argument : Option ℕ → Rule
by_argument place = elim place [ None ↦ contradicted | Some i ↦ argument i ]

-- of an unfolded type. What (), a reference or a parameter lacks nothing grants; `_` and `!` lack nothing
unfoldable pub rule : State → ℕ → TypeValue → Rule
rule s ability UnitType = declaration
rule s ability (Ref m t) = declaration
rule s ability (Var v) = declaration
rule s ability UnresolvedError = declaration
rule s ability Anything = declaration
rule s ability (Param id abilities) = declaration
rule s ability (Apply k n tys) = elim (has (declared_abilities s n) ability) [ false ↦ declaration | true ↦ by_argument (lacking (λ t. infer_abilities s t) s n tys (requires ability)) ]
