-- The failures of a constraint in four rows, one for each ability. Assumes nothing: these are definitions.
use Rattle.std.specs.Prelude.{◌≡◌, ℕ, ◌<◌, true, List, [], length, ◌==◌, slice_index_or, if◌then◌else◌, Option}
use Rattle.definition.specs.Types as d
use Rattle.definition.specs.Types.{Struct}
use Rattle.definition.specs.Store.{spanned}
use Rattle.definition.specs.Subst.{unfold_type}
use Rattle.definition.specs.Abilities.{all, has, rule}
use Rattle.definition.specs.Constraints.{by_rule}
use Rattle.definition.specs.Write.{Bytes}
use Rattle.table.specs.Rows.{constraint_table}
use Rattle.table.specs.Did.{held}
use Rattle.table.specs.declared.state.State.{State}
use Rattle.abilities.specs.Kept.{HasSet, Kept, Knows}
use Rattle.abilities.specs.Rules.{bytes_of, misses}
use Rattle.failing.specs.declared.Failing.{Failing}
use Rattle.failing.specs.Failing.{plain, report, ReportIn}

-- the failure for one ability, where it is not refused
unfoldable pub lack : d.State → ℕ → ℕ → ℕ → ℕ → Bytes
lack s loc ty asked ability =
    if misses s ty asked ability
    then bytes_of (by_rule s loc ability (unfold_type s (spanned s ty)) (rule s ability (unfold_type s (spanned s ty)).value))
    else []

-- the failures of a constraint in four rows, one for each ability; one that asks for none has its failure in the first
unfoldable pub row : d.State → d.Constraint → ℕ → Bytes
row s (d.AbilityConstraint loc ty asked) ability = lack s loc ty asked ability
row s (d.NumericConstraint loc ty) ability = if ability == 1 then plain s (d.NumericConstraint loc ty) else []
row s (d.BitsConstraint loc ty) ability = if ability == 1 then plain s (d.BitsConstraint loc ty) else []
row s (d.OrderedConstraint loc ty) ability = if ability == 1 then plain s (d.OrderedConstraint loc ty) else []
row s (d.BaseTypeConstraint loc ty) ability = if ability == 1 then plain s (d.BaseTypeConstraint loc ty) else []
row s (d.SingleTypeConstraint loc ty) ability = if ability == 1 then plain s (d.SingleTypeConstraint loc ty) else []

-- copy, drop, store or key
pub record IsAbility (ability : ℕ) : Type 0 where
  pub some_bit : 0 < ability
  pub in_all : has all ability ≡ true

-- the row is this in the state s, with the declarations that its words and the bytes hold
pub record Lacking (s : State) (params : List (List ℕ)) (r : Option Failing) (f : d.State → Bytes) : Type 0 where
  pub is : (ds : List Struct) → Knows s params ds → report r (held s ds) ≡ f (held s ds)
  pub inside : ReportIn s.used.nodes r

-- what is kept of the types serves a constraint: the set of the type that it asks for abilities is known
abbrev pub AskedReady : State → List (List ℕ) → List ℕ → d.Constraint → Type 0
AskedReady s params sets (d.AbilityConstraint loc ty a) = Kept s params sets × HasSet sets ty
AskedReady s params sets (d.NumericConstraint loc ty) = Unit {0}
AskedReady s params sets (d.BitsConstraint loc ty) = Unit {0}
AskedReady s params sets (d.OrderedConstraint loc ty) = Unit {0}
AskedReady s params sets (d.BaseTypeConstraint loc ty) = Unit {0}
AskedReady s params sets (d.SingleTypeConstraint loc ty) = Unit {0}

-- .. and each of a list
unfoldable pub AllReady : State → List (List ℕ) → List ℕ → List d.Constraint → Type 0
AllReady s params sets cs = (i : ℕ) → i < length cs → AskedReady s params sets (slice_index_or cs i constraint_table.blank)
