-- What a constraint asks, and a failure, as the definition has them in bytes. Assumes nothing: these are definitions.
use Rattle.std.specs.Prelude.{◌≡◌, Bool, List, [], ◌∷◌, ℕ, ◌<◌, Option, None, Some}
use Rattle.definition.specs.Types as d
use Rattle.definition.specs.Types.{State, Struct, TypeValue}
use Rattle.definition.specs.Store.{spanned}
use Rattle.definition.specs.Constraints.{is_integer, is_base, is_single, failure, ability_failure, solve}
use Rattle.definition.specs.Write.{Bytes}
use Rattle.table.specs.State.{FoundIn}
use Rattle.table.specs.Did.{held}
use Rattle.table.specs.declared.state.State as table
use Rattle.failing.specs.declared.Wanted.{Wanted}
use Rattle.failing.specs.declared.Wanted.TheVariants.{Integer, Base, Single}
use Rattle.failing.specs.declared.Ask.{Ask}
use Rattle.failing.specs.declared.Failing.{Failing}
use Rattle.failing.specs.declared.Failing.TheVariants.{Node, Anything, Lacks}

abbrev pub code_of : Wanted → ℕ
code_of Integer = 1
code_of Base = 2
code_of Single = 3

unfoldable pub good : Wanted → TypeValue → Bool
good Integer value = is_integer value
good Base value = is_base value
good Single value = is_single value

-- what a constraint that asks for no abilities fails with
unfoldable pub plain : State → d.Constraint → Bytes
plain s (d.AbilityConstraint loc ty a) = []
plain s (d.NumericConstraint loc ty) = solve s is_integer 1 loc ty
plain s (d.BitsConstraint loc ty) = solve s is_integer 1 loc ty
plain s (d.OrderedConstraint loc ty) = solve s is_integer 1 loc ty
plain s (d.BaseTypeConstraint loc ty) = solve s is_base 2 loc ty
plain s (d.SingleTypeConstraint loc ty) = solve s is_single 3 loc ty

-- what an ask comes to: nothing is asked, nothing fails
unfoldable pub ask : State → Option Ask → Bytes
ask s None = []
ask s (Some a) = solve s (good a.what) (code_of a.what) a.loc a.ty

-- the node of a constraint
abbrev pub ty_of : d.Constraint → ℕ
ty_of (d.AbilityConstraint loc ty a) = ty
ty_of (d.NumericConstraint loc ty) = ty
ty_of (d.BitsConstraint loc ty) = ty
ty_of (d.OrderedConstraint loc ty) = ty
ty_of (d.BaseTypeConstraint loc ty) = ty
ty_of (d.SingleTypeConstraint loc ty) = ty

-- its node is below n, as in a sound state
abbrev pub TyIn : ℕ → d.Constraint → Type 0
TyIn n c = ty_of c < n

abbrev pub AskIn : Option Ask → d.Constraint → Type 0
AskIn None c = Unit {0}
AskIn (Some a) c = a.ty ≡ ty_of c

-- the constraint asks so
pub record Asks (r : Option Ask) (c : d.Constraint) : Type 0 where
  pub ty_is : AskIn r c
  pub is : (s : State) → ask s r ≡ plain s c

-- the rule: the declaration, or the argument at a place
abbrev pub why : Option ℕ → Bytes
why None = 1 ∷ []
why (Some place) = 2 ∷ place ∷ []

-- a failure in bytes
abbrev pub failing : Failing → State → Bytes
failing (Node what loc t) s = failure s (code_of what) loc (spanned s t)
failing (Anything what loc at) s = failure s (code_of what) loc (record { loc = at; value = d.Anything })
failing (Lacks loc ability t place) s = ability_failure s loc ability (spanned s t) (why place)

-- the type that it names is a node; a place is one of eight
abbrev pub FailingIn : ℕ → Failing → Type 0
FailingIn n (Node what loc t) = t < n
FailingIn n (Anything what loc at) = Unit {0}
FailingIn n (Lacks loc ability t place) = (t < n) × FoundIn 8 place

-- .. if there is one
abbrev pub report : Option Failing → State → Bytes
report None s = []
report (Some f) s = failing f s

abbrev pub ReportIn : ℕ → Option Failing → Type 0
ReportIn n None = Unit {0}
ReportIn n (Some f) = FailingIn n f

-- the constraint fails so in the state s, whatever the declarations are
pub record Fails (s : table.State) (r : Option Failing) (c : d.Constraint) : Type 0 where
  pub is : (ds : List Struct) → report r (held s ds) ≡ plain (held s ds) c
  pub inside : ReportIn s.used.nodes r
