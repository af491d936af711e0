-- Rules, what is missing, and what a constraint is refused with, as the definition has them. Assumes nothing: these are definitions.
use Rattle.std.specs.Prelude.{◌≡◌, Bool, true, false, not, ◌&&◌, ◌||◌, List, [], ◌∷◌, ℕ, ◌<◌, length, get_or}
use Rattle.std.specs.Prelude.{Result, Ok, Err, OnOk}
use Rattle.definition.specs.Types as t
use Rattle.definition.specs.Types.{Struct, ok, err, refused}
use Rattle.definition.specs.Store.{count, args_at, spanned}
use Rattle.definition.specs.Subst.{unfold_type}
use Rattle.definition.specs.Abilities as d
use Rattle.definition.specs.Abilities.{has, counts, infer_abilities, rule}
use Rattle.definition.specs.Write.{Bytes}
use Rattle.names.specs.Names.{name_of}
use Rattle.refusals.specs.Refusals.{refusal_of}
use Rattle.refusals.specs.declared.Refusal.{Refusal}
use Rattle.table.specs.Rows.{constraint_table}
use Rattle.table.specs.Did.{held}
use Rattle.table.specs.declared.state.State.{State}
use Rattle.table.specs.State.{args_of}
use Rattle.table.specs.declared.Applied.{Applied}
use Rattle.abilities.specs.Kept.{Knows, HasSet, Kept}
use Rattle.abilities.specs.declared.Rule.{Rule}
use Rattle.abilities.specs.declared.Rule.TheVariants.{Declaration, Argument, Contradicted}

abbrev pub rule_of : Rule → d.Rule
rule_of Declaration = d.declaration
rule_of (Argument i) = d.argument i
rule_of Contradicted = d.contradicted

abbrev pub RuleIn : Rule → Type 0
RuleIn Declaration = Unit {0}
RuleIn (Argument i) = i < 8
RuleIn Contradicted = Unit {0}

-- argument i counts and lacks what is needed
abbrev pub lacks_at : t.State → Applied → ℕ → ℕ → Bool
lacks_at s a needed i = counts s (name_of a.n) i && not (has (infer_abilities s (get_or (args_at s (args_of a)) i 0)) needed)

-- the ability is asked for, and the type has it not
abbrev pub misses : t.State → ℕ → ℕ → ℕ → Bool
misses s ty asked ability = has asked ability && not (has (infer_abilities s ty) ability)

unfoldable pub any_misses : t.State → ℕ → ℕ → Bool
any_misses s ty asked = misses s ty asked 1 || (misses s ty asked 2 || (misses s ty asked 4 || misses s ty asked 8))

unfoldable pub is_contradicted : d.Rule → Bool
is_contradicted r = elim r [ d.declaration ↦ false | d.argument place ↦ false | d.contradicted ↦ true ]

-- neither the declaration nor an argument takes the ability away
abbrev pub clashes : t.State → ℕ → ℕ → Bool
clashes s ty ability = is_contradicted (rule s ability (unfold_type s (spanned s ty)).value)

-- ---- of a constraint: only those that ask for abilities matter here

-- its type is a node
abbrev pub AskedIn : ℕ → t.Constraint → Type 0
AskedIn n (t.AbilityConstraint loc ty a) = ty < n
AskedIn n (t.NumericConstraint loc ty) = Unit {0}
AskedIn n (t.BitsConstraint loc ty) = Unit {0}
AskedIn n (t.OrderedConstraint loc ty) = Unit {0}
AskedIn n (t.BaseTypeConstraint loc ty) = Unit {0}
AskedIn n (t.SingleTypeConstraint loc ty) = Unit {0}

-- the set of its type is known
abbrev pub AskedKept : List ℕ → t.Constraint → Type 0
AskedKept sets (t.AbilityConstraint loc ty a) = HasSet sets ty
AskedKept sets (t.NumericConstraint loc ty) = Unit {0}
AskedKept sets (t.BitsConstraint loc ty) = Unit {0}
AskedKept sets (t.OrderedConstraint loc ty) = Unit {0}
AskedKept sets (t.BaseTypeConstraint loc ty) = Unit {0}
AskedKept sets (t.SingleTypeConstraint loc ty) = Unit {0}

-- each type that is asked for abilities is a node, as in a sound state
unfoldable pub AllAsked : t.State → Type 0
AllAsked s = (i : ℕ) → i < length s.constraints → AskedIn (count s) (get_or s.constraints i constraint_table.blank)

-- the set of each type that is asked for abilities is known
unfoldable pub AllKept : List ℕ → List t.Constraint → Type 0
AllKept sets cs = (i : ℕ) → i < length cs → AskedKept sets (get_or cs i constraint_table.blank)

unfoldable pub asks_abilities : t.Constraint → Bool
asks_abilities (t.AbilityConstraint loc ty a) = true
asks_abilities (t.NumericConstraint loc ty) = false
asks_abilities (t.BitsConstraint loc ty) = false
asks_abilities (t.OrderedConstraint loc ty) = false
asks_abilities (t.BaseTypeConstraint loc ty) = false
asks_abilities (t.SingleTypeConstraint loc ty) = false

unfoldable pub any_asks : List t.Constraint → Bool
any_asks [] = false
any_asks (c ∷ cs) = elim (asks_abilities c) [ true ↦ true | false ↦ any_asks cs ]

-- ---- what is refused, and what bytes are given otherwise

unfoldable pub bytes_of : t.Result Bytes → Bytes
bytes_of (ok bytes) = bytes
bytes_of (err s e) = []
bytes_of (refused x) = []

-- nothing is refused
abbrev pub Given : t.Result Bytes → Type 0
Given m = m ≡ ok (bytes_of m)

abbrev pub Meets : Result (Unit {0}) Refusal → t.Result Bytes → Type 0
Meets (Ok x) m = Given m
Meets (Err x) m = m ≡ refused (refusal_of x)

-- the answer meets what `o` comes to, and what was kept is; where nothing is refused, what `whole` says of the table is so
pub record Checked (s : State) (params : List (List ℕ)) (sets sets' : List ℕ) (r : Result (Unit {0}) Refusal) (o : t.State → t.Result Bytes) (whole : List ℕ → Type 0) : Type 0 where
  pub kept : Kept s params sets'
  pub still : (x : ℕ) → HasSet sets x → HasSet sets' x
  pub is : (ds : List Struct) → Knows s params ds → Meets r (o (held s ds))
  pub all : OnOk r (whole sets')
