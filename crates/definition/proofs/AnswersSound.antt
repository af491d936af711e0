-- 01, 'A sound state': what 15 turns down, rule by rule, and the greatest that is allowed, computed. Some lines are false under an edit of must-fail/ (docs/CLAIMS.md, 'Edits of the
-- definition'). Assumes nothing.
use Rattle.std.proofs.Common.{◌≡◌, ℕ, List, [], ◌∷◌, ◌++◌, map, replicate, false, refl}
use Rattle.std.specs.Prelude.{None, Some}
use Rattle.definition.specs.Types.{Shape, UnitType, Ref, Param, Apply, Var, Anything, Multiple, Builtin, ModuleType, Places, Node, Cell, State, Struct, Constraint, AbilityConstraint, NumericConstraint, BitsConstraint, OrderedConstraint, BaseTypeConstraint, SingleTypeConstraint}
use Rattle.definition.proofs.Computed.{answered}
use Rattle.definition.proofs.Spelling.{unit, UF}
use Rattle.definition.proofs.AnswersLimits.{filled}
use Rattle.definition.proofs.AnswersWider.{integer_types}

-- ---- states of one node, and the answer to UF of `()`: 0 if they are sound

abbrev pub tables : Node → List Cell → List Constraint → List Struct → State
tables node vars constraints structs = record { nodes = node ∷ []; args = []; vars = vars; constraints = constraints; structs = structs }

abbrev pub located : ℕ → Shape Places → State
located loc shape = tables (record { loc = loc; value = shape }) [] [] []

abbrev pub of_shape : Shape Places → State
of_shape shape = located 0 shape

-- of a builtin or a struct without arguments
abbrev pub no_places : Places
no_places = record { first = 0; many = 0 }

-- beside a node `()`
abbrev pub of_tables : List Cell → List Constraint → List Struct → State
of_tables vars constraints structs = tables (record { loc = 0; value = UnitType }) vars constraints structs

abbrev pub cell : Cell → State
cell c = of_tables (c ∷ []) [] []

abbrev pub constraint : Constraint → State
constraint c = of_tables [] (c ∷ []) []

abbrev pub declared : Struct → State
declared d = of_tables [] [] (d ∷ [])

unfoldable pub number : State → ℕ
unfolding answered
number s = (answered s (UF (unit 1)) 4096).0

-- ---- fields are as a record allows

-- sets of abilities above 15: of a mark, a parameter, a constraint, a declaration
pub set_of_a_mark_16 : number (of_shape (Apply (Some 16) (Builtin 0) no_places)) ≡ 15
unfolding number
set_of_a_mark_16 = refl

pub set_of_a_parameter_16 : number (of_shape (Param 0 16)) ≡ 15
unfolding number
set_of_a_parameter_16 = refl

pub set_of_a_constraint_16 : number (constraint (AbilityConstraint 0 0 16)) ≡ 15
unfolding number
set_of_a_constraint_16 = refl

pub set_of_a_declaration_16 : number (declared (record { abilities = 16; params = [] })) ≡ 15
unfolding number
set_of_a_declaration_16 = refl

-- locations of 2^32: of a node, a mark
pub location_past_u32 : map number (located 4294967296 UnitType ∷ cell (record { binding = None; numeric = Some 4294967296; need = 0 }) ∷ []) ≡ replicate 2 15
unfolding number
location_past_u32 = refl

-- a constraint of each kind, at a location and of a node
abbrev pub each_kind : ℕ → ℕ → List Constraint
each_kind loc ty = AbilityConstraint loc ty 0 ∷ NumericConstraint loc ty ∷ BitsConstraint loc ty ∷ OrderedConstraint loc ty ∷ BaseTypeConstraint loc ty ∷ SingleTypeConstraint loc ty ∷ []

pub constraint_past_u32 : map (λ c. number (constraint c)) (each_kind 4294967296 0) ≡ replicate 6 15
unfolding number
constraint_past_u32 = refl

pub id_past_u32 : number (of_shape (Param 4294967296 0)) ≡ 15
unfolding number
id_past_u32 = refl

-- names: a struct that is not declared, a builtin past 9, a variable that is not taken
pub struct_past_the_count : number (of_shape (Apply None (ModuleType 0) no_places)) ≡ 15
unfolding number
struct_past_the_count = refl

pub builtin_10 : number (of_shape (Apply None (Builtin 10) no_places)) ≡ 15
unfolding number
builtin_10 = refl

pub variable_past_the_count : number (of_shape (Var 0)) ≡ 15
unfolding number
variable_past_the_count = refl

-- a mark on an integer type must contain drop
pub integer_without_drop : map number (map (λ b. of_shape (Apply (Some 13) (Builtin b) no_places)) integer_types) ≡ replicate 6 15
unfolding number
integer_without_drop = refl

pub nine_parameters : number (declared (record { abilities = 0; params = replicate 9 0 })) ≡ 15
unfolding number
nine_parameters = refl

pub parameter_byte_32 : number (declared (record { abilities = 0; params = 32 ∷ [] })) ≡ 15
unfolding number
parameter_byte_32 = refl

pub constraint_of_no_node : map (λ c. number (constraint c)) (each_kind 0 1) ≡ replicate 6 15
unfolding number
constraint_of_no_node = refl

pub binding_of_no_node : number (cell (record { binding = Some 1; numeric = None; need = 0 })) ≡ 15
unfolding number
binding_of_no_node = refl

-- drop alone on each integer type, and the greatest of each field
abbrev pub allowed : List State
allowed =
    map (λ b. of_shape (Apply (Some 2) (Builtin b) no_places)) integer_types ++
    of_shape (Apply (Some 15) (Builtin 9) no_places) ∷
    located 4294967295 (Param 4294967295 15) ∷
    of_tables (record { binding = Some 0; numeric = Some 4294967295; need = 0 } ∷ []) (AbilityConstraint 4294967295 0 15 ∷ []) (record { abilities = 15; params = replicate 8 31 } ∷ []) ∷
    []

pub greatest_allowed : map number allowed ≡ replicate 9 0
unfolding number
greatest_allowed = refl

pub greatest_location_of_each_kind : map (λ c. number (constraint c)) (each_kind 4294967295 0) ≡ replicate 6 0
unfolding number
greatest_location_of_each_kind = refl

-- ---- argument places: `()`, and a list of one type whose places are `many` from 0 on

abbrev pub with_places : ℕ → List ℕ → State
with_places many args = record {
  nodes = record { loc = 0; value = UnitType } ∷ record { loc = 0; value = Apply None (Multiple 1) (record { first = 0; many = many }) } ∷ [];
  args = args;
  vars = [];
  constraints = [];
  structs = [];
}

pub place_of_no_smaller_node : number (with_places 1 (1 ∷ [])) ≡ 15
unfolding number
place_of_no_smaller_node = refl

pub place_past_the_count : number (with_places 1 []) ≡ 15
unfolding number
place_past_the_count = refl

pub two_places_of_one_type : number (with_places 2 (0 ∷ 0 ∷ [])) ≡ 15
unfolding number
two_places_of_one_type = refl

pub no_place_of_one_type : number (with_places 0 []) ≡ 15
unfolding number
no_place_of_one_type = refl

-- ---- the other rules

-- a reference to itself
pub part_not_smaller : number (of_shape (Ref false 0)) ≡ 15
unfolding number
part_not_smaller = refl

pub binding_is_anything : number (tables (record { loc = 0; value = Anything }) (record { binding = Some 0; numeric = None; need = 0 } ∷ []) [] []) ≡ 15
unfolding number
binding_is_anything = refl

-- V0 and V1 bound to each other
pub chain_never_ends : number (record {
  nodes = record { loc = 0; value = Var 0 } ∷ record { loc = 0; value = Var 1 } ∷ [];
  args = [];
  vars = record { binding = Some 1; numeric = None; need = 0 } ∷ record { binding = Some 0; numeric = None; need = 0 } ∷ [];
  constraints = [];
  structs = [];
}) ≡ 15
unfolding number
chain_never_ends = refl

-- a node, an argument place, a variable, a constraint, a struct
pub one_past_each_limit : map number (filled 2049 0 0 0 0 ∷ filled 1 4097 0 0 0 ∷ filled 0 0 1025 0 0 ∷ filled 1 0 0 513 0 ∷ filled 0 0 0 0 257 ∷ []) ≡ replicate 5 15
unfolding number
one_past_each_limit = refl
