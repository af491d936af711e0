-- Records other than JN and SU, and what they leave in the state, computed. Each line is false under an edit of must-fail/ (docs/CLAIMS.md, 'Edits of the definition'). Assumes nothing.
use Rattle.std.proofs.Common.{◌≡◌, ℕ, zero, suc, [], ◌∷◌, ◌++◌, map, refl}
use Rattle.std.specs.Prelude.{Some}
use Rattle.definition.specs.Types.{Var, unbound, State, fresh, AbilityConstraint, BaseTypeConstraint}
use Rattle.definition.specs.Store.{count, get, num_loc}
use Rattle.definition.specs.Write.{Bytes}
use Rattle.definition.proofs.Computed.{left_by}
use Rattle.definition.proofs.Spelling.{unit, any, error, imm, param, u8, default_u64, vector, list, var, hex, text, SD, FV, NV, UF, JN, RD, IN, TS, SV, BC, SC}
use Rattle.definition.proofs.AnswersJoin.{after}

-- ---- reading

pub variable_not_taken_is_6 : after [] (UF (var 1 0)) ≡ (6, [])
unfolding after
variable_not_taken_is_6 = refl

-- u8 with an empty set of abilities
pub integer_without_drop_is_5 : after [] (UF (hex "03 01000000 10 02")) ≡ (5, [])
unfolding after
integer_without_drop_is_5 = refl

pub byte_left_over_is_5 : after [] (FV 1 ++ (0 ∷ [])) ≡ (5, [])
unfolding after
byte_left_over_is_5 = refl

-- ---- FV, SN

pub variable_at_any_location : after (FV 1 ∷ []) (FV 1001) ≡ (0, var 1001 1)
unfolding after
variable_at_any_location = refl

-- V0, marked at 4 and bound to V1
abbrev pub older_mark : State
older_mark = record {
  nodes = record { loc = 0; value = Var 1 } ∷ [];
  args = [];
  vars = record { binding = Some 0; numeric = Some 4; need = 0 } ∷ unbound ∷ [];
  constraints = [];
  structs = [];
}

pub SN_keeps_the_older_mark : map (num_loc (left_by older_mark ((text "SN" ++ hex "0000 05000000") ∷ []))) (0 ∷ 1 ∷ []) ≡ Some 4 ∷ Some 5 ∷ []
unfolding left_by
SN_keeps_the_older_mark = refl

pub SN_shows_nothing : after (FV 1 ∷ []) (text "SN" ++ hex "0000 e9030000") ≡ (0, [])
unfolding after
SN_shows_nothing = refl

-- ---- UF, RD, TS, IN

pub UF_gives_nodes_back : count (left_by fresh (UF (u8 1) ∷ [])) ≡ 0
unfolding left_by
UF_gives_nodes_back = refl

-- as many levels as nodes
pub RD_reads_every_level : after [] (RD (vector 1 (u8 2))) ≡ (0, vector 1 (u8 2))
unfolding after
RD_reads_every_level = refl

pub RD_of_anything : after [] (RD (any 1)) ≡ (0, any 1)
unfolding after
RD_of_anything = refl

-- a type without variables as it is
pub RD_shows_the_type : map (λ t. after [] (RD t)) (unit 1 ∷ any 1 ∷ error 1 ∷ param 1 7 ∷ []) ≡ map (λ t. (0, t)) (unit 1 ∷ any 1 ∷ error 1 ∷ param 1 7 ∷ [])
unfolding after
RD_shows_the_type = refl

-- a type without parameters as it is
pub TS_shows_the_type : map (λ t. after [] (TS [] t)) (unit 1 ∷ any 1 ∷ error 1 ∷ []) ≡ map (λ t. (0, t)) (unit 1 ∷ any 1 ∷ error 1 ∷ [])
unfolding after
TS_shows_the_type = refl

-- V0 ends in V5, by V4, and so does V2; V3 ends in itself
pub RD_of_open_ends : after (FV 1 ∷ FV 2 ∷ FV 3 ∷ FV 4 ∷ JN (var 5 0) (var 6 1) ∷ JN (var 7 4) (var 8 2) ∷ []) (RD (list 9 (var 10 0 ∷ var 11 3 ∷ var 12 2 ∷ [])))
    ≡ (0, list 9 (var 10 5 ∷ var 11 3 ∷ var 12 5 ∷ []))
unfolding after
RD_of_open_ends = refl

-- `!` and a parameter are handed back: their one node is the one read
pub IN_of_an_error : count (left_by fresh (IN (error 1) ∷ [])) ≡ 1
unfolding left_by
IN_of_an_error = refl

pub IN_of_a_parameter : count (left_by fresh (IN (param 1 7) ∷ [])) ≡ 1
unfolding left_by
IN_of_a_parameter = refl

pub IN_of_anything : after [] (IN (any 1)) ≡ (0, var 1 0)
unfolding after
IN_of_anything = refl

abbrev pub lists : ℕ → Bytes
lists zero = unit 0
lists (suc n) = list 0 (lists n ∷ [])

-- the deepest type that a record has
pub IN_of_nesting_64 : after [] (IN (lists 63)) ≡ (0, list 0 (var 0 0 ∷ []))
unfolding after
IN_of_nesting_64 = refl

-- a struct whose phantom parameter wants all abilities, with u8
pub no_phantom_bit_asked : (left_by fresh (SD 15 (31 ∷ []) ∷ IN (hex "05 01000000 00 0000" ++ u8 2) ∷ [])).constraints ≡ AbilityConstraint 1 2 15 ∷ BaseTypeConstraint 1 2 ∷ []
unfolding left_by
no_phantom_bit_asked = refl

-- ---- constraints and SV

pub constraint_of_the_type_read : (left_by fresh (FV 1 ∷ BC 2 (u8 3) ∷ [])).constraints ≡ BaseTypeConstraint 2 0 ∷ []
unfolding left_by
constraint_of_the_type_read = refl

-- a struct whose parameter wants no abilities, with u8: an ability constraint and two base constraints
pub no_constraint_stays : (left_by fresh (SD 0 (0 ∷ []) ∷ IN (hex "05 01000000 00 0000" ++ u8 2) ∷ BC 3 (u8 4) ∷ SV ∷ [])).constraints ≡ []
unfolding left_by
no_constraint_stays = refl

pub reference_is_single : after (SC 1 (imm 2 (u8 3)) ∷ []) SV ≡ (0, [])
unfolding after
reference_is_single = refl

-- V0 and V1 end in V2. Arm 9 with u64 to the left: the fresh V3 is bound to the first of the merge's two nodes, V2 to the second
pub u64_is_the_left_operand : map (get (left_by fresh (NV 8 ∷ NV 9 ∷ JN (var 1 0) (var 2 1) ∷ SV ∷ []))) (2 ∷ 3 ∷ []) ≡ Some 10 ∷ Some 9 ∷ []
unfolding left_by get
u64_is_the_left_operand = refl

-- with copy, drop and store, at the mark's location
pub undecided_becomes_u64 : after (NV 9 ∷ SV ∷ []) (UF (var 1 0)) ≡ (0, default_u64 9)
unfolding after
undecided_becomes_u64 = refl
