-- RM's four numbers, and what it gives beside them, computed. Each of the first lines is false under an edit of must-fail/ (docs/CLAIMS.md, 'Edits of the definition'). Assumes nothing.
use Rattle.std.proofs.Common.{◌≡◌, ℕ, [], ◌∷◌, ◌++◌, refl}
use Rattle.definition.specs.Write.{Bytes, u32}
use Rattle.definition.proofs.Computed.{answered}
use Rattle.definition.proofs.Spelling.{unit, any, error, imm, param, u8, vector, list, var, hex, SD, FV, RM}
use Rattle.definition.proofs.AnswersJoin.{after}
use Rattle.definition.proofs.AnswersLimits.{filled}

-- 0 with nodes, argument places, variables and constraints
abbrev pub told : ℕ → ℕ → ℕ → ℕ → ℕ × Bytes
unfolding u32
told nodes places variables constraints = (0, u32 nodes ++ u32 places ++ u32 variables ++ u32 constraints)

-- ---- the table, row by row

-- IN hands back what it reads of these
pub RM_of_unit : after [] (RM (unit 1)) ≡ told 1 0 0 0
unfolding after
RM_of_unit = refl

pub RM_of_an_error : after [] (RM (error 1)) ≡ told 1 0 0 0
unfolding after
RM_of_an_error = refl

pub RM_of_a_parameter : after [] (RM (param 1 7)) ≡ told 1 0 0 0
unfolding after
RM_of_a_parameter = refl

pub RM_of_u8 : after [] (RM (u8 1)) ≡ told 2 0 0 0
unfolding after
RM_of_u8 = refl

pub RM_of_anything : after [] (RM (any 1)) ≡ told 2 0 1 0
unfolding after
RM_of_anything = refl

pub RM_of_a_reference : after [] (RM (imm 1 (u8 2))) ≡ told 4 0 0 1
unfolding after
RM_of_a_reference = refl

pub RM_of_a_vector : after [] (RM (vector 1 (u8 2))) ≡ told 5 2 1 2
unfolding after
RM_of_a_vector = refl

-- IN merges the two variables
pub RM_of_a_vector_of_anything : after [] (RM (vector 1 (any 2))) ≡ told 9 2 3 2
unfolding after
RM_of_a_vector_of_anything = refl

pub RM_of_a_list : after [] (RM (list 1 (any 2 ∷ any 3 ∷ []))) ≡ told 16 4 6 4
unfolding after
RM_of_a_list = refl

-- two parameters, u8 and `_`
pub RM_of_a_struct : after (SD 15 (0 ∷ 0 ∷ []) ∷ []) (RM (hex "05 01000000 00 0000" ++ u8 2 ++ any 3)) ≡ told 12 4 4 4
unfolding after
RM_of_a_struct = refl

-- `_` under a reference is merged with nothing
pub RM_of_a_vector_of_a_reference : after [] (RM (vector 1 (imm 2 (any 3)))) ≡ told 7 2 2 3
unfolding after
RM_of_a_vector_of_a_reference = refl

-- ---- beside them

-- with all variables taken too in EdgeLimits: the test of so many chains is dear to compute
pub RM_needs_no_room : answered (filled 2048 4096 0 512 256) (RM (u8 1)) 4096 ≡ told 2 0 0 0
unfolding answered
RM_needs_no_room = refl

pub RM_of_a_variable_is_11 : after (FV 1 ∷ []) (RM (list 1 (u8 2 ∷ var 3 0 ∷ []))) ≡ (11, [])
unfolding after
RM_of_a_variable_is_11 = refl

-- an undeclared struct after the variable, a doubled reference, and a byte left over
pub RM_reads_the_whole_record : after (FV 1 ∷ []) (RM (list 1 (var 2 0 ∷ hex "05 03000000 00 0000" ∷ []))) ≡ (6, [])
unfolding after
RM_reads_the_whole_record = refl

pub RM_of_a_doubled_reference : after (FV 1 ∷ []) (RM (list 1 (var 2 0 ∷ imm 3 (imm 4 (u8 5)) ∷ []))) ≡ (18, [])
unfolding after
RM_of_a_doubled_reference = refl

pub RM_with_a_byte_left_over : after (FV 1 ∷ []) (RM (var 2 0) ++ (0 ∷ [])) ≡ (5, [])
unfolding after
RM_with_a_byte_left_over = refl
