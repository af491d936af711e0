-- XP's types and codes, computed: R-5's worked values, each arm of type_, 9 and 17 and their order. Assumes nothing.
use Rattle.std.proofs.Common.{◌≡◌, ℕ, [], ◌∷◌, ◌++◌, refl}
use Rattle.definition.specs.Types.{fresh}
use Rattle.definition.specs.Write.{Bytes, u32}
use Rattle.definition.proofs.Computed.{answered, left_by}
use Rattle.definition.proofs.Spelling.{at, any, error, unit, imm, u8, vector, list, var, hex, SD, FV, JN, XP}
use Rattle.definition.proofs.AnswersJoin.{after}
use Rattle.definition.proofs.AnswersLimits.{filled}
use Rattle.definition.proofs.AnswersSolve.{struct, marked, signer, circle}

-- a list of one with a mark byte
abbrev pub marked_list : ℕ → ℕ → Bytes → Bytes
marked_list loc mark t = at 4 loc ++ (mark ∷ 1 ∷ t)

abbrev pub code : ℕ → Bytes
unfolding u32
code loc = 5 ∷ u32 loc

-- ---- worked values

pub open_becomes_error : after (FV 1 ∷ []) (XP (vector 2 (var 9 0))) ≡ (0, hex "03 02000000 17 05 08 09000000 05 09000000")
unfolding after
open_becomes_error = refl

-- one phantom parameter; V0 holds a vector
pub phantom_replaced : after (SD 15 (16 ∷ []) ∷ FV 1 ∷ JN (var 5 0) (vector 3 (u8 4)) ∷ []) (XP (struct 6 0 0 (var 7 0 ∷ [])))
    ≡ (0, hex "05 06000000 1f 0000 03 03000000 17 05 03 04000000 17 02")
unfolding after
phantom_replaced = refl

pub anything_stays : after [] (XP (list 8 (any 4 ∷ signer 7 ∷ []))) ≡ (0, hex "04 08000000 12 02 07 04000000 03 07000000 12 01")
unfolding after
anything_stays = refl

-- ---- variables

-- V0 and V1 are merged: the location is that of the occurrence, a code for each
pub code_at_the_occurrence : after (FV 1 ∷ FV 2 ∷ JN (var 3 0) (var 4 1) ∷ []) (XP (list 5 (var 6 0 ∷ var 7 1 ∷ [])))
    ≡ (0, hex "04 05000000 17 02" ++ error 6 ++ error 7 ++ code 6 ++ code 7)
unfolding after
code_at_the_occurrence = refl

-- inside a binding: the location that it has there
pub code_inside_a_binding : after (FV 1 ∷ FV 2 ∷ JN (var 3 0) (vector 4 (var 5 1)) ∷ []) (XP (var 6 0)) ≡ (0, marked 4 23 5 (error 5 ∷ []) ++ code 5)
unfolding after
code_inside_a_binding = refl

pub anything_in_a_binding_stays : after (FV 1 ∷ JN (var 3 0) (vector 4 (any 5)) ∷ []) (XP (var 6 0)) ≡ (0, marked 4 23 5 (any 5 ∷ []))
unfolding after
anything_in_a_binding_stays = refl

-- a struct declared with all abilities, of an unbound argument
pub open_argument_has_all : after (SD 15 (0 ∷ []) ∷ FV 1 ∷ []) (XP (struct 2 0 0 (var 3 0 ∷ []))) ≡ (0, struct 2 31 0 (error 3 ∷ []) ++ code 3)
unfolding after
open_argument_has_all = refl

pub reference_of_an_open : after (FV 1 ∷ []) (XP (imm 2 (var 3 0))) ≡ (0, imm 2 (error 3) ++ code 3)
unfolding after
reference_of_an_open = refl

-- a doubled reference by a binding is shown
pub doubled_by_a_binding : after (FV 1 ∷ JN (var 2 0) (imm 3 (u8 4)) ∷ []) (XP (imm 5 (var 6 0))) ≡ (0, imm 5 (imm 3 (marked 4 23 2 [])))
unfolding after
doubled_by_a_binding = refl

-- ---- marks

-- the mark stays, the argument is expanded
pub marked_builtin_kept : after [] (XP (marked 1 16 5 (u8 2 ∷ []))) ≡ (0, marked 1 16 5 (marked 2 23 2 [] ∷ []))
unfolding after
marked_builtin_kept = refl

pub marked_list_is_17 : after [] (XP (marked_list 1 16 (u8 2))) ≡ (17, [])
unfolding after
marked_list_is_17 = refl

pub marked_struct_is_17 : after (SD 15 [] ∷ []) (XP (list 1 (u8 2 ∷ struct 3 31 0 [] ∷ []))) ≡ (17, [])
unfolding after
marked_struct_is_17 = refl

-- under a marked vector, and in a phantom argument
pub seventeen_below_a_mark : after [] (XP (marked 1 23 5 (marked_list 2 23 (u8 3) ∷ []))) ≡ (17, [])
unfolding after
seventeen_below_a_mark = refl

pub seventeen_in_phantom : after (SD 15 (16 ∷ []) ∷ FV 1 ∷ JN (var 2 0) (marked_list 3 23 (u8 4)) ∷ []) (XP (struct 5 0 0 (var 6 0 ∷ []))) ≡ (17, [])
unfolding after
seventeen_in_phantom = refl

-- XP of an answer
pub expanded_list_is_17 : after [] (XP (list 8 (any 4 ∷ []))) ≡ (0, marked_list 8 23 (any 4))
unfolding after
expanded_list_is_17 = refl

-- ---- 9, 7, the state

pub nine_before_17 : after (circle 0 1) (XP (list 1 (marked_list 2 23 (u8 3) ∷ var 4 0 ∷ []))) ≡ (9, [])
unfolding after
nine_before_17 = refl

pub nine_under_a_marked_list : after (circle 0 1) (XP (marked_list 2 23 (var 4 0))) ≡ (9, [])
unfolding after
nine_under_a_marked_list = refl

pub XP_without_a_node_is_7 : answered (filled 2048 0 0 0 0) (XP (unit 1)) 4096 ≡ (7, [])
unfolding answered
XP_without_a_node_is_7 = refl

pub seven_before_17 : answered (filled 2047 0 0 0 0) (XP (marked_list 1 23 (unit 2))) 4096 ≡ (7, [])
unfolding answered
seven_before_17 = refl

-- one node for reading, none beyond it
pub XP_takes_reading_only : answered (filled 2047 0 0 0 0) (XP (u8 1)) 4096 ≡ (0, marked 1 23 2 [])
unfolding answered
XP_takes_reading_only = refl

pub XP_gives_nodes_back : left_by fresh (XP (vector 1 (u8 2)) ∷ []) ≡ fresh
unfolding left_by
XP_gives_nodes_back = refl
