-- CN's spelling, computed. Assumes nothing.
use mathlib.Core.Path.{◌≡◌, refl}
use Rattle.std.proofs.Common.{List, [], ◌∷◌, ◌++◌}
use Rattle.definition.specs.Types.{fresh}
use Rattle.definition.specs.Write.{Bytes}
use Rattle.definition.proofs.Computed.{answered, left_by}
use Rattle.definition.proofs.Spelling.{imm, u8, vector, list, var, hex, text, SD, FV, JN}
use Rattle.definition.proofs.AnswersJoin.{after}
use Rattle.definition.proofs.AnswersLimits.{filled}
use Rattle.definition.proofs.AnswersSolve.{struct, circle}

abbrev pub CN : Bytes → Bytes
CN t = text "CN" ++ t

abbrev pub three : List Bytes
three = FV 1 ∷ FV 2 ∷ FV 3 ∷ []

-- ---- the worked value: V0 holds (V2, V1, V2)
pub by_first_appearance : after (three ++ (JN (var 4 0) (list 5 (var 7 2 ∷ var 8 1 ∷ var 9 2 ∷ [])) ∷ [])) (CN (var 4 0))
    ≡ (0, hex "04 00000000 00 03 06 00000000 0000 06 00000000 0100 06 00000000 0000")
unfolding after
by_first_appearance = refl

pub left_before_right : after three (CN (list 1 (vector 2 (var 3 2) ∷ var 4 0 ∷ var 5 2 ∷ [])))
    ≡ (0, list 0 (vector 0 (var 0 0) ∷ var 0 1 ∷ var 0 0 ∷ []))
unfolding after
left_before_right = refl

-- V0 and V1 end in one variable
pub one_chain_one_number : after (three ++ (JN (var 4 0) (var 5 1) ∷ [])) (CN (list 1 (var 2 0 ∷ var 3 2 ∷ var 4 1 ∷ []))) ≡ (0, list 0 (var 0 0 ∷ var 0 1 ∷ var 0 0 ∷ []))
unfolding after
one_chain_one_number = refl

-- a renaming that is not one-to-one is seen
pub two_variables_are_two : after three (CN (list 1 (var 2 1 ∷ var 3 2 ∷ []))) ≡ (0, list 0 (var 0 0 ∷ var 0 1 ∷ []))
unfolding after
two_variables_are_two = refl

-- a mark, a parameter's id and abilities, a reference, a struct's number stay
pub all_but_locations : after (SD 15 [] ∷ SD 15 (0 ∷ []) ∷ []) (CN (imm 9 (struct 8 31 1 (hex "02 07000000 05000000 03" ∷ [])))) ≡ (0, imm 0 (struct 0 31 1 (hex "02 00000000 05000000 03" ∷ [])))
unfolding after
all_but_locations = refl

pub again : after three (CN (list 0 (var 0 0 ∷ var 0 1 ∷ var 0 0 ∷ []))) ≡ (0, list 0 (var 0 0 ∷ var 0 1 ∷ var 0 0 ∷ []))
unfolding after
again = refl

-- ---- RD's refusals
pub CN_of_a_circle_is_9 : after (circle 0 1) (CN (var 1 0)) ≡ (9, [])
unfolding after
CN_of_a_circle_is_9 = refl

-- u8 is read and built
pub CN_needs_two_nodes : answered (filled 2047 0 0 0 0) (CN (u8 1)) 4096 ≡ (7, [])
unfolding answered
CN_needs_two_nodes = refl

pub CN_gives_nodes_back : left_by fresh (CN (u8 1) ∷ []) ≡ fresh
unfolding left_by
CN_gives_nodes_back = refl
