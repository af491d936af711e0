-- 01, 'One join, followed down', rule by rule on small types, computed. Each line is false under an edit of must-fail/ (docs/CLAIMS.md, 'Edits of the definition'). Assumes nothing.
use Rattle.std.proofs.Common.{◌≡◌, ℕ, List, [], ◌∷◌, ◌++◌, refl}
use Rattle.std.specs.Prelude.{Some}
use Rattle.definition.specs.Types.{fresh}
use Rattle.definition.specs.Store.{num_loc}
use Rattle.definition.specs.Write.{Bytes, u32}
use Rattle.definition.proofs.Computed.{answered, left_by}
use Rattle.definition.proofs.Spelling.{unit, any, error, imm, mut, param, u8, bool, vector, list, var, hex, text, FV, NV, JN, SU, UF}

-- the answer to a record after others, from a fresh state
unfoldable pub after : List Bytes → Bytes → ℕ × Bytes
unfolding answered left_by
after rs r = answered (left_by fresh rs) r 4096

-- ---- types without variables

pub equal_types : after [] (JN (u8 1) (u8 2)) ≡ (0, u8 2)
unfolding after
equal_types = refl

-- two units and two parameters of one id: the right
pub units_give_right : after [] (JN (unit 1) (unit 2)) ≡ (0, unit 2)
unfolding after
units_give_right = refl

pub parameters_give_right : after [] (JN (param 1 7) (param 2 7)) ≡ (0, param 2 7)
unfolding after
parameters_give_right = refl

pub anything_left_gives_right : after [] (JN (any 1) (u8 2)) ≡ (0, u8 2)
unfolding after
anything_left_gives_right = refl

pub anything_right_gives_left : after [] (JN (u8 1) (any 2)) ≡ (0, u8 1)
unfolding after
anything_right_gives_left = refl

pub error_left_gives_right : after [] (JN (error 1) (u8 2)) ≡ (0, u8 2)
unfolding after
error_left_gives_right = refl

pub error_right_gives_left : after [] (JN (u8 1) (error 2)) ≡ (0, u8 1)
unfolding after
error_right_gives_left = refl

pub mut_and_imm_join_imm : after [] (JN (mut 1 (u8 2)) (imm 3 (u8 4))) ≡ (0, imm 3 (u8 4))
unfolding after
mut_and_imm_join_imm = refl

pub mut_and_mut_join_mut : after [] (JN (mut 1 (u8 2)) (mut 3 (u8 4))) ≡ (0, mut 3 (u8 4))
unfolding after
mut_and_mut_join_mut = refl

pub imm_for_mut_is_1 : after [] (SU (imm 1 (u8 2)) (mut 3 (u8 4))) ≡ (1, imm 1 (u8 2) ++ mut 3 (u8 4))
unfolding after
imm_for_mut_is_1 = refl

pub mut_for_imm_is_0 : after [] (SU (mut 1 (u8 2)) (imm 3 (u8 4))) ≡ (0, imm 3 (u8 4))
unfolding after
mut_for_imm_is_0 = refl

pub names_differ_is_2 : after [] (JN (u8 1) (bool 2)) ≡ (2, u8 1 ++ bool 2)
unfolding after
names_differ_is_2 = refl

pub counts_differ_is_3 : after [] (JN (list 1 (u8 2 ∷ [])) (list 3 [])) ≡ (3, list 1 (u8 2 ∷ []) ++ list 3 [])
unfolding after
counts_differ_is_3 = refl

-- the left list's argument to the left
pub arguments_side_by_side : after [] (JN (list 1 (u8 2 ∷ [])) (list 3 (u8 4 ∷ []))) ≡ (0, list 3 (u8 4 ∷ []))
unfolding after
arguments_side_by_side = refl

-- address with copy, and with drop
pub marks_differ_is_10 : after [] (JN (hex "03 01000000 11 00") (hex "03 02000000 12 00")) ≡ (10, [])
unfolding after
marks_differ_is_10 = refl

pub ids_differ_is_2 : after [] (JN (param 1 7) (param 2 8)) ≡ (2, param 1 7 ++ param 2 8)
unfolding after
ids_differ_is_2 = refl

-- ---- variables

-- the second of a merge's two bindings is the result
pub result_at_right_location : after (FV 1 ∷ FV 2 ∷ []) (JN (var 3 0) (var 4 1)) ≡ (0, var 4 2)
unfolding after
result_at_right_location = refl

-- V0 and V1 become V2: were it bound to `_`, the state would be unsound
pub anything_not_stored : after (FV 1 ∷ FV 2 ∷ JN (var 3 0) (var 4 1) ∷ []) (UF (var 5 2)) ≡ (0, any 5)
unfolding after
anything_not_stored = refl

pub both_ends_bound : after (FV 1 ∷ FV 2 ∷ JN (var 3 0) (var 4 1) ∷ JN (var 5 0) (u8 6) ∷ []) (UF (var 7 1)) ≡ (0, u8 6)
unfolding after
both_ends_bound = refl

pub mark_at_its_location : num_loc (left_by fresh (NV 9 ∷ [])) 0 ≡ Some 9
unfolding left_by
mark_at_its_location = refl

pub second_mark_kept : num_loc (left_by fresh (NV 5 ∷ NV 9 ∷ JN (var 1 0) (var 2 1) ∷ [])) 2 ≡ Some 9
unfolding left_by
second_mark_kept = refl

-- SN of V0, then V2 with bool
pub whole_chain_marked : after (FV 1 ∷ FV 2 ∷ JN (var 3 0) (var 4 1) ∷ (text "SN" ++ hex "0000 07000000") ∷ []) (JN (var 5 2) (bool 6)) ≡ (2, var 5 2 ++ bool 6)
unfolding after
whole_chain_marked = refl

-- the join that fails takes V1 and V2
pub counter_stays_after_2 : after (FV 1 ∷ JN (var 2 0) (u8 3) ∷ JN (var 4 0) (bool 5) ∷ []) (FV 6) ≡ (0, var 6 3)
unfolding after
counter_stays_after_2 = refl

-- m9
pub merge_that_binds_itself_is_4 : after (FV 8 ∷ FV 9 ∷ JN (var 1 0) (vector 2 (var 3 1)) ∷ JN (var 4 1) (vector 5 (var 6 0)) ∷ []) (JN (var 1 0) (var 4 1)) ≡ (4, u32 6)
unfolding after
merge_that_binds_itself_is_4 = refl

-- a numeric variable with one bound to bool
pub equal_locations_still_2 : after (NV 1 ∷ FV 2 ∷ JN (var 3 1) (bool 4) ∷ []) (JN (var 5 0) (var 5 1)) ≡ (2, var 5 0 ++ bool 4)
unfolding after
equal_locations_still_2 = refl
