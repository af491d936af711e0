-- 01, 'One join, followed down': the arms in their order, computed on types that two arms would take, and a variable to the left and to the right. Assumes nothing.
use Rattle.std.proofs.Common.{◌≡◌, [], ◌∷◌, ◌++◌, map, refl}
use Rattle.definition.specs.Write.{u32}
use Rattle.definition.proofs.Spelling.{unit, any, error, imm, mut, u8, bool, vector, list, var, hex, FV, NV, JN, SU, UF}
use Rattle.definition.proofs.AnswersJoin.{after}

-- ---- `_` and `!`

pub both_give_the_right : map (after []) (JN (any 1) (any 2) ∷ JN (error 1) (error 2) ∷ []) ≡ (0, any 2) ∷ (0, error 2) ∷ []
unfolding after
both_give_the_right = refl

pub anything_before_error : map (after []) (JN (any 1) (error 2) ∷ JN (error 1) (any 2) ∷ []) ≡ (0, error 2) ∷ (0, error 1) ∷ []
unfolding after
anything_before_error = refl

-- beside a bound variable, which takes no other
pub anything_before_variables : after (FV 1 ∷ JN (var 2 0) (u8 3) ∷ JN (var 4 0) (any 5) ∷ JN (any 6) (var 7 0) ∷ []) (FV 8) ≡ (0, var 8 1)
unfolding after
anything_before_variables = refl

pub variables_before_error : after (FV 1 ∷ JN (error 2) (var 3 0) ∷ []) (UF (var 4 0)) ≡ (0, error 2)
unfolding after
variables_before_error = refl

-- ---- references, and names

pub imm_before_mut_at_left : after [] (JN (imm 1 (u8 2)) (mut 3 (u8 4))) ≡ (0, imm 1 (u8 4))
unfolding after
imm_before_mut_at_left = refl

pub subtype_of_mut_is_mut : after [] (SU (mut 1 (u8 2)) (mut 3 (u8 4))) ≡ (0, mut 3 (u8 4))
unfolding after
subtype_of_mut_is_mut = refl

-- SU goes on as subtype in arguments and under a reference
pub subtype_in_a_list : after [] (SU (list 1 (imm 2 (u8 3) ∷ [])) (list 4 (mut 5 (u8 6) ∷ []))) ≡ (1, imm 2 (u8 3) ++ mut 5 (u8 6))
unfolding after
subtype_in_a_list = refl

pub subtype_under_a_reference : after [] (SU (imm 1 (vector 2 (imm 3 (u8 4)))) (imm 5 (vector 6 (mut 7 (u8 8))))) ≡ (1, imm 3 (u8 4) ++ mut 7 (u8 8))
unfolding after
subtype_under_a_reference = refl

pub list_beside_a_name_is_2 : map (after []) (JN (list 1 []) (u8 2) ∷ JN (u8 1) (list 2 []) ∷ []) ≡ (2, list 1 [] ++ u8 2) ∷ (2, u8 1 ++ list 2 []) ∷ []
unfolding after
list_beside_a_name_is_2 = refl

-- address with copy
pub mark_beside_none_is_10 : map (after []) (JN (hex "03 01000000 00 00") (hex "03 02000000 11 00") ∷ JN (hex "03 01000000 11 00") (hex "03 02000000 00 00") ∷ []) ≡ (10, []) ∷ (10, []) ∷ []
unfolding after
mark_beside_none_is_10 = refl

-- ---- variables

pub one_variable_twice : after (FV 1 ∷ []) (JN (var 2 0) (var 3 0)) ≡ (0, var 3 0)
unfolding after
one_variable_twice = refl

pub variable_to_the_right : after (NV 1 ∷ []) (JN (bool 2) (var 3 0)) ≡ (2, bool 2 ++ var 3 0)
unfolding after
variable_to_the_right = refl

-- at the variable's location
pub recursive_to_the_right : after (FV 1 ∷ []) (JN (vector 2 (var 3 0)) (var 4 0)) ≡ (4, u32 4)
unfolding after
recursive_to_the_right = refl

pub every_part_is_looked_at : map (after (FV 1 ∷ [])) (JN (var 2 0) (vector 3 (vector 4 (var 5 0))) ∷ JN (var 2 0) (list 3 (unit 4 ∷ var 5 0 ∷ [])) ∷ []) ≡ (4, u32 2) ∷ (4, u32 2) ∷ []
unfolding after
every_part_is_looked_at = refl

-- no. 4 if it were not
pub numeric_tested_first : after (NV 1 ∷ []) (JN (var 2 0) (vector 3 (var 4 0))) ≡ (2, var 2 0 ++ vector 3 (var 4 0))
unfolding after
numeric_tested_first = refl

-- a numeric variable bound to `!` is numeric still
pub bound_and_numeric : after (NV 1 ∷ JN (var 2 0) (error 3) ∷ []) (JN (var 4 0) (bool 5)) ≡ (2, error 3 ++ bool 5)
unfolding after
bound_and_numeric = refl

pub bound_to_the_left : after (FV 1 ∷ JN (var 2 0) (imm 3 (u8 4)) ∷ []) (SU (var 5 0) (mut 6 (u8 7))) ≡ (1, imm 3 (u8 4) ++ mut 6 (u8 7))
unfolding after
bound_to_the_left = refl

pub bound_to_the_right : after (FV 1 ∷ JN (var 2 0) (mut 3 (u8 4)) ∷ []) (SU (imm 5 (u8 6)) (var 7 0)) ≡ (1, imm 5 (u8 6) ++ mut 3 (u8 4))
unfolding after
bound_to_the_right = refl

pub right_variable_shown_as_given : after (NV 1 ∷ FV 2 ∷ JN (var 3 0) (var 4 1) ∷ []) (JN (bool 5) (var 6 0)) ≡ (2, bool 5 ++ var 6 0)
unfolding after
right_variable_shown_as_given = refl
