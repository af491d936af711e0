-- What records keep of a type and leave in the state, and what SV finds, computed. Assumes nothing.
use Rattle.std.proofs.Common.{◌≡◌, [], ◌∷◌, ◌++◌, map, replicate, refl}
use Rattle.definition.specs.Types.{AbilityConstraint, BaseTypeConstraint, SingleTypeConstraint, fresh}
use Rattle.definition.specs.Store.{count}
use Rattle.definition.specs.Step.{answer_with, max_payload, refusal, number_of_refusal}
use Rattle.definition.specs.Write.{u32}
use Rattle.definition.proofs.Computed.{left_by}
use Rattle.definition.proofs.Spelling.{unit, any, error, imm, mut, param, u8, bool, default_u64, vector, list, var, SD, FV, NV, JN, UF, RD, IN, TS, NC, SV, BC, SC}
use Rattle.definition.proofs.AnswersJoin.{after}
use Rattle.definition.proofs.AnswersLimits.{filled}
use Rattle.definition.proofs.AnswersSolve.{marked}

-- ---- what is kept of a type: RD, TS and IN of a vector with a mark, and of a mutable reference

pub mark_kept : map (after []) (RD (marked 1 17 5 (u8 2 ∷ [])) ∷ TS [] (marked 1 17 5 (u8 2 ∷ [])) ∷ IN (marked 1 17 5 (u8 2 ∷ [])) ∷ []) ≡ (0, marked 1 17 5 (u8 2 ∷ [])) ∷ (0, marked 1 17 5 (u8 2 ∷ [])) ∷ (0, marked 1 17 5 (var 2 0 ∷ [])) ∷ []
unfolding after
mark_kept = refl

pub mutability_kept : map (after []) (RD (mut 1 (u8 2)) ∷ TS [] (mut 1 (u8 2)) ∷ IN (mut 1 (u8 2)) ∷ []) ≡ replicate 3 (0, mut 1 (u8 2))
unfolding after
mutability_kept = refl

-- ---- what is left in the state

pub RD_and_TS_give_nodes_back : map (λ r. count (left_by fresh (r ∷ []))) (RD (u8 1) ∷ TS ((7, u8 1) ∷ []) (param 2 7) ∷ []) ≡ 0 ∷ 0 ∷ []
unfolding left_by
RD_and_TS_give_nodes_back = refl

pub nodes_stay_after_2 : count (left_by fresh (JN (u8 1) (bool 2) ∷ [])) ≡ 2
unfolding left_by
nodes_stay_after_2 = refl

pub structs_in_order : after (SD 0 [] ∷ SD 0 [] ∷ []) (SD 0 []) ≡ (0, 2 ∷ 0 ∷ [])
unfolding after
structs_in_order = refl

-- at the name's location, of the variable made: nothing is asked of a list's types, nor of a vector's
pub constraints_of_a_list : (left_by fresh (IN (list 1 (u8 2 ∷ [])) ∷ [])).constraints ≡ AbilityConstraint 1 2 0 ∷ SingleTypeConstraint 1 2 ∷ []
unfolding left_by
constraints_of_a_list = refl

pub constraints_of_a_vector : (left_by fresh (IN (vector 1 (u8 2)) ∷ [])).constraints ≡ AbilityConstraint 1 2 0 ∷ BaseTypeConstraint 1 2 ∷ []
unfolding left_by
constraints_of_a_vector = refl

-- of the type as it was read
pub constraint_of_a_reference : (left_by fresh (IN (imm 1 (any 2)) ∷ [])).constraints ≡ BaseTypeConstraint 1 0 ∷ []
unfolding left_by
constraint_of_a_reference = refl

pub IN_of_a_variable_is_11 : after (FV 1 ∷ []) (IN (list 2 (u8 3 ∷ var 4 0 ∷ []))) ≡ (11, [])
unfolding after
IN_of_a_variable_is_11 = refl

pub fourteen_leaves_the_state : count (answer_with max_payload fresh 0 (replicate 4097 0) (filled 1 0 0 0 0)).state ≡ 0
unfolding answer_with max_payload refusal number_of_refusal
fourteen_leaves_the_state = refl

-- ---- SV

pub error_becomes_u64 : after (NV 9 ∷ JN (var 1 0) (error 2) ∷ SV ∷ []) (UF (var 3 0)) ≡ (0, default_u64 9)
unfolding after
error_becomes_u64 = refl

pub integer_wanted : map (λ kind. after (NC 1 kind (bool 2) ∷ []) SV) (0 ∷ 1 ∷ 2 ∷ []) ≡ replicate 3 (0, 1 ∷ u32 1 ++ bool 2)
unfolding after
integer_wanted = refl

pub no_integers : map (λ t. after (NC 1 0 t ∷ []) SV) (any 2 ∷ error 2 ∷ unit 2 ∷ param 2 7 ∷ []) ≡ map (λ t. (0, 1 ∷ u32 1 ++ t)) (any 2 ∷ error 2 ∷ unit 2 ∷ param 2 7 ∷ [])
unfolding after
no_integers = refl

pub no_base_types : map (λ t. after (BC 1 t ∷ []) SV) (unit 2 ∷ imm 2 (u8 3) ∷ list 2 [] ∷ []) ≡ map (λ t. (0, 2 ∷ u32 1 ++ t)) (unit 2 ∷ imm 2 (u8 3) ∷ list 2 [] ∷ [])
unfolding after
no_base_types = refl

pub no_single_types : map (λ t. after (SC 1 t ∷ []) SV) (unit 2 ∷ list 2 [] ∷ []) ≡ map (λ t. (0, 3 ∷ u32 1 ++ t)) (unit 2 ∷ list 2 [] ∷ [])
unfolding after
no_single_types = refl

pub base_and_single_types : map (λ t. after (BC 1 t ∷ SC 1 t ∷ []) SV) (u8 2 ∷ vector 2 (u8 3) ∷ param 2 7 ∷ any 2 ∷ error 2 ∷ []) ≡ replicate 5 (0, [])
unfolding after
base_and_single_types = refl
