-- R-1, what has which ability, row by row, computed. Most lines are false under an edit of must-fail/ (docs/CLAIMS.md, 'Edits of the definition'). Assumes nothing.
use Rattle.std.proofs.Common.{◌≡◌, ℕ, ◌-◌, List, [], ◌∷◌, ◌++◌, map, replicate, false, refl}
use Rattle.definition.specs.Types.{ModuleType, fresh}
use Rattle.definition.specs.Instantiate.{struct_tparams}
use Rattle.definition.specs.Write.{Bytes}
use Rattle.definition.specs.Abilities.{primitives, signer, collection, builtin_abilities, counts}
use Rattle.definition.proofs.Spelling.{any, error, unit, imm, u8, vector, list, var, hex, SD, IN, SV}
use Rattle.definition.proofs.Computed.{left_by}
use Rattle.definition.proofs.AnswersJoin.{after}
use Rattle.definition.proofs.AnswersSolve.{struct, marked, signer as signer_type, row, asks_copy}

-- ---- what a type has

-- S0 asks all of its argument
abbrev pub asks_all : Bytes → List Bytes
asks_all t = SD 0 (15 ∷ []) ∷ IN (struct 2 0 0 (t ∷ [])) ∷ []

-- integers, bool, address and vector
pub copy_drop_and_store : map builtin_abilities (2 ∷ 3 ∷ 4 ∷ 7 ∷ 8 ∷ 9 ∷ 6 ∷ 0 ∷ 5 ∷ []) ≡ replicate 9 7
unfolding builtin_abilities primitives signer collection
copy_drop_and_store = refl

pub signer_has_drop_alone : after (asks_all (signer_type 3)) SV ≡ (0, row 2 1 (signer_type 3) (1 ∷ []) ++ row 2 4 (signer_type 3) (1 ∷ []) ++ row 2 8 (signer_type 3) (1 ∷ []))
unfolding after
signer_has_drop_alone = refl

-- with the base constraint that fails too
pub list_lacks_key : after (asks_all (list 3 [])) SV ≡ (0, row 2 8 (list 3 []) (1 ∷ []) ++ hex "02 02000000" ++ list 3 [])
unfolding after
list_lacks_key = refl

-- `!` lacks nothing
pub error_has_all : after (asks_all (error 3)) SV ≡ (0, [])
unfolding after
error_has_all = refl

-- with the base constraint that fails too
pub unit_lacks_key : after (asks_all (unit 3)) SV ≡ (0, row 2 8 (unit 3) (1 ∷ []) ++ hex "02 02000000" ++ unit 3)
unfolding after
unit_lacks_key = refl

pub reference_lacks_store_and_key : after (asks_all (imm 3 (signer_type 4))) SV ≡ (0, row 2 4 (imm 3 (signer_type 4)) (1 ∷ []) ++ row 2 8 (imm 3 (signer_type 4)) (1 ∷ []) ++ hex "02 02000000" ++ imm 3 (signer_type 4))
unfolding after
reference_lacks_store_and_key = refl

-- a parameter with drop
pub parameter_has_its_own : after (asks_all (hex "02 03000000 07000000 02")) SV
    ≡ (0, row 2 1 (hex "02 03000000 07000000 02") (1 ∷ []) ++ row 2 4 (hex "02 03000000 07000000 02") (1 ∷ []) ++ row 2 8 (hex "02 03000000 07000000 02") (1 ∷ []))
unfolding after
parameter_has_its_own = refl

pub anything_has_all : after (asks_all (any 3)) SV ≡ (0, [])
unfolding after
anything_has_all = refl

-- ---- what is needed of an argument: each but key needs itself

-- a vector of a struct that has all abilities but one, which is asked for
abbrev pub without : ℕ → List Bytes
without ability = SD 0 (ability ∷ []) ∷ SD (15 - ability) [] ∷ IN (struct 2 0 0 (vector 3 (struct 4 0 1 []) ∷ [])) ∷ []

pub copy_needs_copy : after (without 1) SV ≡ (0, row 2 1 (vector 3 (var 4 1)) (2 ∷ 0 ∷ []))
unfolding after
copy_needs_copy = refl

pub drop_needs_drop : after (without 2) SV ≡ (0, row 2 2 (vector 3 (var 4 1)) (2 ∷ 0 ∷ []))
unfolding after
drop_needs_drop = refl

pub store_needs_store : after (without 4) SV ≡ (0, row 2 4 (vector 3 (var 4 1)) (2 ∷ 0 ∷ []))
unfolding after
store_needs_store = refl

-- u8 has store, and no key
pub key_needs_store : after (SD 8 (0 ∷ []) ∷ SD 0 (8 ∷ []) ∷ IN (struct 3 0 1 (struct 2 0 0 (u8 1 ∷ []) ∷ [])) ∷ []) SV ≡ (0, [])
unfolding after
key_needs_store = refl

pub store_needed_for_key : after (SD 0 [] ∷ SD 8 (0 ∷ []) ∷ SD 0 (8 ∷ []) ∷ IN (struct 3 0 2 (struct 2 0 1 (struct 1 0 0 [] ∷ []) ∷ [])) ∷ []) SV ≡ (0, row 3 8 (struct 2 0 1 (var 1 1 ∷ [])) (2 ∷ 0 ∷ []))
unfolding after
store_needed_for_key = refl

-- ---- which arguments count, and what a mark says

-- S2 has copy, and a phantom parameter; S1 has nothing
pub phantom_argument_left_out : after (asks_copy (struct 3 0 2 (struct 4 0 1 [] ∷ []))) SV ≡ (0, [])
unfolding after
phantom_argument_left_out = refl

-- the second of three parameters is phantom: its argument is skipped and counted
pub place_among_all : after (SD 0 [] ∷ SD 4 (0 ∷ 16 ∷ 0 ∷ []) ∷ SD 0 (4 ∷ []) ∷ IN (struct 5 0 2 (struct 4 0 1 (u8 1 ∷ struct 2 0 0 [] ∷ struct 3 0 0 [] ∷ []) ∷ [])) ∷ []) SV
    ≡ (0, row 5 4 (struct 4 0 1 (var 1 1 ∷ var 2 2 ∷ var 3 3 ∷ [])) (2 ∷ 2 ∷ []))
unfolding after
place_among_all = refl

-- as `infer_abilities` zips arguments with parameters. In a sound state there is no such argument
pub none_counts_past_the_parameters : counts (left_by fresh (SD 0 (1 ∷ []) ∷ [])) (ModuleType 0) 1 ≡ false
unfolding left_by counts struct_tparams
none_counts_past_the_parameters = refl

-- a vector marked with copy, of a struct that has none
pub mark_taken_as_it_is : after (asks_copy (marked 3 17 5 (struct 4 0 1 [] ∷ []))) SV ≡ (0, [])
unfolding after
mark_taken_as_it_is = refl

pub marked_and_argument_lacks : after (asks_copy (marked 3 18 5 (struct 4 0 1 [] ∷ []))) SV ≡ (0, row 2 1 (marked 3 18 5 (var 4 1 ∷ [])) (2 ∷ 0 ∷ []))
unfolding after
marked_and_argument_lacks = refl
