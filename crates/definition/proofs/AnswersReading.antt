-- 01, 'At the entry: a record': what each field may be, and where the types of TS stand, computed. Most lines are false under an edit of must-fail/ (docs/CLAIMS.md, 'Edits of the
-- definition'). Assumes nothing.
use Rattle.std.proofs.Common.{◌≡◌, [], ◌∷◌, ◌++◌, map, replicate, refl}
use Rattle.definition.specs.Types.{NumericConstraint, BitsConstraint, OrderedConstraint, fresh}
use Rattle.definition.proofs.Computed.{left_by}
use Rattle.definition.proofs.Spelling.{hex, at, unit, u8, bool, list, param, var, SD, FV, UF, TS, NC}
use Rattle.definition.proofs.AnswersJoin.{after}

-- ---- what a field may be

-- a list has at most eight types
pub list_of_nine_is_5 : after [] (UF (list 1 (replicate 9 (unit 2)))) ≡ (5, [])
unfolding after
list_of_nine_is_5 = refl

-- address with each mark byte that is neither 0 nor 16 plus a set
pub other_mark_bytes_are_5 : map (λ mark. after [] (UF (at 3 1 ++ (mark ∷ 0 ∷ [])))) (1 ∷ 14 ∷ 15 ∷ 32 ∷ 255 ∷ []) ≡ replicate 5 (5, [])
unfolding after
other_mark_bytes_are_5 = refl

-- SD of a struct with one parameter: its required abilities, plus 16 if phantom
pub other_parameter_bytes_are_5 : map (λ p. after [] (SD 0 (p ∷ []))) (32 ∷ 47 ∷ 63 ∷ 255 ∷ []) ≡ replicate 4 (5, [])
unfolding after
other_parameter_bytes_are_5 = refl

-- a parameter's abilities, and a declaration's: 0 to 15
pub other_sets_are_5 : map (after []) (UF (at 2 1 ++ hex "07000000 10") ∷ SD 16 [] ∷ []) ≡ replicate 2 (5, [])
unfolding after
other_sets_are_5 = refl

-- a reference's mutable byte 2, and tag 9
pub other_bytes_and_tags_are_5 : map (after []) (UF (at 1 1 ++ (2 ∷ u8 2)) ∷ UF (at 9 1) ∷ []) ≡ replicate 2 (5, [])
unfolding after
other_bytes_and_tags_are_5 = refl

-- ---- NC: numeric, bits, ordered

pub NC_of_each_kind : map (λ kind. (left_by fresh (NC 1 kind (unit 2) ∷ [])).constraints) (0 ∷ 1 ∷ 2 ∷ [])
    ≡ (NumericConstraint 1 0 ∷ []) ∷ (BitsConstraint 1 0 ∷ []) ∷ (OrderedConstraint 1 0 ∷ []) ∷ []
unfolding left_by
NC_of_each_kind = refl

pub NC_of_kind_3_is_5 : after [] (NC 1 3 (unit 2)) ≡ (5, [])
unfolding after
NC_of_kind_3_is_5 = refl

-- ---- TS

pub each_type_after_its_id : after [] (TS ((7, u8 1) ∷ (8, bool 2) ∷ []) (list 3 (param 4 8 ∷ param 5 7 ∷ []))) ≡ (0, list 3 (bool 2 ∷ u8 1 ∷ []))
unfolding after
each_type_after_its_id = refl

pub nine_pairs_are_5 : after [] (TS (map (λ id. (id, unit 1)) (0 ∷ 1 ∷ 2 ∷ 3 ∷ 4 ∷ 5 ∷ 6 ∷ 7 ∷ 8 ∷ [])) (unit 2)) ≡ (5, [])
unfolding after
nine_pairs_are_5 = refl

pub open_variable_is_11 : after (FV 1 ∷ []) (TS [] (var 2 0)) ≡ (11, [])
unfolding after
open_variable_is_11 = refl

pub id_not_listed_is_12 : after [] (TS ((7, u8 1) ∷ []) (param 2 8)) ≡ (12, [])
unfolding after
id_not_listed_is_12 = refl

pub id_twice_is_13 : after [] (TS ((7, u8 1) ∷ (7, u8 2) ∷ []) (param 3 7)) ≡ (13, [])
unfolding after
id_twice_is_13 = refl

-- where one of the others holds too
pub thirteen_before_11_and_12 : map (λ t. after (FV 1 ∷ []) (TS ((7, u8 1) ∷ (7, u8 2) ∷ []) t)) (var 3 0 ∷ param 3 8 ∷ []) ≡ replicate 2 (13, [])
unfolding after
thirteen_before_11_and_12 = refl
