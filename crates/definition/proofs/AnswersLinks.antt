-- UL and JL, computed: the answers of UF and JN, and the links behind them. Assumes nothing.
use Rattle.std.proofs.Common.{◌≡◌, List, [], ◌∷◌, ◌++◌, replicate, refl}
use Rattle.definition.specs.Types.{fresh, ok}
use Rattle.definition.specs.Write.{Bytes, u32}
use Rattle.definition.specs.Step.{Answer, answer_with, answer_within, behind, max_payload}
use Rattle.definition.specs.Locations.{loc_field, u32_field, tag_fields, tag_widths, pair_fields, many_fields, row, mark_fields, after_mark, told, shown_fields, expand, blank, blank_before, blank_payload}
use Rattle.definition.proofs.Computed.{answered, answers_of}
use Rattle.definition.proofs.Spelling.{hex, text, any, imm, u8, bool, vector, list, var, FV, JN}
use Rattle.definition.proofs.AnswersJoin.{after}

abbrev pub UL : Bytes → Bytes
UL t = text "UL" ++ t

abbrev pub JL : Bytes → Bytes → Bytes
JL t1 t2 = text "JL" ++ t1 ++ t2

-- ---- which links count

pub no_variable_no_link : after [] (UL (u8 1)) ≡ (0, u8 1 ++ hex "00000000")
unfolding after
no_variable_no_link = refl

-- V0 is bound to u8: the last binding is looked at and not followed
pub last_binding_not_followed : after (FV 0 ∷ JN (var 0 0) (u8 1) ∷ []) (UL (var 0 0)) ≡ (0, u8 1 ++ hex "00000000")
unfolding after
last_binding_not_followed = refl

-- one variable twice, and a variable that takes a type: no merge
pub no_merge_no_link : after (FV 0 ∷ FV 0 ∷ JN (var 0 0) (var 0 1) ∷ []) (JL (var 0 0) (var 0 0)) ≡ (0, var 0 0 ++ hex "00000000")
unfolding after
no_merge_no_link = refl

-- both chains: V0 and V1 end in V2, one link each
pub both_chains : after (FV 0 ∷ FV 0 ∷ JN (var 0 0) (var 0 1) ∷ []) (JL (var 0 0) (var 0 1)) ≡ (0, var 0 3 ++ hex "02000000")
unfolding after
both_chains = refl

-- two arguments, each a merge of both chains: the sum; after the first V0 and V1 end in V3, two links each
pub every_argument : after (FV 0 ∷ FV 0 ∷ JN (var 0 0) (var 0 1) ∷ []) (JL (list 0 (var 0 0 ∷ var 0 0 ∷ [])) (list 0 (var 0 1 ∷ var 0 1 ∷ [])))
    ≡ (0, list 0 (var 0 3 ∷ var 0 4 ∷ []) ++ hex "06000000")
unfolding after
every_argument = refl

-- the merge's inner join merges too: V0 and V1 are vectors of V2 and V3, which end in V4, one link each
pub inner_merge : after (FV 0 ∷ FV 0 ∷ FV 0 ∷ FV 0 ∷ JN (var 0 2) (var 0 3) ∷ JN (var 0 0) (vector 0 (var 0 2)) ∷ JN (var 0 1) (vector 0 (var 0 3)) ∷ []) (JL (var 0 0) (var 0 1)) ≡ (0, var 0 5 ++ hex "02000000")
unfolding after
inner_merge = refl

-- a merge under references
pub under_a_reference : after (FV 0 ∷ FV 0 ∷ JN (var 0 0) (var 0 1) ∷ []) (JL (imm 0 (var 0 0)) (imm 0 (var 0 1))) ≡ (0, imm 0 (var 0 3) ++ hex "02000000")
unfolding after
under_a_reference = refl

-- a bound variable on either side meets a type: its own chain, one link; the fresh one that takes the type has none
pub bound_on_the_left : after (FV 0 ∷ FV 0 ∷ JN (var 0 0) (var 0 1) ∷ []) (JL (var 0 0) (bool 0)) ≡ (0, var 0 4 ++ hex "01000000")
unfolding after
bound_on_the_left = refl

pub bound_on_the_right : after (FV 0 ∷ FV 0 ∷ JN (var 0 0) (var 0 1) ∷ []) (JL (bool 0) (var 0 0)) ≡ (0, var 0 4 ++ hex "01000000")
unfolding after
bound_on_the_right = refl

-- an error after a merge: what was followed so far
pub up_to_the_error : after (FV 0 ∷ FV 0 ∷ JN (var 0 0) (var 0 1) ∷ []) (JL (list 0 (var 0 0 ∷ u8 1 ∷ var 0 0 ∷ [])) (list 0 (var 0 1 ∷ bool 2 ∷ var 0 1 ∷ []))) ≡ (2, u8 1 ++ bool 2 ++ hex "02000000")
unfolding after
up_to_the_error = refl

-- 4: a location, then the count: the inner join merges V1 and V0, which both end in the fresh variable by now
pub behind_a_location : after (FV 0 ∷ FV 0 ∷ JN (var 0 0) (vector 0 (var 0 1)) ∷ JN (var 0 1) (vector 0 (var 0 0)) ∷ []) (JL (var 7 0) (var 8 1)) ≡ (4, hex "00000000 02000000")
unfolding after
behind_a_location = refl

-- a refusal shows none
pub refusal_shows_none : after (FV 0 ∷ FV 0 ∷ JN (var 0 0) (var 0 1) ∷ []) (JL (list 0 (var 0 0 ∷ hex "03 05000000 17 02" ∷ [])) (list 0 (var 0 1 ∷ u8 0 ∷ []))) ≡ (10, [])
unfolding after
refusal_shows_none = refl

-- ---- the limit, count included: the test of the length alone

pub count_within_4096 : (answer_within max_payload (u32 0) fresh (ok (fresh, replicate 4092 0))).number ≡ 0
unfolding answer_with answer_within behind max_payload u32
count_within_4096 = refl

pub count_past_4096_is_14 : (answer_within max_payload (u32 0) fresh (ok (fresh, replicate 4093 0))).number ≡ 14
unfolding answered answer_with answer_within behind max_payload u32
count_past_4096_is_14 = refl

-- ---- R-4: a count's bytes are no tags and no locations

unfoldable pub blanked : Bytes → Answer → Bytes
unfolding answered loc_field u32_field tag_fields tag_widths pair_fields many_fields row mark_fields after_mark told shown_fields expand blank blank_before blank_payload
blanked bytes a = blank_payload fresh bytes a

pub count_of_one_is_plain : blanked (UL (var 1 0)) (record { number = 0; payload = any 9 ++ hex "06010203"; state = fresh }) ≡ any 0 ++ hex "06010203"
unfolding blanked
count_of_one_is_plain = refl

pub count_is_plain : blanked (JL (var 1 0) (u8 2)) (record { number = 0; payload = var 9 3 ++ hex "06010203"; state = fresh }) ≡ var 0 3 ++ hex "06010203"
unfolding blanked
count_is_plain = refl

-- ---- the worked job: V0, V1, V2 merged one by one, then bool, then u8, which is 2

abbrev pub worked : List Bytes
worked = FV 0 ∷ FV 0 ∷ FV 0 ∷ JL (var 0 0) (var 0 1) ∷ JL (var 0 1) (var 0 2) ∷ UL (var 0 0) ∷ JL (var 0 0) (bool 0) ∷ JL (var 0 2) (u8 0) ∷ UL (var 0 0) ∷ []

pub links_are_told : answers_of worked
    ≡ (0, var 0 0) ∷ (0, var 0 1) ∷ (0, var 0 2) ∷ (0, var 0 3 ++ hex "00000000") ∷ (0, var 0 4 ++ hex "01000000") ∷ (0, any 0 ++ hex "02000000") ∷
    (0, var 0 6 ++ hex "02000000") ∷ (2, bool 0 ++ u8 0 ++ hex "02000000") ∷ (0, bool 0 ++ hex "03000000") ∷ []
unfolding answers_of
links_are_told = refl
