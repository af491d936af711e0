-- MJ, computed: what its pairs are answered, what they leave, and what turns the whole record down. Assumes nothing.
use Rattle.std.proofs.Common.{◌≡◌, ℕ, List, [], ◌∷◌, ◌++◌, length, replicate, refl}
use Rattle.definition.specs.Types.{fresh, ok}
use Rattle.definition.specs.Write.{Bytes}
use Rattle.definition.specs.Store.{taken}
use Rattle.definition.specs.Step.{many as many_pairs, max_many, max_payload, most_of, answer_with, behind, answer_within, answer, refusal, number_of_refusal}
use Rattle.definition.specs.Demand.{run_calls, two_types_calls, if_reached, pair_events, nothing_done, many_events, one_event, events_by, lent_events, events, trace, point, at}
use Rattle.definition.specs.Locations.{Part, counts_of, loc_field, u32_field, tag_fields, tag_widths, pair_fields, many_fields, row, pair, many, expand, blank}
use Rattle.definition.proofs.Computed.{answered, left_by, log_of}
use Rattle.definition.proofs.Spelling.{hex, text, imm, mut, u8, bool, unit, list, var, joined, FV, UF}

-- the answer to a record after others, with a buffer for MJ
unfoldable pub after : List Bytes → Bytes → ℕ × Bytes
unfolding left_by answered
after before r = answered (left_by fresh before) r 61485

abbrev pub join : Bytes → Bytes → Bytes
join t1 t2 = 0 ∷ t1 ++ t2

abbrev pub subtype : Bytes → Bytes → Bytes
subtype t1 t2 = 1 ∷ t1 ++ t2

abbrev pub MJ : List Bytes → Bytes
MJ pairs = text "MJ" ++ (length pairs ∷ joined pairs)

-- counts of nodes, argument places, variables, constraints and structs that records leave
abbrev pub counts : List Bytes → List ℕ
unfolding counts_of
counts records = counts_of (left_by fresh records)

-- ---- the worked record: 0, then 1, then a merge

abbrev pub worked : Bytes
worked = MJ (join (var 2 0) (u8 3) ∷ subtype (imm 5 (u8 6)) (mut 7 (u8 8)) ∷ join (var 9 0) (u8 10) ∷ [])

pub pairs_are_told : after (FV 1 ∷ []) worked ≡ (0, hex "000700 06020000000000  011a00 01050000000003060000000002 01070000000103080000000002  000700 060a0000000200")
unfolding after
pairs_are_told = refl

pub what_pairs_take : counts (FV 1 ∷ worked ∷ []) ≡ 11 ∷ 0 ∷ 3 ∷ 0 ∷ 0 ∷ []
unfolding left_by counts_of
what_pairs_take = refl

-- ---- a refused pair leaves the state as the pair before it did, and the next goes on

-- u8 with copy, drop and store against u8: 10
abbrev pub disagree : Bytes
disagree = join (hex "03 05000000 17 02") (u8 6)

pub refused_pair_goes_on : after (FV 1 ∷ []) (MJ (join (var 2 0) (u8 3) ∷ disagree ∷ join (var 9 0) (u8 10) ∷ [])) ≡ (0, hex "000700 06020000000000  0a0000  000700 060a0000000200")
unfolding after
refused_pair_goes_on = refl

pub refused_pair_takes_no_more : counts (FV 1 ∷ MJ (join (var 2 0) (u8 3) ∷ disagree ∷ join (var 9 0) (u8 10) ∷ []) ∷ []) ≡ 9 ∷ 0 ∷ 3 ∷ 0 ∷ 0 ∷ []
unfolding left_by counts_of
refused_pair_takes_no_more = refl

-- each pair has its own 4,096 bytes
pub pair_of_4096 : (answer fresh (ok (fresh, replicate 4096 0))).number ≡ 0
unfolding answer answer_within answer_with behind max_payload
pair_of_4096 = refl

pub pair_of_4097_is_14 : (answer fresh (ok (fresh, replicate 4097 0))).number ≡ 14
unfolding answer answer_within answer_with behind max_payload refusal number_of_refusal
pair_of_4097_is_14 = refl

-- what it took in its run is given back, what reading took is not: JN of it alone would leave nothing
pub refused_pair_keeps_what_was_read : counts (MJ (disagree ∷ []) ∷ []) ≡ 2 ∷ 0 ∷ 0 ∷ 0 ∷ 0 ∷ []
unfolding left_by counts_of
refused_pair_keeps_what_was_read = refl

-- (V0, u8 with a set) against (bool, u8): V0 is bound, then 10 undoes it, and the next pair binds it to u8
pub refused_pair_binds_nothing :
    after (FV 1 ∷ MJ (join (list 1 (var 2 0 ∷ hex "03 05000000 17 02" ∷ [])) (list 1 (bool 3 ∷ u8 4 ∷ [])) ∷ join (var 2 0) (u8 3) ∷ []) ∷ []) (UF (var 1 0)) ≡ (0, u8 3)
unfolding after
refused_pair_binds_nothing = refl

-- V0 is bound by the first pair, V1 in the second, which is 2: it goes back to what the first left, not to the record's start
pub error_keeps_the_pair_before : after (FV 1 ∷ FV 2 ∷ MJ (join (var 1 0) (u8 3) ∷ join (list 1 (var 2 1 ∷ u8 4 ∷ [])) (list 1 (bool 3 ∷ bool 4 ∷ [])) ∷ []) ∷ []) (UF (var 1 0)) ≡ (0, u8 3)
unfolding after
error_keeps_the_pair_before = refl

pub error_undoes_the_pair : after (FV 1 ∷ FV 2 ∷ MJ (join (var 1 0) (u8 3) ∷ join (list 1 (var 2 1 ∷ u8 4 ∷ [])) (list 1 (bool 3 ∷ bool 4 ∷ [])) ∷ []) ∷ []) (UF (var 1 1)) ≡ (0, 7 ∷ 1 ∷ 0 ∷ 0 ∷ 0 ∷ [])
unfolding after
error_undoes_the_pair = refl

-- ---- the case byte

pub byte_1_is_subtype : after [] (MJ (subtype (imm 1 (u8 2)) (mut 3 (u8 4)) ∷ [])) ≡ (0, hex "011a00 01010000000003020000000002 01030000000103040000000002")
unfolding after
byte_1_is_subtype = refl

pub byte_0_is_join : after [] (MJ (join (imm 1 (u8 2)) (mut 3 (u8 4)) ∷ [])) ≡ (0, hex "000d00 01010000000003040000000002")
unfolding after
byte_0_is_join = refl

-- ---- the whole record turned down

pub no_pair_is_5 : after [] (hex "4d4a 00") ≡ (5, [])
unfolding after
no_pair_is_5 = refl

pub sixteen_pairs_are_5 : after [] (MJ (replicate 16 (join (unit 1) (unit 2)))) ≡ (5, [])
unfolding after
sixteen_pairs_are_5 = refl

pub case_2_is_5 : after [] (MJ ((2 ∷ unit 1 ++ unit 2) ∷ [])) ≡ (5, [])
unfolding after
case_2_is_5 = refl

-- 6 in the last pair: nothing was done
pub reading_fault_does_nothing : counts (FV 1 ∷ MJ (join (var 2 0) (u8 3) ∷ join (var 2 1) (u8 3) ∷ []) ∷ []) ≡ 0 ∷ 0 ∷ 1 ∷ 0 ∷ 0 ∷ []
unfolding left_by counts_of
reading_fault_does_nothing = refl

pub byte_left_over_is_5 : after [] (MJ (join (unit 1) (unit 2) ∷ []) ++ (0 ∷ [])) ≡ (5, [])
unfolding after
byte_left_over_is_5 = refl

-- ---- the buffer

pub buffer_61484_is_15 : answered fresh (MJ (join (unit 1) (unit 2) ∷ [])) 61484 ≡ (15, [])
unfolding answered
buffer_61484_is_15 = refl

pub buffer_61485_is_enough : answered fresh (MJ (join (unit 1) (unit 2) ∷ [])) 61485 ≡ (0, hex "000500 0002000000")
unfolding answered
buffer_61485_is_enough = refl

pub fifteen_by_two_letters : answered fresh (text "MJ") 61484 ≡ (15, [])
unfolding answered
fifteen_by_two_letters = refl

pub one_letter_wants_4096 : answered fresh (text "M") 4096 ≡ (5, [])
unfolding answered
one_letter_wants_4096 = refl

pub others_want_4096 : answered fresh (FV 1) 4096 ≡ (0, hex "06 01000000 0000")
unfolding answered
others_want_4096 = refl

pub job_lends_enough : log_of (MJ (join (unit 1) (unit 2) ∷ [])) ≡ text "0 0 0005000002000000\n"
unfolding log_of
job_lends_enough = refl

-- ---- the payload's limit is not that of other records
pub payload_past_4096 : (answer_within (most_of (many_pairs [])) [] fresh (ok (fresh, replicate 4097 0))).number ≡ 0
unfolding answer_within behind most_of max_many answer_with
payload_past_4096 = refl

-- ---- demand 3: each pair has its event

abbrev pub job : List (Bytes × ℕ)
job = (FV 1, 4096) ∷ (worked, 61485) ∷ (worked, 61484) ∷ []

-- FV, three pairs, and a 15
unfoldable pub events_of : List (Bytes × ℕ) → ℕ
unfolding answered two_types_calls if_reached run_calls pair_events nothing_done many_events one_event events_by lent_events events trace
events_of records = length (trace fresh records)

pub pairs_count_as_records : events_of job ≡ 5
unfolding events_of
pairs_count_as_records = refl

-- variables taken at each point
unfoldable pub taken_at : List (Bytes × ℕ) → ℕ → ℕ
unfolding answered two_types_calls if_reached run_calls pair_events nothing_done many_events one_event events_by lent_events events trace point at
taken_at records i = taken (at fresh records i)

pub points_of_pairs : taken_at job 0 ∷ taken_at job 1 ∷ taken_at job 2 ∷ taken_at job 3 ∷ taken_at job 4 ∷ taken_at job 5 ∷ [] ≡ 0 ∷ 1 ∷ 1 ∷ 1 ∷ 3 ∷ 3 ∷ []
unfolding taken_at
points_of_pairs = refl

-- ---- R-4: location fields of the record and of its payload

unfoldable pub blanked : Bytes → List Part → Bytes
unfolding answered loc_field u32_field tag_fields tag_widths pair_fields many_fields row expand blank
blanked bytes awaited = blank fresh bytes awaited

pub locations_of_pairs : blanked (hex "03" ++ join (var 2 0) (u8 3) ++ subtype (imm 5 (u8 6)) (mut 7 (u8 8)) ++ join (var 9 0) (u8 10)) (many ∷ [])
    ≡ hex "03" ++ join (var 0 0) (u8 0) ++ subtype (imm 0 (u8 0)) (mut 0 (u8 0)) ++ join (var 0 0) (u8 0)
unfolding blanked
locations_of_pairs = refl

-- a pair's row ends where its length says; 4's is a location, 10's is empty
pub locations_of_answers : blanked (hex "000700 06020000000000  0a0000  040400 09000000  011a00 01050000000003060000000002 01070000000103080000000002") (pair ∷ [])
    ≡ hex "000700 06000000000000  0a0000  040400 00000000  011a00 01000000000003000000000002 01000000000103000000000002"
unfolding blanked
locations_of_answers = refl
