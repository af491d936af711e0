-- R-7: NL and needs, computed: the worked values, each rule of a merge, of binding and of SV. Some lines are false under an edit of must-fail/ (docs/CLAIMS.md, 'Edits of the
-- definition'). Assumes nothing.
use Rattle.std.proofs.Common.{◌≡◌, ℕ, [], ◌∷◌, ◌++◌, refl}
use Rattle.std.specs.Prelude.{None, Some}
use Rattle.definition.specs.Types.{fresh, Cell, State}
use Rattle.definition.specs.Store.{num_loc, need_of}
use Rattle.definition.specs.Write.{Bytes}
use Rattle.definition.proofs.Computed.{answered, left_by}
use Rattle.definition.proofs.Spelling.{at, error, bool, builtin, u8, var, FV, NV, NL, SN, JN, UF, SV}
use Rattle.definition.proofs.AnswersJoin.{after}

-- ---- the worked values

pub NL_answers_as_NV : after [] (NL 1 9) ≡ after [] (NV 1)
unfolding after
NL_answers_as_NV = refl

pub narrower_is_2 : after (NL 1 9 ∷ []) (JN (var 2 0) (u8 3)) ≡ (2, var 2 0 ++ u8 3)
unfolding after
narrower_is_2 = refl

pub wide_enough_is_0 : after (NL 1 9 ∷ []) (JN (var 2 0) (builtin 3 7)) ≡ (0, var 2 0)
unfolding after
wide_enough_is_0 = refl

-- V0 holds u16, V1 needs 20 bits
pub narrower_in_a_merge : after (NL 1 9 ∷ JN (var 2 0) (builtin 3 7) ∷ NL 4 20 ∷ []) (JN (var 5 1) (var 6 0)) ≡ (2, var 5 1 ++ builtin 3 7)
unfolding after
narrower_in_a_merge = refl

-- u64, u128 or u256 as SV makes it, with the mark copy, drop, store
abbrev pub solved : ℕ → ℕ → Bytes
solved loc b = at 3 loc ++ (23 ∷ b ∷ [])

-- SV and UF of a literal
unfoldable pub solved_as : ℕ → ℕ × Bytes
unfolding after
solved_as bits = after (NL 1 bits ∷ SV ∷ []) (UF (var 2 0))

pub up_to_64 : solved_as 64 ≡ (0, solved 1 3)
unfolding solved_as
up_to_64 = refl

pub from_65 : solved_as 65 ≡ (0, solved 1 4)
unfolding solved_as
from_65 = refl

pub up_to_128 : solved_as 128 ≡ (0, solved 1 4)
unfolding solved_as
up_to_128 = refl

pub from_129 : solved_as 129 ≡ (0, solved 1 9)
unfolding solved_as
from_129 = refl

pub up_to_256 : solved_as 256 ≡ (0, solved 1 9)
unfolding solved_as
up_to_256 = refl

pub no_bits_is_5 : after [] (NL 1 0) ≡ (5, [])
unfolding after
no_bits_is_5 = refl

pub bits_257_is_5 : after [] (NL 1 257) ≡ (5, [])
unfolding after
bits_257_is_5 = refl

-- ---- each width, just met and just missed

unfoldable pub meets : ℕ → ℕ → ℕ
unfolding after
meets bits b = (after (NL 1 bits ∷ []) (JN (builtin 2 b) (var 3 0))).0

pub widths : meets 8 2 ∷ meets 9 2 ∷ meets 16 7 ∷ meets 17 7 ∷ meets 32 8 ∷ meets 33 8 ∷ meets 64 3 ∷ meets 65 3 ∷ meets 128 4 ∷ meets 129 4 ∷ meets 256 9 ∷ []
    ≡ 0 ∷ 2 ∷ 0 ∷ 2 ∷ 0 ∷ 2 ∷ 0 ∷ 2 ∷ 0 ∷ 2 ∷ 0 ∷ []
unfolding meets
widths = refl

-- ---- merges: V0 needs 9, V1 needs 100; V2 is theirs

unfoldable pub merged : State
unfolding left_by
merged = left_by fresh (NL 1 9 ∷ NL 2 100 ∷ JN (var 3 1) (var 4 0) ∷ [])

-- the larger need, at the second's location; both ends keep their own
pub larger_need_wins : need_of merged 2 ≡ 100
unfolding merged
larger_need_wins = refl

pub second_location_wins : num_loc merged 2 ≡ Some 1
unfolding merged
second_location_wins = refl

pub ends_keep_their_own : need_of merged 0 ∷ need_of merged 1 ∷ [] ≡ 9 ∷ 100 ∷ []
unfolding merged
ends_keep_their_own = refl

-- V0 is bound now; by V2's need
pub the_end_decides : after (NL 1 9 ∷ NL 2 100 ∷ JN (var 3 1) (var 4 0) ∷ []) (JN (var 5 0) (builtin 6 3)) ≡ (2, var 5 0 ++ builtin 6 3)
unfolding after
the_end_decides = refl

pub solved_by_the_end : after (NL 1 9 ∷ NL 2 100 ∷ JN (var 3 1) (var 4 0) ∷ SV ∷ []) (UF (var 5 0)) ≡ (0, solved 1 4)
unfolding after
solved_by_the_end = refl

-- an unmarked end needs none
pub merged_with_unmarked : need_of (left_by fresh (FV 1 ∷ NL 2 9 ∷ JN (var 3 0) (var 4 1) ∷ [])) 2 ≡ 9
unfolding left_by
merged_with_unmarked = refl

-- ---- SN, and errors

pub SN_changes_no_need : need_of (left_by fresh (NL 1 9 ∷ SN 0 2 ∷ [])) 0 ≡ 9
unfolding left_by
SN_changes_no_need = refl

pub SN_needs_none : need_of (left_by fresh (FV 1 ∷ SN 0 2 ∷ [])) 0 ≡ 0
unfolding left_by
SN_needs_none = refl

pub binding_keeps_the_need : need_of (left_by fresh (NL 1 9 ∷ JN (var 2 0) (error 3) ∷ [])) 0 ≡ 9
unfolding left_by
binding_keeps_the_need = refl

-- the merge with bool is 2: V2, taken meanwhile, has no need
pub fresh_without_need : after (FV 1 ∷ JN (var 2 0) (bool 3) ∷ NL 4 9 ∷ []) (JN (var 5 0) (var 6 1)) ≡ (2, bool 3 ++ var 6 1)
unfolding after
fresh_without_need = refl

pub put_back_without_need : need_of (left_by fresh (FV 1 ∷ JN (var 2 0) (bool 3) ∷ NL 4 9 ∷ JN (var 5 0) (var 6 1) ∷ [])) 2 ≡ 0
unfolding left_by
put_back_without_need = refl

-- ---- sound states

abbrev pub of_cell : Cell → State
of_cell c = record { nodes = []; args = []; vars = c ∷ []; constraints = []; structs = [] }

unfoldable pub number : Cell → ℕ
unfolding answered
number c = (answered (of_cell c) (UF (u8 1)) 4096).0

pub need_256_sound : number (record { binding = None; numeric = Some 1; need = 256 }) ≡ 0
unfolding number
need_256_sound = refl

pub need_257_is_15 : number (record { binding = None; numeric = Some 1; need = 257 }) ≡ 15
unfolding number
need_257_is_15 = refl

pub need_without_mark_is_15 : number (record { binding = None; numeric = None; need = 1 }) ≡ 15
unfolding number
need_without_mark_is_15 = refl
