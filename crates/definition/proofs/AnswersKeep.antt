-- R-11: KP, computed: what stays, under which numbers, and what turns it down. Some lines are false under an edit of must-fail/ (docs/CLAIMS.md, 'Edits of the definition'). Assumes nothing.
use Rattle.std.proofs.Common.{◌≡◌, ℕ, List, [], ◌∷◌, ◌++◌, length, refl}
use Rattle.std.specs.Prelude.{Option, None, Some}
use Rattle.definition.specs.Types.{State, fresh, UnitType, Apply, Multiple, unbound, BaseTypeConstraint}
use Rattle.definition.specs.Write.{Bytes, u16}
use Rattle.definition.specs.Keep.{cleared}
use Rattle.definition.specs.Demand.{run_calls, two_types_calls, if_reached, pair_events, nothing_done, many_events, stays, one_event, events_by, lent_events, events, trace, followed, from_to}
use Rattle.definition.specs.Locations.{counts_of}
use Rattle.definition.proofs.Computed.{answered, left_by}
use Rattle.definition.proofs.Spelling.{at, hex, text, any, u8, vector, list, var, default_u64, joined, FV, NV, NL, JN, UF, RD, SV, BC}
use Rattle.definition.proofs.AnswersJoin.{after}

abbrev pub numbers : List ℕ → List Bytes
unfolding u16
numbers [] = []
numbers (v ∷ vs) = u16 v ∷ numbers vs

abbrev pub KP : List ℕ → Bytes
KP vs = text "KP" ++ (length vs ∷ joined (numbers vs))

abbrev pub counts : List Bytes → List ℕ
unfolding counts_of
counts records = counts_of (left_by fresh records)

-- ---- the worked job: V2 is vector<V3>, V1 is u8

abbrev pub worked : List Bytes
worked = FV 1 ∷ FV 2 ∷ FV 3 ∷ NV 4 ∷ JN (var 0 2) (vector 0 (var 0 3)) ∷ JN (var 0 1) (u8 0) ∷ []

pub old_and_new_numbers : after worked (KP (2 ∷ [])) ≡ (0, hex "02000000 03000100")
unfolding after
old_and_new_numbers = refl

pub what_is_left : counts (worked ++ (KP (2 ∷ []) ∷ [])) ≡ 2 ∷ 1 ∷ 2 ∷ 0 ∷ 0 ∷ []
unfolding left_by counts_of
what_is_left = refl

pub bindings_follow : after (worked ++ (KP (2 ∷ []) ∷ [])) (RD (var 0 0)) ≡ (0, vector 0 (var 0 1))
unfolding after
bindings_follow = refl

pub numbers_are_used_again : after (worked ++ (KP (2 ∷ []) ∷ [])) (FV 9) ≡ (0, var 9 2)
unfolding after
numbers_are_used_again = refl

-- V0 is a new one: the old V0's binding is gone
pub a_number_taken_again_is_new : after (FV 1 ∷ JN (var 0 0) (u8 0) ∷ KP [] ∷ FV 5 ∷ []) (UF (var 6 0)) ≡ (0, any 6)
unfolding after
a_number_taken_again_is_new = refl

-- ---- what keeps

-- a constraint on (V1), where V1 is vector<V2>
abbrev pub constrained : List Bytes
constrained = FV 1 ∷ FV 2 ∷ FV 3 ∷ JN (var 4 1) (vector 5 (var 6 2)) ∷ BC 7 (list 8 (var 9 1 ∷ [])) ∷ []

pub constraints_keep : after constrained (KP []) ≡ (0, hex "01000000 02000100")
unfolding after
constraints_keep = refl

-- V2@6, vector@5, V1@9, list@8
pub constraints_stay : (left_by fresh (constrained ++ (KP [] ∷ []))).constraints ≡ BaseTypeConstraint 7 3 ∷ []
unfolding left_by
constraints_stay = refl

pub constrained_left : counts (constrained ++ (KP [] ∷ [])) ≡ 4 ∷ 2 ∷ 2 ∷ 1 ∷ 0 ∷ []
unfolding left_by counts_of
constrained_left = refl

-- V1's mark stands at 9: SV makes it u64 there
pub marks_stay : after (FV 1 ∷ NV 9 ∷ KP (1 ∷ []) ∷ SV ∷ []) (UF (var 3 0)) ≡ (0, default_u64 9)
unfolding after
marks_stay = refl

-- .. and its need: 100 bits want a u128
pub needs_stay : after (FV 1 ∷ NL 9 100 ∷ KP (1 ∷ []) ∷ SV ∷ []) (UF (var 3 0)) ≡ (0, at 3 9 ++ (23 ∷ 4 ∷ []))
unfolding after
needs_stay = refl

-- two vectors in a circle
pub circles_stay : after (FV 0 ∷ FV 0 ∷ JN (var 0 0) (vector 0 (var 0 1)) ∷ JN (var 0 1) (vector 0 (var 0 0)) ∷ FV 0 ∷ KP (1 ∷ []) ∷ []) (RD (var 0 0)) ≡ (9, [])
unfolding after
circles_stay = refl

pub declarations_stay : counts (hex "5344 0f 01 00" ∷ FV 1 ∷ JN (var 0 0) (u8 0) ∷ KP [] ∷ []) ≡ 0 ∷ 0 ∷ 0 ∷ 0 ∷ 1 ∷ []
unfolding left_by counts_of
declarations_stay = refl

pub listed_twice : after (FV 1 ∷ FV 2 ∷ []) (KP (1 ∷ 1 ∷ [])) ≡ (0, hex "01000000")
unfolding after
listed_twice = refl

-- ---- argument places: nodes 2 and 3 share places 1 and 2, place 0 is node 1's, place 3 nobody's

abbrev pub shared : State
shared = record {
  nodes =
      record { loc = 1; value = UnitType } ∷ record { loc = 2; value = Apply None (Multiple 1) (record { first = 0; many = 1 }) } ∷
      record { loc = 3; value = Apply None (Multiple 2) (record { first = 1; many = 2 }) } ∷ record { loc = 4; value = Apply None (Multiple 2) (record { first = 1; many = 2 }) } ∷
      record { loc = 5; value = Apply None (Multiple 0) (record { first = 4; many = 0 }) } ∷ [];
  args = 0 ∷ 0 ∷ 0 ∷ 0 ∷ [];
  vars = unbound ∷ record { binding = Some 2; numeric = None; need = 0 } ∷ record { binding = Some 3; numeric = Some 8; need = 100 } ∷ record { binding = Some 4; numeric = None; need = 0 } ∷ [];
  constraints = [];
  structs = [];
}

unfoldable pub cleared_by : State → List ℕ → State
unfolding answered left_by
cleared_by s listed = cleared s listed

-- V1, V2 and V3 stay: node 1 and places 0 and 3 go, the shared places stay once each
pub places_stay_shared : cleared_by shared (1 ∷ 2 ∷ 3 ∷ []) ≡ record {
  nodes =
      record { loc = 1; value = UnitType } ∷
      record { loc = 3; value = Apply None (Multiple 2) (record { first = 0; many = 2 }) } ∷ record { loc = 4; value = Apply None (Multiple 2) (record { first = 0; many = 2 }) } ∷
      record { loc = 5; value = Apply None (Multiple 0) (record { first = 2; many = 0 }) } ∷ [];
  args = 0 ∷ 0 ∷ [];
  vars = record { binding = Some 1; numeric = None; need = 0 } ∷ record { binding = Some 2; numeric = Some 8; need = 100 } ∷ record { binding = Some 3; numeric = None; need = 0 } ∷ [];
  constraints = [];
  structs = [];
}
unfolding cleared_by
places_stay_shared = refl

-- ---- turned down

pub not_taken_is_6 : after (FV 1 ∷ []) (KP (0 ∷ 1 ∷ [])) ≡ (6, [])
unfolding after
not_taken_is_6 = refl

pub cut_is_5 : after (FV 1 ∷ []) (hex "4b50 02 0000 00") ≡ (5, [])
unfolding after
cut_is_5 = refl

pub byte_left_over_is_5 : after (FV 1 ∷ []) (KP (0 ∷ []) ++ (0 ∷ [])) ≡ (5, [])
unfolding after
byte_left_over_is_5 = refl

pub fresh_state : after [] (KP []) ≡ (0, [])
unfolding after
fresh_state = refl

-- ---- demand 3: where a variable is after KP and FV

unfoldable pub where_is : List (Bytes × ℕ) → ℕ → ℕ → ℕ → Option ℕ
unfolding answered two_types_calls if_reached run_calls pair_events nothing_done many_events stays one_event events_by lent_events events trace followed from_to
where_is records i j v = from_to fresh records i j v

abbrev pub job : List (Bytes × ℕ)
job = (FV 1, 4096) ∷ (FV 2, 4096) ∷ (KP (1 ∷ []), 4096) ∷ (FV 3, 4096) ∷ []

pub survivor_is_followed : where_is job 2 4 1 ≡ Some 0
unfolding where_is
survivor_is_followed = refl

-- the new V1 is not what the old V0 or V1 follows to
pub gone_is_followed_no_further : where_is job 2 4 0 ≡ None
unfolding where_is
gone_is_followed_no_further = refl

pub from_after_KP_on : where_is job 3 4 0 ≡ Some 0
unfolding where_is
from_after_KP_on = refl
