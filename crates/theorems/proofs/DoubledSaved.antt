-- R-6: states saved earlier may hold a reference directly under a reference. Over any state a record without one is answered as before. And computed, over a state with `&&u8` and
-- `&mut &u8`: it is sound, JN, SU, UF and RD answer as before R-6, and RD prints the type, which a record may no longer have. Assumes nothing.
use mathlib.Core.Path.{◌≡◌, refl, ap}
use mathlib.Core.Bool.{true, false}
use mathlib.Core.List.{List, [], ◌∷◌, ◌++◌, map}
use Rattle.std.specs.Prelude.{None, Some}
use Prim.Native.Nat.{ℕ}
use Rattle.definition.specs.Types.{Apply, Builtin, Ref, State, unsound_state}
use Rattle.definition.specs.Write.{Bytes}
use Rattle.definition.specs.Reader.{Read, got}
use Rattle.definition.specs.Record.{Record}
use Rattle.definition.specs.Sound.{sound}
use Rattle.definition.specs.Step.{Answer, refusal, usable, lent, step}
use Rattle.theorems.proofs.DemandTracks.{never}
use Rattle.definition.proofs.Computed.{answered, left_by}
use Rattle.definition.proofs.Spelling.{imm, mut, u8, var, JN, SU, UF, RD}
use Rattle.theorems.proofs.Doubled.{doubled_record, NoDoubledRecord, by_tag_with, nested_with, pair_with, TS_with, case_pair_with, MJ_with, by_mark_with, fields_with, record_with, read_01, read_record_01}
use Rattle.theorems.proofs.DoubledReads.{AsBefore, given_as_before, given_with_one, refused_as_before, refused_sooner, record_as_before}

-- ---- over any state

-- a call whose record is read so
unfoldable pub step_of : State → Bytes → ℕ → Read Record → Answer
step_of s bytes buffer x = elim (usable s bytes buffer) [ true ↦ lent s x | false ↦ refusal s unsound_state ]

-- .. as before R-6, by 01's reader
unfoldable pub step_01 : State → Bytes → ℕ → Answer
step_01 s bytes buffer = step_of s bytes buffer (read_record_01 s bytes)

read_same : {r : Record} {rest : Bytes} {x y : Read Record} → AsBefore doubled_record x y → x ≡ got r rest → NoDoubledRecord r → y ≡ x
read_same (given_as_before e) d n = refl
read_same (given_with_one e) d n = never (cc)
read_same refused_as_before d n = refl
read_same refused_sooner d n = never (cc)

pub answers_as_before : (s : State) (bytes : Bytes) (buffer : ℕ) (r : Record) (rest : Bytes) → read_record_01 s bytes ≡ got r rest → NoDoubledRecord r → step s bytes buffer ≡ step_01 s bytes buffer
unfolding step step_of step_01
answers_as_before s bytes buffer r rest d n = ap (step_of s bytes buffer) (read_same (record_as_before s bytes) d n)

-- ---- computed

-- u8, `&u8`, `&&u8`, `&mut &u8`; V0 is bound to the third, V1 to the fourth
abbrev pub saved : State
saved = record {
  nodes = record { loc = 1; value = Apply None (Builtin 2) (record { first = 0; many = 0 }) } ∷ record { loc = 2; value = Ref false 0 } ∷ record { loc = 3; value = Ref false 1 } ∷ record { loc = 4; value = Ref true 1 } ∷ [];
  args = [];
  vars = record { binding = Some 2; numeric = None; need = 0 } ∷ record { binding = Some 3; numeric = None; need = 0 } ∷ [];
  constraints = [];
  structs = [];
}

pub saved_is_sound : sound saved ≡ true
unfolding answered
saved_is_sound = refl

-- a record, and the number and payload of its answer
abbrev pub saved_calls : List (Bytes × ℕ × Bytes)
saved_calls =
    (RD (var 5 0), 0, imm 3 (imm 2 (u8 1))) ∷
    (RD (var 5 1), 0, mut 4 (imm 2 (u8 1))) ∷
    (UF (var 5 1), 0, mut 4 (imm 2 (u8 1))) ∷
    -- the new variable is `&&u8`
    (JN (var 5 0) (var 6 1), 0, var 6 2) ∷
    (JN (var 5 1) (var 6 0), 0, var 6 2) ∷
    (SU (var 5 1) (var 6 0), 0, var 6 2) ∷
    -- `&&u8` is no `&mut &u8`
    (SU (var 5 0) (var 6 1), 1, imm 3 (imm 2 (u8 1)) ++ mut 4 (imm 2 (u8 1))) ∷
    -- `&&&u8`, of a record that has none
    (RD (imm 5 (var 6 0)), 0, imm 5 (imm 3 (imm 2 (u8 1)))) ∷
    []

abbrev saved_answers : List (ℕ × Bytes)
saved_answers = map (λ (c : Bytes × ℕ × Bytes). (c.1, c.2)) saved_calls

pub saved_states : map (λ (c : Bytes × ℕ × Bytes). answered saved c.0 4096) saved_calls ≡ saved_answers
unfolding answered
saved_states = refl

-- .. and as before R-6
pub saved_states_01 : map (λ (c : Bytes × ℕ × Bytes). let a : Answer = step_01 saved c.0 4096 in (a.number, a.payload)) saved_calls ≡ saved_answers
unfolding answered step_01 step_of read_record_01 read_01 record_with fields_with by_mark_with TS_with pair_with MJ_with case_pair_with nested_with by_tag_with
saved_states_01 = refl

pub joined_is_doubled : answered (left_by saved (JN (var 5 0) (var 6 1) ∷ [])) (RD (var 7 2)) 4096 ≡ (0, imm 3 (imm 2 (u8 1)))
unfolding answered left_by
joined_is_doubled = refl

-- what RD printed
pub no_longer_a_record : answered saved (RD (imm 3 (imm 2 (u8 1)))) 4096 ≡ (18, [])
unfolding answered
no_longer_a_record = refl
