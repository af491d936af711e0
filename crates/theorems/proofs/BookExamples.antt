-- The Move Book's examples: by its rules, and by the definition's subtype and SV, computed. Assumes nothing.
use mathlib.Core.Path.{◌≡◌, refl}
use mathlib.Core.Bool.{Bool, true, false}
use mathlib.Core.List.{[], ◌∷◌, ◌++◌}
use Prim.Native.Nat.{ℕ}
use Rattle.definition.specs.Types.{Builtin}
use Rattle.definition.specs.Write.{Bytes}
use Rattle.definition.specs.Book.{MoveType, reference, tuple, named, no_types, ◌and◌, BookSubtype, itself, mut_as_imm, tuples, no_more, each}
use Rattle.theorems.proofs.DemandTracks.{never}
use Rattle.definition.proofs.Computed.{answers_of}
use Rattle.definition.proofs.Spelling.{imm, mut, builtin, u8, default_u64, list, var, NV, SU, UF, SV}

-- ---- by the Book's rules

abbrev pub u64_type : MoveType
u64_type = named (Builtin 3) no_types

abbrev pub two : Bool → Bool → MoveType
two m n = tuple (◌and◌ (reference m u64_type) (◌and◌ (reference n u64_type) no_types))

-- (&u64, &mut u64) and (&mut u64, &mut u64) are subtypes of (&u64, &u64)
pub second_mutable : BookSubtype (two false true) (two false false)
second_mutable = tuples (each itself (each mut_as_imm no_more))

pub both_mutable : BookSubtype (two true true) (two false false)
both_mutable = tuples (each mut_as_imm (each mut_as_imm no_more))

-- (&u64, &mut u64) is no subtype of (&mut u64, &mut u64)
pub not_mutable : BookSubtype (two false true) (two true true) → ⊥
not_mutable s = never (let e : true ≡ false = first s in cc)
  where
    imm : {m m' : Bool} {T T' : MoveType} → BookSubtype (reference m T) (reference m' T') → m ≡ false → m' ≡ false
    imm itself e = e
    imm mut_as_imm e = refl

    first : BookSubtype (two false true) (two true true) → true ≡ false
    first (tuples (each t ts)) = imm t refl

-- ---- by subtype: the answer, and the right type or the two types shown

abbrev u64 : ℕ → Bytes
u64 loc = builtin loc 3

-- a &mut u64 where a &u64 is wanted
mut_given_for_imm : answers_of (SU (mut 1 (u64 2)) (imm 3 (u64 4)) ∷ []) ≡ (0, imm 3 (u64 4)) ∷ []
unfolding answers_of
mut_given_for_imm = refl

-- a &u64 where a &mut u64 is wanted
imm_given_for_mut : answers_of (SU (imm 1 (u64 2)) (mut 3 (u64 4)) ∷ []) ≡ (1, imm 1 (u64 2) ++ mut 3 (u64 4)) ∷ []
unfolding answers_of
imm_given_for_mut = refl

-- a type goes where itself is wanted, and no integer type where another is
itself_given : answers_of (SU (u64 1) (u64 2) ∷ SU (u8 3) (u64 4) ∷ []) ≡ (0, u64 2) ∷ (2, u8 3 ++ u64 4) ∷ []
unfolding answers_of
itself_given = refl

-- (&u64, &mut u64) and (&mut u64, &mut u64) where (&u64, &u64) is wanted
tuples_given : answers_of (SU (list 1 (imm 2 (u64 3) ∷ mut 4 (u64 5) ∷ [])) (list 6 (imm 7 (u64 8) ∷ imm 9 (u64 10) ∷ []))
    ∷ SU (list 1 (mut 2 (u64 3) ∷ mut 4 (u64 5) ∷ [])) (list 6 (imm 7 (u64 8) ∷ imm 9 (u64 10) ∷ [])) ∷ [])
    ≡ (0, list 6 (imm 7 (u64 8) ∷ imm 9 (u64 10) ∷ [])) ∷ (0, list 6 (imm 7 (u64 8) ∷ imm 9 (u64 10) ∷ [])) ∷ []
unfolding answers_of
tuples_given = refl

-- (&u64, &mut u64) where (&mut u64, &mut u64) is wanted: the first element fails, and is shown
tuple_refused : answers_of (SU (list 1 (imm 2 (u64 3) ∷ mut 4 (u64 5) ∷ [])) (list 6 (mut 7 (u64 8) ∷ mut 9 (u64 10) ∷ [])) ∷ []) ≡ (1, imm 2 (u64 3) ++ mut 7 (u64 8)) ∷ []
unfolding answers_of
tuple_refused = refl

-- tuples of two and three
other_count : answers_of (SU (list 1 (u64 2 ∷ u64 3 ∷ [])) (list 4 (u64 5 ∷ u64 6 ∷ u64 7 ∷ [])) ∷ []) ≡ (3, list 1 (u64 2 ∷ u64 3 ∷ []) ++ list 4 (u64 5 ∷ u64 6 ∷ u64 7 ∷ [])) ∷ []
unfolding answers_of
other_count = refl

-- ---- by SV: a literal without annotation is a u64, one used as a u8 is a u8

literals : answers_of (NV 1 ∷ NV 2 ∷ SU (var 3 1) (u8 4) ∷ SV ∷ UF (var 5 0) ∷ UF (var 6 1) ∷ []) ≡ (0, var 1 0) ∷ (0, var 2 1) ∷ (0, var 3 1) ∷ (0, []) ∷ (0, default_u64 1) ∷ (0, u8 4) ∷ []
unfolding answers_of
literals = refl
