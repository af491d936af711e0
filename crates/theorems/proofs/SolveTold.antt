-- A failure of each code is told by SV, once, computed. Assumes nothing.
use mathlib.Core.Path.{◌≡◌, refl}
use mathlib.Core.List.{[], ◌∷◌, ◌++◌}
use Rattle.definition.specs.Write.{u32}
use Rattle.definition.proofs.Computed.{answers_of}
use Rattle.definition.proofs.Spelling.{unit, imm, u8, bool, list, NC, BC, SC, SV}

-- a failure of each code, and nothing of them after a second SV
told_once : answers_of (NC 1 0 (bool 2) ∷ BC 3 (imm 4 (u8 5)) ∷ SC 6 (list 7 []) ∷ BC 8 (unit 9) ∷ SC 10 (imm 11 (u8 12)) ∷ SV ∷ SV ∷ [])
    ≡ (0, []) ∷ (0, []) ∷ (0, []) ∷ (0, []) ∷ (0, []) ∷ (0, 1 ∷ u32 1 ++ bool 2 ++ (2 ∷ u32 3 ++ imm 4 (u8 5)) ++ (3 ∷ u32 6 ++ list 7 []) ++ (2 ∷ u32 8 ++ unit 9)) ∷ (0, []) ∷ []
unfolding answers_of u32
told_once = refl
