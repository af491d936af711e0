-- R-6: a reference directly under a reference, computed. Each line is false under an edit of must-fail/ (docs/CLAIMS.md, 'Edits of the definition'), but for the last list. Assumes nothing.
use Rattle.std.proofs.Common.{◌≡◌, ℕ, zero, suc, List, [], ◌∷◌, ◌++◌, refl}
use Rattle.definition.specs.Write.{Bytes}
use Rattle.definition.proofs.Computed.{answers_of, log_of}
use Rattle.definition.proofs.Marked.{Call, answered, wanted}
use Rattle.definition.proofs.Spelling.{text, at, unit, imm, mut, param, u8, vector, list, var, SD, FV, JN, SU, UF, RD, TS}
use Rattle.definition.proofs.AnswersJoin.{after}

pub doubled_is_18 : after [] (UF (imm 1 (imm 2 (u8 3)))) ≡ (18, [])
unfolding after
doubled_is_18 = refl

pub reference_under_a_list : after [] (UF (list 1 (imm 2 (u8 3) ∷ []))) ≡ (0, list 1 (imm 2 (u8 3) ∷ []))
unfolding after
reference_under_a_list = refl

-- n vectors around a type
abbrev pub vectors : ℕ → Bytes → Bytes
vectors zero t = t
vectors (suc n) t = vector 0 (vectors n t)

-- the outer reference at 64
pub nesting_65_is_5 : after [] (UF (vectors 63 (imm 1 (imm 2 (u8 3))))) ≡ (5, [])
unfolding after
nesting_65_is_5 = refl

-- FV is not run
pub eighteen_ends_the_job : log_of (UF (imm 1 (imm 2 (u8 3))) ++ FV 4) ≡ text "0 18\n"
unfolding log_of
eighteen_ends_the_job = refl

-- ---- where it stands, and what stands beside it

-- one record, its number and its payload
abbrev one : Bytes → ℕ → Bytes → Call
one r number payload = record { records = r ∷ []; answers = (number, payload) ∷ [] }

abbrev pub struct : ℕ → Bytes → Bytes
struct loc t = at 5 loc ++ (0 ∷ 0 ∷ 0 ∷ t)

abbrev pub references : ℕ → Bytes
references zero = unit 0
references (suc n) = imm 0 (references n)

abbrev pub doubled_calls : List Call
doubled_calls =
    -- mutable or not, each over each
    one (UF (imm 1 (mut 2 (u8 3)))) 18 [] ∷ one (UF (mut 1 (imm 2 (u8 3)))) 18 [] ∷ one (RD (mut 1 (mut 2 (u8 3)))) 18 [] ∷
    -- under a list, after another part; under a vector; under a struct
    one (UF (list 1 (u8 2 ∷ imm 3 (imm 4 (u8 5)) ∷ []))) 18 [] ∷ one (UF (vector 1 (imm 2 (imm 3 (u8 4))))) 18 [] ∷
    record { records = SD 0 (0 ∷ []) ∷ UF (struct 1 (imm 2 (imm 3 (u8 4)))) ∷ FV 5 ∷ []; answers = (0, 0 ∷ 0 ∷ []) ∷ (18, []) ∷ (0, var 5 0) ∷ [] } ∷
    -- directly: not with a vector between
    one (UF (imm 1 (vector 2 (imm 3 (u8 4))))) 0 (imm 1 (vector 2 (imm 3 (u8 4)))) ∷
    -- a variable that is bound to a reference is let through
    record {
      records = FV 1 ∷ JN (var 2 0) (imm 3 (u8 4)) ∷ RD (imm 5 (var 6 0)) ∷ [];
      answers = (0, var 1 0) ∷ (0, var 2 0) ∷ (0, imm 5 (imm 3 (u8 4))) ∷ [];
    } ∷
    -- in a pair of TS, and in its last type
    one (TS ((7, imm 1 (imm 2 (u8 3))) ∷ []) (param 4 7)) 18 [] ∷ one (TS ((7, u8 1) ∷ []) (imm 2 (imm 3 (param 4 7)))) 18 [] ∷
    -- .. which makes one of a parameter
    one (TS ((7, imm 1 (u8 2)) ∷ []) (imm 3 (param 4 7))) 0 (imm 3 (imm 1 (u8 2))) ∷
    -- in the second type of JN and SU
    one (JN (u8 1) (imm 2 (imm 3 (u8 4)))) 18 [] ∷ one (SU (imm 1 (u8 2)) (imm 3 (mut 4 (u8 5)))) 18 [] ∷
    -- cut before the inner tag, and after it; no tag there
    one (text "UF" ++ at 1 1 ++ (0 ∷ [])) 5 [] ∷ one (text "UF" ++ at 1 1 ++ (0 ∷ 1 ∷ [])) 18 [] ∷ one (text "UF" ++ at 1 1 ++ (0 ∷ 9 ∷ [])) 5 [] ∷
    -- the outer reference at 63, and 65 references
    one (UF (vectors 62 (imm 1 (imm 2 (u8 3))))) 18 [] ∷ one (UF (references 65)) 18 [] ∷
    -- a 5 or a 6 to the left wins, to the right it loses
    one (JN (at 9 1) (imm 2 (imm 3 (u8 4)))) 5 [] ∷ one (JN (var 1 0) (imm 2 (imm 3 (u8 4)))) 6 [] ∷ one (UF (at 1 1 ++ (2 ∷ imm 2 (u8 3)))) 5 [] ∷
    one (JN (imm 1 (imm 2 (u8 3))) (at 9 4)) 18 [] ∷ one (JN (imm 1 (imm 2 (var 3 0))) (u8 4)) 18 [] ∷ one (UF (imm 1 (imm 2 (u8 3))) ++ (0 ∷ [])) 18 [] ∷
    []

pub doubled_answers : answered doubled_calls ≡ wanted doubled_calls
unfolding answers_of
doubled_answers = refl
