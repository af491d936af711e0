-- R-2's types u16, u32 and u256 through every kind of record that tells integer types apart, as one list, computed. Assumes nothing.
use Rattle.std.proofs.Common.{◌≡◌, ℕ, eqb, List, [], ◌∷◌, ◌++◌, refl}
use Rattle.std.specs.Prelude.{if◌then◌else◌}
use Rattle.definition.specs.Write.{Bytes, u32}
use Rattle.definition.proofs.Computed.{answers_of}
use Rattle.definition.proofs.Marked.{Call, answered, wanted}
use Rattle.definition.proofs.Spelling.{at, builtin, bool, vector, param, var, NV, JN, SU, UF, IN, TS, NC, SV}

-- the builtin b with a mark
abbrev pub marked : ℕ → ℕ → ℕ → Bytes
marked loc mark b = at 3 loc ++ (mark ∷ b ∷ [])

abbrev pub integer_types : List ℕ
integer_types = 2 ∷ 3 ∷ 4 ∷ 7 ∷ 8 ∷ 9 ∷ []

-- b with c: itself, or 2 showing both
abbrev pub met : ℕ → ℕ → Call
met b c = record { records = JN (builtin 1 b) (builtin 2 c) ∷ SU (builtin 3 c) (builtin 4 b) ∷ []; answers = if eqb b c then (0, builtin 2 c) ∷ (0, builtin 4 b) ∷ [] else (2, builtin 1 b ++ builtin 2 c) ∷ (2, builtin 3 c ++ builtin 4 b) ∷ [] }

abbrev pub wider : ℕ → List Call
wider b =
    record { records = UF (builtin 1 b) ∷ []; answers = (0, builtin 1 b) ∷ [] } ∷
    -- with each integer type, and with one that is none
    met b 2 ∷ met b 3 ∷ met b 4 ∷ met b 7 ∷ met b 8 ∷ met b 9 ∷ met b 6 ∷
    -- with a numeric variable, on either side; bool is turned down
    record { records = NV 9 ∷ JN (var 1 0) (builtin 2 b) ∷ UF (var 3 0) ∷ []; answers = (0, var 9 0) ∷ (0, var 1 0) ∷ (0, builtin 2 b) ∷ [] } ∷
    record { records = NV 9 ∷ JN (builtin 1 b) (var 2 0) ∷ UF (var 3 0) ∷ []; answers = (0, var 9 0) ∷ (0, var 2 0) ∷ (0, builtin 1 b) ∷ [] } ∷
    record { records = NV 9 ∷ JN (var 1 0) (builtin 2 b) ∷ JN (var 3 0) (bool 4) ∷ []; answers = (0, var 9 0) ∷ (0, var 1 0) ∷ (2, builtin 2 b ++ bool 4) ∷ [] } ∷
    -- NC of every kind
    record { records = NC 1 0 (builtin 2 b) ∷ NC 3 1 (builtin 4 b) ∷ NC 5 2 (builtin 6 b) ∷ SV ∷ []; answers = (0, []) ∷ (0, []) ∷ (0, []) ∷ (0, []) ∷ [] } ∷
    -- in a vector, in IN and in TS
    record { records = JN (vector 1 (builtin 2 b)) (vector 3 (builtin 4 b)) ∷ []; answers = (0, vector 3 (builtin 4 b)) ∷ [] } ∷
    record { records = IN (builtin 1 b) ∷ []; answers = (0, builtin 1 b) ∷ [] } ∷
    record { records = TS ((7, builtin 1 b) ∷ []) (vector 2 (param 3 7)) ∷ []; answers = (0, vector 2 (builtin 1 b)) ∷ [] } ∷
    -- a mark must have drop: 16 is the empty set, 18 has drop
    record { records = UF (marked 1 16 b) ∷ UF (marked 1 18 b) ∷ []; answers = (5, []) ∷ (0, marked 1 18 b) ∷ [] } ∷
    []

abbrev pub wider_calls : List Call
wider_calls =
    wider 7 ++ wider 8 ++ wider 9 ++
    -- there is no builtin 10
    (record { records = UF (builtin 1 10) ∷ []; answers = (5, []) ∷ [] } ∷ [])

pub wider_answers : answered wider_calls ≡ wanted wider_calls
unfolding answers_of u32
wider_answers = refl
