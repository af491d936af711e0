-- R-7 as one list, by one check: pairs of needs merged both ways, each width just met and just missed wherever a variable is bound, chains through `!`, SN before and
-- after NL, SV over chains that share an end. Assumes nothing.
use Rattle.std.proofs.Common.{◌≡◌, ℕ, List, [], ◌∷◌, ◌++◌, map, refl}
use Rattle.definition.specs.Types.{fresh, refused, full, max_vars, ◌>>=◌}
use Rattle.definition.specs.Store.{need_of, next_tvar}
use Rattle.definition.specs.Step.{run}
use Rattle.definition.specs.Write.{u32}
use Rattle.definition.specs.Record as record_of
use Rattle.definition.proofs.Computed.{answers_of, left_by}
use Rattle.definition.proofs.Marked.{Call, answered, wanted}
use Rattle.definition.proofs.AnswersLimits.{filled}
use Rattle.definition.proofs.Spelling.{error, builtin, var, FV, NL, SN, JN, UF, SV}
use Rattle.definition.proofs.AnswersNeeds.{solved}

-- ---- merges: V0 needs a, V1 needs b, V2 is theirs

abbrev pub needs : List ℕ
needs = 1 ∷ 8 ∷ 9 ∷ 64 ∷ 65 ∷ 128 ∷ 129 ∷ 256 ∷ []

unfoldable pub merged : ℕ → ℕ → ℕ
unfolding left_by
merged a b = need_of (left_by fresh (NL 1 a ∷ NL 2 b ∷ JN (var 3 0) (var 4 1) ∷ [])) 2

-- a row for each a, in it each b; (a, b) and (b, a) are the two ways
pub larger_of_each_pair : map (λ a. map (λ b. merged a b) needs) needs ≡
    (1 ∷ 8 ∷ 9 ∷ 64 ∷ 65 ∷ 128 ∷ 129 ∷ 256 ∷ []) ∷
    (8 ∷ 8 ∷ 9 ∷ 64 ∷ 65 ∷ 128 ∷ 129 ∷ 256 ∷ []) ∷
    (9 ∷ 9 ∷ 9 ∷ 64 ∷ 65 ∷ 128 ∷ 129 ∷ 256 ∷ []) ∷
    (64 ∷ 64 ∷ 64 ∷ 64 ∷ 65 ∷ 128 ∷ 129 ∷ 256 ∷ []) ∷
    (65 ∷ 65 ∷ 65 ∷ 65 ∷ 65 ∷ 128 ∷ 129 ∷ 256 ∷ []) ∷
    (128 ∷ 128 ∷ 128 ∷ 128 ∷ 128 ∷ 128 ∷ 129 ∷ 256 ∷ []) ∷
    (129 ∷ 129 ∷ 129 ∷ 129 ∷ 129 ∷ 129 ∷ 129 ∷ 256 ∷ []) ∷
    (256 ∷ 256 ∷ 256 ∷ 256 ∷ 256 ∷ 256 ∷ 256 ∷ 256 ∷ []) ∷
    []
unfolding merged
larger_of_each_pair = refl

-- ---- answers

-- the builtin b has so many bits: just met, in arm 8, in arm 9 and in a merge with V1, which holds b
abbrev pub met : ℕ → ℕ → List Call
met b bits =
    record { records = NL 1 bits ∷ JN (var 2 0) (builtin 3 b) ∷ []; answers = (0, var 1 0) ∷ (0, var 2 0) ∷ [] } ∷
    record { records = NL 1 bits ∷ JN (builtin 2 b) (var 3 0) ∷ []; answers = (0, var 1 0) ∷ (0, var 3 0) ∷ [] } ∷
    record {
      records = NL 1 bits ∷ FV 2 ∷ JN (var 3 1) (builtin 4 b) ∷ JN (var 5 0) (var 6 1) ∷ [];
      answers = (0, var 1 0) ∷ (0, var 2 1) ∷ (0, var 3 1) ∷ (0, var 6 2) ∷ [];
    } ∷
    []

-- .. just missed: 2 shows both, in the merge the end types, `_` as the variable that was named
abbrev pub missed : ℕ → ℕ → List Call
missed b bits =
    record { records = NL 1 bits ∷ JN (var 2 0) (builtin 3 b) ∷ []; answers = (0, var 1 0) ∷ (2, var 2 0 ++ builtin 3 b) ∷ [] } ∷
    record { records = NL 1 bits ∷ JN (builtin 2 b) (var 3 0) ∷ []; answers = (0, var 1 0) ∷ (2, builtin 2 b ++ var 3 0) ∷ [] } ∷
    record {
      records = NL 1 bits ∷ FV 2 ∷ JN (var 3 1) (builtin 4 b) ∷ JN (var 5 0) (var 6 1) ∷ [];
      answers = (0, var 1 0) ∷ (0, var 2 1) ∷ (0, var 3 1) ∷ (2, var 5 0 ++ builtin 4 b) ∷ [];
    } ∷
    []

abbrev pub literal_calls : List Call
literal_calls =
    met 2 8 ++ met 7 16 ++ met 8 32 ++ met 3 64 ++ met 4 128 ++ met 9 256 ++
    missed 2 9 ++ missed 7 17 ++ missed 8 33 ++ missed 3 65 ++ missed 4 129 ++
    -- through `!`: the need is still asked for, and kept by the variable that comes of it
    (record { records = NL 1 9 ∷ JN (var 2 0) (error 3) ∷ JN (var 4 0) (builtin 5 2) ∷ []; answers = (0, var 1 0) ∷ (0, var 2 0) ∷ (2, error 3 ++ builtin 5 2) ∷ [] } ∷
    record {
      records = NL 1 9 ∷ JN (var 2 0) (error 3) ∷ JN (var 4 0) (error 5) ∷ JN (var 6 0) (builtin 7 2) ∷ JN (var 8 0) (builtin 9 7) ∷ [];
      answers = (0, var 1 0) ∷ (0, var 2 0) ∷ (0, var 5 2) ∷ (2, error 5 ++ builtin 7 2) ∷ (0, var 9 6) ∷ [];
    } ∷
    record { records = NL 1 65 ∷ JN (var 2 0) (error 3) ∷ SV ∷ UF (var 4 0) ∷ []; answers = (0, var 1 0) ∷ (0, var 2 0) ∷ (0, []) ∷ (0, solved 1 4) ∷ [] } ∷
    -- SN before NL, on a chain that then ends in the literal; and after it
    record {
      records = FV 1 ∷ SN 0 2 ∷ NL 3 9 ∷ JN (var 4 0) (var 5 1) ∷ JN (var 6 0) (builtin 7 2) ∷ [];
      answers = (0, var 1 0) ∷ (0, []) ∷ (0, var 3 1) ∷ (0, var 5 2) ∷ (2, var 6 0 ++ builtin 7 2) ∷ [];
    } ∷
    record { records = NL 1 9 ∷ SN 0 2 ∷ JN (var 3 0) (builtin 4 2) ∷ []; answers = (0, var 1 0) ∷ (0, []) ∷ (2, var 3 0 ++ builtin 4 2) ∷ [] } ∷
    record { records = FV 1 ∷ SN 0 2 ∷ JN (var 3 0) (builtin 4 2) ∷ []; answers = (0, var 1 0) ∷ (0, []) ∷ (0, var 3 0) ∷ [] } ∷
    -- V0, V1 and V3 share the end V4, which needs 200; V0 comes first and needs 9
    record {
      records = NL 1 9 ∷ NL 2 100 ∷ JN (var 3 0) (var 4 1) ∷ NL 5 200 ∷ JN (var 6 2) (var 7 3) ∷ SV ∷ UF (var 8 0) ∷ UF (var 8 1) ∷ UF (var 8 3) ∷ [];
      answers = (0, var 1 0) ∷ (0, var 2 1) ∷ (0, var 4 2) ∷ (0, var 5 3) ∷ (0, var 7 4) ∷ (0, []) ∷ (0, solved 1 9) ∷ (0, solved 1 9) ∷ (0, solved 1 9) ∷ [];
    } ∷
    [])

pub literal_answers : answered literal_calls ≡ wanted literal_calls
unfolding answers_of u32
literal_answers = refl

pub literal_1025_is_7 : run (filled 0 0 1024 0 0) (record_of.NL 1 9) ≡ refused full
unfolding run next_tvar max_vars ◌>>=◌
literal_1025_is_7 = refl
