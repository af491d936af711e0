-- SV's ability constraints, computed: R-1's worked values, 9 and 16 and their order. Some lines are false under an edit of must-fail/ (docs/CLAIMS.md,
-- 'Edits of the definition'). Assumes nothing.
use Rattle.std.proofs.Common.{◌≡◌, ℕ, List, [], ◌∷◌, ◌++◌, refl}
use Rattle.definition.specs.Write.{Bytes, u16, u32}
use Rattle.definition.proofs.Spelling.{at, any, builtin, u8, vector, joined, var, hex, SD, FV, JN, IN, SV}
use Rattle.definition.proofs.AnswersJoin.{after}

-- ---- spelling

-- struct n with a mark byte and arguments
abbrev pub struct : ℕ → ℕ → ℕ → List Bytes → Bytes
unfolding u16
struct loc mark n ts = at 5 loc ++ (mark ∷ u16 n) ++ joined ts

-- builtin b with a mark byte and arguments
abbrev pub marked : ℕ → ℕ → ℕ → List Bytes → Bytes
marked loc mark b ts = at 3 loc ++ (mark ∷ b ∷ joined ts)

abbrev pub signer : ℕ → Bytes
signer loc = builtin loc 1

-- a row of code 4
abbrev pub row : ℕ → ℕ → Bytes → Bytes → Bytes
unfolding u32
row loc ability t why = 4 ∷ u32 loc ++ (ability ∷ t ++ why)

-- ---- R-1's worked values

abbrev pub asking : List Bytes
asking = SD 15 (1 ∷ 24 ∷ []) ∷ IN (struct 2 0 0 (signer 3 ∷ u8 4 ∷ [])) ∷ []

pub copy_and_key_missing : after asking SV ≡ (0, hex "04 02000000 01 03030000000001 01 04 02000000 08 03040000000002 01")
unfolding after
copy_and_key_missing = refl

pub second_SV_shows_nothing : after (asking ++ (SV ∷ [])) SV ≡ (0, [])
unfolding after
second_SV_shows_nothing = refl

-- S0 asks copy of its argument
abbrev pub asks_copy : Bytes → List Bytes
asks_copy t = SD 0 (1 ∷ []) ∷ SD 0 [] ∷ SD 1 (16 ∷ []) ∷ IN (struct 2 0 0 (t ∷ [])) ∷ []

pub argument_lacks_copy : after (asks_copy (vector 3 (signer 4))) SV ≡ (0, hex "04 02000000 01 0303000000000506040000000100 02 00")
unfolding after
argument_lacks_copy = refl

pub mark_contradicted_is_16 : after (asks_copy (marked 3 16 5 (u8 4 ∷ []))) SV ≡ (16, [])
unfolding after
mark_contradicted_is_16 = refl

-- ---- 16

pub builtin_contradicted : after (asks_copy (marked 3 18 2 [])) SV ≡ (16, [])
unfolding after
builtin_contradicted = refl

-- S1, which has nothing, is a phantom argument
pub phantom_alone_lacks : after (asks_copy (struct 3 16 2 (struct 4 0 1 [] ∷ []))) SV ≡ (16, [])
unfolding after
phantom_alone_lacks = refl

-- ---- 9: V and the next variable hold vectors of each other

abbrev pub circle : ℕ → ℕ → List Bytes
circle v w = FV 21 ∷ FV 22 ∷ JN (var 23 v) (vector 25 (var 24 w)) ∷ JN (var 26 w) (vector 28 (var 27 v)) ∷ []

-- IN asks nothing of a vector's argument, V2
pub nine_though_nothing_is_asked : after (IN (vector 2 (any 1)) ∷ circle 3 4 ++ (JN (var 29 2) (var 30 3) ∷ [])) SV ≡ (9, [])
unfolding after
nine_though_nothing_is_asked = refl

abbrev pub holding : Bytes → List Bytes
holding t = asks_copy (any 4) ++ circle 3 4 ++ (JN (var 29 2) t ∷ [])

pub nine_through_phantom : after (holding (struct 31 0 2 (var 30 3 ∷ []))) SV ≡ (9, [])
unfolding after
nine_through_phantom = refl

pub nine_under_a_mark : after (holding (marked 31 17 5 (var 30 3 ∷ []))) SV ≡ (9, [])
unfolding after
nine_under_a_mark = refl

pub nine_before_16 : after (holding (struct 31 16 2 (var 30 3 ∷ []))) SV ≡ (9, [])
unfolding after
nine_before_16 = refl

-- ---- two constraints

pub nine_then_sixteen : after (holding (var 30 3) ++ (IN (struct 5 0 0 (marked 6 18 2 [] ∷ [])) ∷ [])) SV ≡ (9, [])
unfolding after
nine_then_sixteen = refl

pub sixteen_then_nine : after (asks_copy (marked 3 18 2 []) ++ (IN (struct 5 0 0 (any 6 ∷ [])) ∷ circle 4 5) ++ (JN (var 29 3) (var 30 4) ∷ [])) SV ≡ (16, [])
unfolding after
sixteen_then_nine = refl
