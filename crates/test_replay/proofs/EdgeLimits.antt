-- 01's limits, the last that fits (of the payload and of the variables both sides, by whole calls), computed in states written down. The other side of each is in
-- crates/definition, AnswersLimits. Assumes nothing.
use mathlib.Core.Path.{◌≡◌, refl}
use mathlib.Core.List.{[], ◌∷◌}
use Rattle.definition.specs.Types.{Param}
use Rattle.definition.proofs.Computed.{answered}
use Rattle.definition.proofs.Spelling.{unit, u8, vector, var, SD, FV, UF, BC, RM}
use Rattle.definition.proofs.AnswersLimits.{unit_node, filled, deep}
use Rattle.definition.proofs.AnswersSpace.{told}

node_2048 : answered (filled 2047 0 0 0 0) (UF (unit 1)) 4096 ≡ (0, unit 1)
unfolding answered
node_2048 = refl

argument_4096 : answered (filled 1 4095 0 0 0) (UF (vector 1 (unit 2))) 4096 ≡ (0, vector 1 (unit 2))
unfolding answered
argument_4096 = refl

variable_1024 : answered (filled 0 0 1023 0 0) (FV 1) 4096 ≡ (0, var 1 1023)
unfolding answered
variable_1024 = refl

variable_1025_is_7 : answered (filled 0 0 1024 0 0) (FV 1) 4096 ≡ (7, [])
unfolding answered
variable_1025_is_7 = refl

constraint_512 : answered (filled 1 0 0 511 0) (BC 0 (unit 1)) 4096 ≡ (0, [])
unfolding answered
constraint_512 = refl

struct_256 : answered (filled 0 0 0 0 255) (SD 0 []) 4096 ≡ (0, 255 ∷ 0 ∷ [])
unfolding answered
struct_256 = refl

payload_4096 : (answered (deep (record { loc = 0; value = Param 0 0 }) 681) (UF (var 1 0)) 4096).0 ≡ 0
unfolding answered
payload_4096 = refl

payload_4097_is_14 : answered (deep unit_node 682) (UF (var 1 0)) 4096 ≡ (14, [])
unfolding answered
payload_4097_is_14 = refl

-- RM places nothing
RM_needs_no_room : answered (filled 2048 4096 1024 512 256) (RM (u8 1)) 4096 ≡ told 2 0 0 0
unfolding answered
RM_needs_no_room = refl
