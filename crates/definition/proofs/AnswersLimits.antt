-- 01's limits, computed in states written down: each line is false under an edit of must-fail/ (docs/CLAIMS.md, 'Edits of the definition'). The other side of each
-- count is in crates/test_replay, EdgeLimits. Assumes nothing.
use Rattle.std.proofs.Common.{◌≡◌, ℕ, zero, suc, false, List, [], ◌∷◌, ◌++◌, replicate, refl}
use Rattle.std.specs.Prelude.{None, Some}
use Rattle.definition.specs.Types.{UnitType, Ref, Node, unbound, BaseTypeConstraint, State, fresh, refused, full, max_vars, ◌>>=◌}
use Rattle.definition.specs.Store.{next_tvar}
use Rattle.definition.specs.Record as record_of
use Rattle.definition.specs.Write.{Bytes}
use Rattle.definition.specs.Step.{run, answer_with, max_payload, refusal, number_of_refusal}
use Rattle.definition.specs.Job.{decimal}
use Rattle.definition.proofs.Computed.{answered}
use Rattle.definition.proofs.Spelling.{text, unit, param, u8, vector, list, var, SD, JN, UF, BC}

-- ---- counts

abbrev pub unit_node : Node
unit_node = record { loc = 0; value = UnitType }

-- counts of nodes, argument places, variables, constraints and structs
abbrev pub filled : ℕ → ℕ → ℕ → ℕ → ℕ → State
filled nodes args vars constraints structs = record {
  nodes = replicate nodes unit_node;
  args = replicate args 0;
  vars = replicate vars unbound;
  constraints = replicate constraints (BaseTypeConstraint 0 0);
  structs = replicate structs (record { abilities = 0; params = [] });
}

pub node_2049_is_7 : answered (filled 2048 0 0 0 0) (UF (unit 1)) 4096 ≡ (7, [])
unfolding answered
node_2049_is_7 = refl

pub argument_4097_is_7 : answered (filled 1 4096 0 0 0) (UF (vector 1 (unit 2))) 4096 ≡ (7, [])
unfolding answered
argument_4097_is_7 = refl

-- MJ's types, from left to right over all pairs: the last finds no node, and nothing is done
pub many_nodes_2049_is_7 : answered (filled 2045 0 0 0 0) (text "MJ" ++ (2 ∷ 0 ∷ unit 1 ++ unit 2 ++ (0 ∷ unit 3 ++ unit 4))) 61485 ≡ (7, [])
unfolding answered
many_nodes_2049_is_7 = refl

-- the run alone: the test of so many chains, which a whole call begins with, is dear to compute (it is in EdgeLimits)
pub variable_1025_is_7 : run (filled 0 0 1024 0 0) (record_of.FV 1) ≡ refused full
unfolding run next_tvar max_vars ◌>>=◌
variable_1025_is_7 = refl

pub constraint_513_is_7 : answered (filled 1 0 0 512 0) (BC 0 (unit 1)) 4096 ≡ (7, [])
unfolding answered
constraint_513_is_7 = refl

pub struct_257_is_7 : answered (filled 0 0 0 0 256) (SD 0 []) 4096 ≡ (7, [])
unfolding answered
struct_257_is_7 = refl

-- ---- the payload: 6 bytes for a reference, 10 for a parameter, 5 for `()`

-- n references around node 0, from node i on
abbrev pub nested : ℕ → ℕ → List Node
nested zero i = []
nested (suc n) i = record { loc = 0; value = Ref false i } ∷ nested n (suc i)

-- V0 and V1 bound to n references around a leaf
abbrev pub deep : Node → ℕ → State
deep leaf n = record {
  nodes = leaf ∷ nested n 0;
  args = [];
  vars = replicate 2 (record { binding = Some n; numeric = None; need = 0 });
  constraints = [];
  structs = [];
}

-- the test of the length alone; of a type so long, by a whole call, in EdgeLimits
pub payload_4096 : (answer_with max_payload fresh 0 (replicate 4096 0) fresh).number ≡ 0
unfolding answer_with max_payload
payload_4096 = refl

pub payload_4097_is_14 : (answer_with max_payload fresh 0 (replicate 4097 0) fresh).number ≡ 14
unfolding answer_with max_payload refusal number_of_refusal
payload_4097_is_14 = refl

-- ---- depth: V0 and V1 bound to references around `()`

-- the entry's call, then one for each reference (the outermost's by the merge) and one for `()`
pub depth_256 : answered (deep unit_node 254) (JN (var 1 0) (var 2 1)) 4096 ≡ (0, var 2 2)
unfolding answered
depth_256 = refl

pub depth_257_is_8 : answered (deep unit_node 255) (JN (var 1 0) (var 2 1)) 4096 ≡ (8, [])
unfolding answered
depth_257_is_8 = refl

-- ---- a record of two bytes and a type: a list of eight lists of eight lists of eight u8, 585 types of seven bytes each

abbrev pub eight : Bytes → Bytes
eight t = list 0 (replicate 8 t)

-- two of the inner u8 are `()`, of two bytes less, and one is a parameter, of three more
abbrev pub one_less : Bytes
one_less = list 0 (list 0 (list 0 (unit 0 ∷ unit 0 ∷ param 0 7 ∷ replicate 5 (u8 0)) ∷ replicate 7 (eight (u8 0))) ∷ replicate 7 (eight (eight (u8 0))))

pub record_of_4096 : (answered fresh (UF one_less) 4096).0 ≡ 0
unfolding answered
record_of_4096 = refl

pub record_of_4097_is_5 : answered fresh (UF (eight (eight (eight (u8 0))))) 4096 ≡ (5, [])
unfolding answered
record_of_4097_is_5 = refl

-- ---- the answer buffer, before all else

pub buffer_of_4095_is_15 : answered fresh [] 4095 ≡ (15, [])
unfolding answered
buffer_of_4095_is_15 = refl

-- ---- record numbers

pub twenty_digits : decimal 18446744073709551615 ≡ text "18446744073709551615"
unfolding answered
twenty_digits = refl
