-- Lent states at the edges: a join at the last nodes, argument places shared and apart. Limits, depth and the rules of a sound state are in crates/definition,
-- AnswersLimits and AnswersSound. Assumes nothing.
use mathlib.Core.Path.{◌≡◌, refl}
use mathlib.Core.List.{List, [], ◌∷◌}
use Rattle.std.specs.Prelude.{None, Some}
use Prim.Native.Nat.{ℕ}
use Rattle.definition.specs.Types.{Apply, Multiple, Places, State}
use Rattle.definition.proofs.Computed.{answered}
use Rattle.definition.proofs.Spelling.{list, RD, unit, u8, var, JN, UF}
use Rattle.definition.proofs.AnswersLimits.{unit_node, filled}

-- number and payload of a lent record's answer, with a buffer of 4,096 bytes
nodes_fit : answered (filled 2045 0 0 0 0) (JN (u8 1) (u8 2)) 4096 ≡ (0, u8 2)
unfolding answered
nodes_fit = refl

nodes_full : answered (filled 2046 0 0 0 0) (JN (u8 1) (u8 2)) 4096 ≡ (7, [])
unfolding answered
nodes_full = refl

-- ---- argument places of a lent state: `()`, and two lists of one part

abbrev two_lists : Places → Places → List ℕ → State
two_lists p q args = record {
  nodes = unit_node ∷ record { loc = 1; value = Apply None (Multiple 1) p } ∷ record { loc = 2; value = Apply None (Multiple 1) q } ∷ [];
  args = args;
  vars = record { binding = Some 1; numeric = None; need = 0 } ∷ record { binding = Some 2; numeric = None; need = 0 } ∷ [];
  constraints = [];
  structs = [];
}

abbrev place : ℕ → ℕ → Places
place first many = record { first = first; many = many }

-- one place for both
shared : answered (two_lists (place 0 1) (place 0 1) (0 ∷ [])) (RD (list 3 (var 4 0 ∷ var 5 1 ∷ []))) 4096 ≡ (0, list 3 (list 1 (unit 0 ∷ []) ∷ list 2 (unit 0 ∷ []) ∷ []))
unfolding answered
shared = refl

-- places that no node has, whatever is there
gaps : answered (two_lists (place 2 1) (place 4 1) (9 ∷ 9 ∷ 0 ∷ 9 ∷ 1 ∷ 9 ∷ [])) (UF (var 4 1)) 4096 ≡ (0, list 2 (list 1 (unit 0 ∷ []) ∷ []))
unfolding answered
gaps = refl
