-- How many parts the occurs walk looks at, computed on small states, beside places counted by hand in the spelling. Assumes nothing.
use mathlib.Core.Path.{◌≡◌, refl}
use mathlib.Core.Bool.{Bool, true, false}
use mathlib.Core.List.{[], ◌∷◌, ◌++◌}
use Rattle.std.specs.Prelude.{None}
use Prim.Native.Nat.{ℕ, zero, suc, ◌-◌}
use lib.ListN.{length, replicate}
use Rattle.definition.specs.Types.{State, fresh, Var, Apply, Multiple}
use Rattle.definition.specs.Store.{count}
use Rattle.definition.specs.Join.{used}
use Rattle.definition.specs.Spelled.{looked_at}
use Rattle.definition.specs.Write.{Bytes}
use Rattle.definition.proofs.Computed.{answered, left_by}
use Rattle.definition.proofs.Spelling.{imm, u8, vector, list, var, FV, BC}

-- V0 to V3 taken, and a type kept by a constraint: its node is the last one
unfoldable pub with_type : Bytes → State
unfolding left_by
with_type t = left_by fresh (FV 1 ∷ FV 2 ∷ FV 3 ∷ FV 4 ∷ BC 5 t ∷ [])

-- whether v is met in it, and how many parts are looked at
unfoldable pub looked : ℕ → State → Bool × ℕ
unfolding answered left_by
looked v s = (used (count s) s v (count s - 1), looked_at s v (count s - 1))

pub alone_met : looked 0 (with_type (var 1 0)) ≡ (true, 1)
unfolding looked with_type
alone_met = refl

pub alone_not_met : looked 1 (with_type (var 1 0)) ≡ (false, 1)
unfolding looked with_type
alone_not_met = refl

pub under_a_vector : looked 0 (with_type (vector 1 (var 1 0))) ≡ (true, 2)
unfolding looked with_type
under_a_vector = refl

-- (&V1, vector<u8>, V2, V2): list, reference, V1, vector, u8, V2, V2
abbrev pub row : Bytes
row = list 1 (imm 2 (var 3 1) ∷ vector 4 (u8 5) ∷ var 6 2 ∷ var 7 2 ∷ [])

pub first_of_two : looked 2 (with_type row) ≡ (true, 6)
unfolding looked with_type
first_of_two = refl

pub in_a_reference : looked 1 (with_type row) ≡ (true, 3)
unfolding looked with_type
in_a_reference = refl

pub all_parts : looked 3 (with_type row) ≡ (false, 7)
unfolding looked with_type
all_parts = refl

-- ---- shared nodes: a bottom, and lists of eight of the one below

abbrev pub rungs : ℕ → ℕ → State → State
rungs zero t s = s
rungs (suc n) t s = rungs n (suc t) (record {
  nodes = s.nodes ++ (record { loc = 0; value = Apply None (Multiple 8) (record { first = length (s.args); many = 8 }) } ∷ []);
  args = s.args ++ replicate 8 t;
  vars = s.vars;
  constraints = [];
  structs = [];
})

abbrev pub on : State
on = record { nodes = record { loc = 0; value = Var 1 } ∷ []; args = []; vars = replicate 3 (record { binding = None; numeric = None; need = 0 }); constraints = []; structs = [] }

-- V1 is met on the way down, at the fifth tag
pub first_way_down : looked 1 (rungs 4 0 on) ≡ (true, 5)
unfolding looked
first_way_down = refl

-- 1 + 8 + 64 + 512 parts
pub each_time : looked 0 (rungs 3 0 on) ≡ (false, 585)
unfolding looked
each_time = refl

-- 4,681 parts
pub no_further_than_4096 : looked 0 (rungs 4 0 on) ≡ (false, 4096)
unfolding looked
no_further_than_4096 = refl
