-- What is taken of a table stays within its limit, or is refused with 7. Assumes nothing.
use mathlib.Core.Path.{◌≡◌, refl}
use mathlib.Core.Bool.{Bool, true, false}
use mathlib.Core.List.{List, [], ◌∷◌, ◌++◌}
use Prim.Native.Nat.{ℕ, ◌+◌, ◌≤◌, ◌<◌}
use lib.ListN.{length}
use lib.Dec.{ltb, leb, ltb→lt, leb→le}
use borrow.Author.Tests.{lt-ltb, le-leb}
use Rattle.std.specs.Prelude.{if◌then◌else◌}
use Rattle.definition.specs.Types.{TypeValue, Constraint, State, max_nodes, max_args, max_vars, max_constraints, max_structs, full, Result, ok, refused}
use Rattle.definition.specs.Store.{count, taken, with_constraints, with_structs, args_of, with_node, sp, with_var, next_tvar, add_constraint, declare}
use Rattle.theorems.proofs.DemandTracks.{never}
use Rattle.theorems.proofs.SoundFacts.{test}

-- there is room, which is P, and a is taken; or there is none, and 7 is given
pub data Room {A : Type 0} (P : Type 0) (a : A) : Result A → Type 0 where
  room : P → Room P a (ok a)
  no_room : (P → ⊥) → Room P a (refused full)

pub with_room : {A : Type 0} {P : Type 0} {a : A} {m : Result A} (Q : Result A → Type 0) → Room P a m → (P → Q (ok a)) → Q (refused full) → Q m
with_room Q (room p) f g = f p
with_room Q (no_room n) f g = g

if_room : {A : Type 0} {P : Type 0} {a : A} (b : Bool) {m : Result A} → (P → b ≡ true) → (b ≡ true → Room P a m) → Room P a (if b then m else refused full)
if_room true t f = f refl
if_room false t f = no_room (λ p. never (let e = t p in cc))

pub sp_room : (s : State) (l : ℕ) (x : TypeValue) → Room ((count s < max_nodes) × (length s.args + length (args_of x) ≤ max_args)) (with_node s l x, count s) (sp s l x)
unfolding sp
sp_room s l x = if_room (ltb (count s) max_nodes) (λ p. lt-ltb _ _ p.0) (λ n. if_room (leb (length s.args + length (args_of x)) max_args) (λ p. le-leb _ _ p.1) (λ a. room (ltb→lt (count s) max_nodes (test n), leb→le (length s.args + length (args_of x)) max_args (test a))))

pub tvar_room : (s : State) → Room (taken s < max_vars) (with_var s, taken s) (next_tvar s)
unfolding next_tvar
tvar_room s = if_room (ltb (taken s) max_vars) (λ p. lt-ltb _ _ p) (λ e. room (ltb→lt (taken s) max_vars (test e)))

pub constraint_room : (s : State) (c : Constraint) → Room (length s.constraints < max_constraints) (with_constraints s (s.constraints ++ (c ∷ []))) (add_constraint s c)
unfolding add_constraint
constraint_room s c = if_room (ltb (length s.constraints) max_constraints) (λ p. lt-ltb _ _ p) (λ e. room (ltb→lt (length s.constraints) max_constraints (test e)))

pub struct_room : (s : State) (a : ℕ) (ps : List ℕ)
    → Room (length s.structs < max_structs) (with_structs s (s.structs ++ (record { abilities = a; params = ps } ∷ [])), length s.structs) (declare s a ps)
unfolding declare
struct_room s a ps = if_room (ltb (length s.structs) max_structs) (λ p. lt-ltb _ _ p) (λ e. room (ltb→lt (length s.structs) max_structs (test e)))
