-- How many entries a run adds, whatever it does and whatever it finds, and that the arrays have places for all. Assumes nothing.
use mathlib.Core.Path.{◌≡◌}
use mathlib.Core.List.{List}
use Prim.Native.Nat.{ℕ, ◌+◌, ◌≤◌}
use native.Mathlib.Omega.{arith}
use lib.ListN.{length}
use Rattle.table.specs.Did.{tables}
use Rattle.table.proofs.Pushed.{taken_view}
use Rattle.history.specs.Room.{room}
use Rattle.history.specs.Past.{as_rows, Within}
use Rattle.history.specs.Rows.{Loads}
use Rattle.history.specs.declared.Past.{Past}
use Rattle.table.specs.declared.Used.{Used}
use Rattle.history.proofs.Room.{room_most}

-- a run adds 4,096 bindings at most
pub at_most_4096 : (p q : Past) → Within p q → q.bound ≤ p.bound + 4096
at_most_4096 p q w =
    let few : room (tables (as_rows p)) ≤ 4096 = room_most (tables (as_rows p)) (rw (taken_view (as_rows p).words.now p.st.used) p.st.lay.vars) in
    omega (arith, w.0, few)

-- it begins with those that are loaded, 1,024 at most, and so ends with 5,120 at most: so many places there are
pub suffice_5120 : {w : List ℕ} {u : Used} (p q : Past) → Loads w u p → Within p q → (p.bound ≤ 1024) × ((q.bound ≤ 5120) × (length q.bindings ≡ 5120))
suffice_5120 {w} {u} p q a within =
    let vars : u.vars ≤ 1024 = rw a.used at p.holds.lay.vars in
    let few : p.bound ≤ 1024 = omega (arith, a.few, vars) in
    let added : q.bound ≤ p.bound + 4096 = at_most_4096 p q within in
    (few, (omega arith, q.holds.bindings_size))

-- .. of marks, one of each variable is loaded, and each fresh one adds one at most
pub suffice_2048 : (p : Past) → (p.marked ≤ 2048) × (length p.marks ≡ 2048)
suffice_2048 p = (omega (arith, p.holds.few_marked), p.holds.marks_size)
