-- A state that has grown from another has no fewer rows in use. Assumes nothing.
use mathlib.Core.List.{List}
use Prim.Native.Nat.{ℕ}
use native.Mathlib.Omega.{arith}
use Rattle.table.specs.State.{view, Grown}
use Rattle.table.specs.declared.Used.{Used}
use Rattle.table.proofs.Pushed.{count_view, args_view, taken_view, constraints_view, structs_view}
use Rattle.table.proofs.Grown.{front_length}
use Rattle.snapshot.specs.Snap.{Above}

pub grown_above : (w₀ : List ℕ) (before : Used) (w : List ℕ) (u : Used) → Grown (view w₀ before) (view w u) → Above before u
grown_above w₀ before w u g =
    record {
      nodes = omega (arith, count_view w₀ before, count_view w u, front_length _ _ g.nodes);
      args = omega (arith, args_view w₀ before, args_view w u, front_length _ _ g.args);
      vars = omega (arith, taken_view w₀ before, taken_view w u, g.vars);
      constraints = omega (arith, constraints_view w₀ before, constraints_view w u, front_length _ _ g.constraints);
      structs = omega (arith, structs_view w₀ before, structs_view w u, front_length _ _ g.structs);
    }
