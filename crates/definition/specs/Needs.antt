-- 02, R-3: the nodes, argument places, variables and constraints that IN of a type takes in any state, reading included. Assumes nothing: these are definitions.
use Rattle.std.specs.Prelude.{◌++◌, ◌+◌}
use Rattle.definition.specs.Types.{Option, None, Some, ℕ}
use Rattle.definition.specs.Write.{Bytes, u32}
use Rattle.definition.specs.Trees.{Tree, unit_tree, anything_tree, error_tree, ref_tree, param_tree, apply_tree, var_tree, Trees, no_trees, ◌then◌}

pub record Needs : Type 0 where
  pub nodes : ℕ
  pub places : ℕ
  pub variables : ℕ
  pub constraints : ℕ

abbrev pub takes : ℕ → ℕ → ℕ → ℕ → Option Needs
takes nodes places variables constraints = Some (record { nodes = nodes; places = places; variables = variables; constraints = constraints })

infixl 6 ◌plus◌
unfoldable pub ◌plus◌ : Option Needs → Option Needs → Option Needs
◌plus◌ None n = None
◌plus◌ (Some m) None = None
◌plus◌ (Some m) (Some n) = takes (m.nodes + n.nodes) (m.places + n.places) (m.variables + n.variables) (m.constraints + n.constraints)

-- the join of an argument, instantiated, with the variable that was made for it: where it was `_` it is an open variable too, and the two are merged, by two `_`, two bindings and one
-- fresh variable
unfoldable pub merge : Tree → Option Needs
merge (unit_tree loc) = takes 0 0 0 0
merge (anything_tree loc) = takes 4 0 1 0
merge (error_tree loc) = takes 0 0 0 0
merge (ref_tree loc mut t) = takes 0 0 0 0
merge (param_tree loc id abilities) = takes 0 0 0 0
merge (apply_tree loc k n ts) = takes 0 0 0 0
merge (var_tree loc v) = takes 0 0 0 0

-- none where a variable is inside
unfoldable mutual
  pub needs : Tree → Option Needs
  needs (unit_tree loc) = takes 1 0 0 0
  needs (anything_tree loc) = takes 2 0 1 0
  needs (error_tree loc) = takes 1 0 0 0
  needs (ref_tree loc mut t) = takes 2 0 0 1 plus needs t
  needs (param_tree loc id abilities) = takes 1 0 0 0
  needs (apply_tree loc k n ts) = takes 2 0 0 0 plus needs_args ts
  needs (var_tree loc v) = None

  -- for each argument a variable with its node and two constraints, and a place when it is read and when it is instantiated
  pub needs_args : Trees → Option Needs
  needs_args no_trees = takes 0 0 0 0
  needs_args (◌then◌ t ts) = takes 1 2 1 2 plus merge t plus needs t plus needs_args ts

-- four u32
unfoldable pub write_needs : Needs → Bytes
write_needs n = u32 n.nodes ++ u32 n.places ++ u32 n.variables ++ u32 n.constraints
