-- `Lay` has one proof at most, so that a ghost field can hold it. Assumes nothing.
use Rattle.std.specs.Prelude.{◌≡◌, ℕ, List, ◌<◌, length}
use Rattle.std.specs.Prelude.{Some}
use Rattle.std.specs.Coded.{Unit-prop, le_prop}
use Rattle.definition.specs.Types as d
use Rattle.definition.specs.Store.{count, node, get}
use Rattle.table.specs.Rows.{Clean, Table, node_table, arg_table, var_table, constraint_table, struct_table}
use Rattle.table.specs.State.{Lay, Inside, Below, view}
use Rattle.table.specs.declared.Used.{Used}
use denote.Struct.Props.{props}

Clean-prop : {A : Type 0} (T : Table A) (w : List ℕ) (n : ℕ) → IsProp (Clean T w n)
unfolding Clean
Clean-prop T w n = hlevel props

Below-prop : (args : List ℕ) (t : ℕ) (s : d.Shape d.Places) → IsProp (Below args t s)
Below-prop args t d.UnitType = Unit-prop
Below-prop args t (d.Ref m p) = hlevel props
Below-prop args t (d.Param id a) = Unit-prop
Below-prop args t (d.Apply k n p) = hlevel props
Below-prop args t (d.Var v) = Unit-prop
Below-prop args t d.Anything = Unit-prop
Below-prop args t d.UnresolvedError = Unit-prop

Inside-prop : (s : d.State) → IsProp (Inside s)
Inside-prop s x y =
    let parts_prop : IsProp ((t : ℕ) → t < count s → Below s.args t (node s t).value) = hlevel (props, Below-prop) in
    let bindings_prop : IsProp ((v t : ℕ) → get s v ≡ Some t → t < count s) = hlevel props in
    λ i. record { parts = parts_prop x.parts y.parts i; bindings = bindings_prop x.bindings y.bindings i }

pub Lay-prop : (w : List ℕ) (u : Used) → IsProp (Lay w u)
Lay-prop w u x y =
    let size : IsProp (length w ≡ 24069) = hlevel props in
    λ i. record {
      size = size x.size y.size i;
      nodes = le_prop x.nodes y.nodes i;
      args = le_prop x.args y.args i;
      vars = le_prop x.vars y.vars i;
      constraints = le_prop x.constraints y.constraints i;
      structs = le_prop x.structs y.structs i;
      clean_nodes = Clean-prop node_table w u.nodes x.clean_nodes y.clean_nodes i;
      clean_args = Clean-prop arg_table w u.args x.clean_args y.clean_args i;
      clean_vars = Clean-prop var_table w u.vars x.clean_vars y.clean_vars i;
      clean_constraints = Clean-prop constraint_table w u.constraints x.clean_constraints y.clean_constraints i;
      clean_structs = Clean-prop struct_table w u.structs x.clean_structs y.clean_structs i;
      inside = Inside-prop (view w u) x.inside y.inside i;
    }
