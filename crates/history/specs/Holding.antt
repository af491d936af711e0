-- `Holds` has one proof at most, so that a ghost field can hold it. Assumes nothing.
use Rattle.std.specs.Prelude.{◌≡◌, ℕ, List, ◌<◌, length, get_or}
use Rattle.std.specs.Coded.{le_prop}
use Rattle.table.specs.Layout.{Lay-prop}
use Rattle.table.specs.declared.Used.{Used}
use Rattle.history.specs.History.{no_binding, no_mark, words_of, Holds}
use Rattle.history.specs.declared.Binding.{Binding}
use Rattle.history.specs.declared.Mark.{Mark}
use denote.Struct.Props.{props}

pub Holds-prop : (w : List ℕ) (u : Used) (h : List Binding) (n : ℕ) (m : List Mark) (k : ℕ) → IsProp (Holds w u h n m k)
Holds-prop w u h n m k x y =
    let size : IsProp (length h ≡ 5120) = hlevel props in
    let marks : IsProp (length m ≡ 2048) = hlevel props in
    let vars : IsProp ((i : ℕ) → i < n → (get_or h i no_binding).tvar < u.vars) = hlevel props in
    let nodes : IsProp ((i : ℕ) → i < n → (get_or h i no_binding).node < u.nodes) = hlevel props in
    let marked : IsProp ((i : ℕ) → i < k → (get_or m i no_mark).tvar < u.vars) = hlevel props in
    λ i. record {
      bindings_size = size x.bindings_size y.bindings_size i;
      marks_size = marks x.marks_size y.marks_size i;
      vars_bound = vars x.vars_bound y.vars_bound i;
      nodes_bound = nodes x.nodes_bound y.nodes_bound i;
      vars_marked = marked x.vars_marked y.vars_marked i;
      lay = Lay-prop (words_of w h n m k) u x.lay y.lay i;
      few_bound = le_prop x.few_bound y.few_bound i;
      few_marked = le_prop x.few_marked y.few_marked i;
    }
