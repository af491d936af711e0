-- What callers of the reads know: a node's value, and that its parts are below it. Assumes nothing.
use mathlib.Core.Path.{◌≡◌, sym, ap, ◌∙◌, subst}
use mathlib.Core.List.{List, []}
use Prim.Native.Nat.{ℕ, ◌<◌}
use lib.ListN.{get_or, drop}
use lib.Seq.{get_or-take, get_or-drop}
use Rattle.definition.specs.Types as d
use Rattle.definition.specs.Types.{Struct}
use Rattle.definition.specs.Store.{node, type_at, loc_of, args_at, with_args, with_structs}
use Rattle.table.specs.Rows.{places}
use Rattle.table.specs.State.{view, seen, Lay, Below, node_of, shape_of}
use Rattle.table.specs.declared.Used.{Used}
use Rattle.table.specs.declared.Node.{Node}
use Rattle.table.proofs.Pushed.{count_view}

module _ (w : List ℕ) (u : Used) (t : ℕ) (n : Node) (is : (ds : List Struct) → node_of n ≡ node (seen w u ds) t) where
  pub value_seen : (ds : List Struct) → type_at (seen w u ds) t ≡ with_args (seen w u ds) (shape_of n.shape)
  unfolding type_at
  value_seen ds = ap (λ (x : d.Node). with_args (seen w u ds) x.value) (sym (is ds))

  pub loc_seen : (ds : List Struct) → loc_of (seen w u ds) t ≡ n.loc
  unfolding loc_of
  loc_seen ds = ap (λ (x : d.Node). x.loc) (sym (is ds))

  -- for a reference: its part is below t. For a named type: its places are in use, at most eight, and what they hold is below t
  pub parts_below : Lay w u → t < u.nodes → Below (view w u).args t (shape_of n.shape)
  unfolding node seen with_structs
  parts_below h lt = subst (λ (x : d.Node). Below (view w u).args t x.value) (sym (is [])) (h.inside.parts t (subst (λ (c : ℕ). t < c) (sym (count_view w u)) lt))

-- what arg_at answers for such a node is below it
pub arg_below : (w : List ℕ) (u : Used) (t first many i r : ℕ) (k : d.AbilityMark) (c : d.TypeName) → Below (view w u).args t (d.Apply k c (places first many)) → i < many
    → ((ds : List Struct) (m : ℕ) → i < m → r ≡ get_or (args_at (seen w u ds) (places first m)) i 0) → r < t
unfolding places args_at seen with_structs
arg_below w u t first many i r k c b lt is =
    subst (λ (x : ℕ). x < t) (sym (is [] many lt ∙ get_or-take many (drop first (view w u).args) i 0 lt ∙ get_or-drop first (view w u).args i 0)) (b.1.1 i lt)
