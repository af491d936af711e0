-- A node's parts are below it. Assumes nothing.
use mathlib.Core.Path.{◌≡◌, sym, ap, ◌∙◌, subst}
use mathlib.Core.List.{List, []}
use Prim.Native.Nat.{ℕ, ◌<◌}
use native.Mathlib.Omega.{arith}
use lib.Seq.{get_or-take, get_or-drop}
use Rattle.definition.specs.Types as d
use Rattle.definition.specs.Types.{Struct}
use Rattle.definition.specs.Store.{node, args_at, with_structs}
use Rattle.names.specs.Names.{mark_of, name_of}
use Rattle.table.specs.Rows.{places}
use Rattle.table.specs.State.{shape_of, node_of, view, seen, Lay, Below, Named}
use Rattle.table.specs.declared.Applied.{Applied}
use Rattle.table.specs.declared.Shape.{Shape}
use Rattle.table.specs.declared.Shape.TheVariants.{Ref, Apply}
use Rattle.table.specs.declared.Node.{Node}
use Rattle.table.specs.declared.Used.{Used}
use Rattle.table.proofs.Pushed.{count_view}

pub below_named : (w : List ℕ) (u : Used) (n : ℕ) (k : d.AbilityMark) (c : d.TypeName) (first many : ℕ) → Below (view w u).args n (d.Apply k c (places first many)) → Named w u first many n
unfolding args_at places
below_named w u n k c first many b = record { placed = record { few = b.0; inside = b.1.0 }; smaller = λ i lt. rw (get_or-take, get_or-drop) (b.1.1 i lt) }

module _ (w : List ℕ) (u : Used) (ty : ℕ) (nd : Node) (lay : Lay w u) (in_use : ty < u.nodes) (node_is : (ds : List Struct) → node_of nd ≡ node (seen w u ds) ty) where
  pub below_it : (sh : Shape) → nd.shape ≡ sh → Below (view w u).args ty (shape_of sh)
  unfolding seen with_structs node
  below_it sh e =
      let p = lay.inside.parts ty (omega (arith, count_view w u)) in
      subst (λ (x : d.Shape d.Places). Below (view w u).args ty x) (sym (ap (λ (x : d.Node). x.value) (node_is [])) ∙ ap shape_of e) p

  pub ref_below : (m : _) (t : ℕ) → nd.shape ≡ Ref m t → t < ty
  ref_below m t e = below_it (Ref m t) e

  pub named : (a : Applied) → nd.shape ≡ Apply a → Named w u a.first a.many ty
  named a e = below_named w u ty (mark_of a.k) (name_of a.n) a.first a.many (below_it (Apply a) e)
