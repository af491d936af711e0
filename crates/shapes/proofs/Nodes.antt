-- A node of the state that the words hold, and its parts: as many as are counted, each below the node. Assumes nothing.
use mathlib.Core.Path.{◌≡◌, refl, sym, ap, ◌∙◌}
use mathlib.Core.List.{List, [], ◌∷◌}
use Prim.Native.Nat.{ℕ, zero, suc, ◌≤◌, ◌<◌}
use native.Mathlib.Nat.{not-suc-le-zero}
use native.Mathlib.Omega.{arith}
use lib.ListN.{length, get_or, length-take, length-drop}
use lib.Seq.{get_or-take, get_or-drop}
use Rattle.definition.specs.Types as d
use Rattle.definition.specs.Types.{State, Struct, Places}
use Rattle.definition.specs.Store.{count, node, args_at, with_args, type_at}
use Rattle.definition.specs.Subst.{parts}
use Rattle.table.specs.State.{shape_of, node_of, view, seen, Lay, Below, Inside}
use Rattle.table.specs.declared.Used.{Used}
use Rattle.table.specs.declared.Shape.{Shape}
use Rattle.table.specs.declared.Node.{Node}
use Rattle.table.proofs.Grown.{value_is}
use Rattle.table.proofs.Pushed.{count_seen}
use Rattle.table.proofs.States.{inside_structs}
use Rattle.shapes.specs.Parts.{part_count}

-- ---- the parts of a shape that stands at node t

-- as many as are counted, each below t
pub record Low (s : State) (t : ℕ) (sh : d.Shape Places) : Type 0 where
  pub many : length (parts (with_args s sh)) ≡ part_count sh
  pub low : (i : ℕ) → i < part_count sh → get_or (parts (with_args s sh)) i 0 < t

ref_low : (t p : ℕ) → p < t → (i : ℕ) → i < 1 → get_or (p ∷ []) i 0 < t
ref_low t p b zero h = b
ref_low t p b (suc i) h = absurd (omega arith)

pub below_low : (s : State) (t : ℕ) (sh : d.Shape Places) → Below s.args t sh → Low s t sh
unfolding parts with_args args_at
below_low s t d.UnitType b = record { many = refl; low = λ i h. absurd (not-suc-le-zero h) }
below_low s t (d.Ref m p) b = record { many = refl; low = ref_low t p b }
below_low s t (d.Param id a) b = record { many = refl; low = λ i h. absurd (not-suc-le-zero h) }
below_low s t (d.Apply k n p) b =
    let fits = b.1.0 in
    record { many = simp (length-take, length-drop) (omega arith); low = λ i h. rw (get_or-take, get_or-drop) (b.1.1 i h) }
below_low s t (d.Var v) b = record { many = refl; low = λ i h. absurd (not-suc-le-zero h) }
below_low s t d.Anything b = record { many = refl; low = λ i h. absurd (not-suc-le-zero h) }
below_low s t d.UnresolvedError b = record { many = refl; low = λ i h. absurd (not-suc-le-zero h) }

below_few : (args : List ℕ) (t : ℕ) (sh : d.Shape Places) → Below args t sh → part_count sh ≤ 8
below_few args t d.UnitType b = omega arith
below_few args t (d.Ref m p) b = omega arith
below_few args t (d.Param id a) b = omega arith
below_few args t (d.Apply k n p) b = b.0
below_few args t (d.Var v) b = omega arith
below_few args t d.Anything b = omega arith
below_few args t d.UnresolvedError b = omega arith

module _ (s : State) (inside : Inside s) (t : ℕ) (h : t < count s) where
  node_low : Low s t (node s t).value
  node_low = below_low s t (node s t).value (inside.parts t h)

  pub parts_low : (i : ℕ) → i < length (parts (type_at s t)) → get_or (parts (type_at s t)) i 0 < t
  unfolding type_at
  parts_low i p = node_low.low i (rw node_low.many at p)

-- ---- node t of the words

pub inside_seen : (w : List ℕ) (u : Used) (ds : List Struct) → Lay w u → Inside (seen w u ds)
unfolding seen
inside_seen w u ds h = inside_structs (view w u) ds h.inside

-- the shape sh is node t's, and it has so many parts
pub record At (w : List ℕ) (u : Used) (t : ℕ) (sh : Shape) (many : ℕ) : Type 0 where
  pub lay : Lay w u
  pub in_nodes : t < u.nodes
  pub is : (ds : List Struct) → with_args (seen w u ds) (shape_of sh) ≡ type_at (seen w u ds) t
  pub many_is : many ≡ part_count (shape_of sh)
  pub shape : (ds : List Struct) → shape_of sh ≡ (node (seen w u ds) t).value

pub at_node : (w : List ℕ) (u : Used) (t many : ℕ) (n : Node) → Lay w u → t < u.nodes → ((ds : List Struct) → node_of n ≡ node (seen w u ds) t) → many ≡ part_count (shape_of n.shape) → At w u t n.shape many
at_node w u t many n h i e m = record { lay = h; in_nodes = i; is = λ ds. value_is (seen w u ds) t n (e ds); many_is = m; shape = λ ds. ap (λ (x : d.Node). x.value) (e ds) }

module _ {w : List ℕ} {u : Used} {t : ℕ} {sh : Shape} {many : ℕ} (a : At w u t sh many) where
  pub counted : (ds : List Struct) → t < count (seen w u ds)
  counted ds = rw (count_seen w u ds) a.in_nodes

  below : (ds : List Struct) → Below (seen w u ds).args t (shape_of sh)
  below ds = rw (a.shape ds) ((inside_seen w u ds a.lay).parts t (counted ds))

  low : (ds : List Struct) → Low (seen w u ds) t (shape_of sh)
  low ds = below_low (seen w u ds) t (shape_of sh) (below ds)

  pub few_parts : many ≤ 8
  few_parts = rw a.many_is (below_few (seen w u []).args t (shape_of sh) (below []))

  pub many_parts : (ds : List Struct) → length (parts (type_at (seen w u ds) t)) ≡ many
  many_parts ds = sym (ap (λ (x : d.TypeValue). length (parts x)) (a.is ds)) ∙ (low ds).many ∙ sym a.many_is

  -- l is the list of its parts
  module _ (l : List ℕ) (e : (ds : List Struct) → l ≡ parts (type_at (seen w u ds) t)) where
    pub at_listed : At w u t sh (length l)
    at_listed = record { lay = a.lay; in_nodes = a.in_nodes; is = a.is; many_is = ap length (e []) ∙ many_parts [] ∙ a.many_is; shape = a.shape }

    pub listed_part : (i : ℕ) (ds : List Struct) → get_or l i 0 ≡ get_or (parts (with_args (seen w u ds) (shape_of sh))) i 0
    listed_part i ds = ap (λ (x : List ℕ). get_or x i 0) (e ds) ∙ sym (ap (λ (x : d.TypeValue). get_or (parts x) i 0) (a.is ds))

  -- part i, as part_at gives it
  module _ (i p : ℕ) (l : i < many) (e : (ds : List Struct) → i < part_count (shape_of sh) → p ≡ get_or (parts (with_args (seen w u ds) (shape_of sh))) i 0) where
    pub part_is : (ds : List Struct) → p ≡ get_or (parts (type_at (seen w u ds) t)) i 0
    part_is ds = e ds (rw a.many_is at l) ∙ ap (λ (x : d.TypeValue). get_or (parts x) i 0) (a.is ds)

    pub part_low : p < t
    part_low = rw (e [] (rw a.many_is at l)) ((low []).low i (rw a.many_is at l))
