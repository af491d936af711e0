-- What a grown state keeps, and what is read from a node of one. Assumes nothing.
use Rattle.std.specs.Prelude.{Option, Some}
use mathlib.Core.Path.{◌≡◌, ap, ◌∙◌}
use mathlib.Core.List.{List}
use Prim.Native.Nat.{ℕ, ◌+◌, ◌≤◌, ◌<◌}
use native.Mathlib.Omega.{arith}
use lib.ListN.{length, take, drop, length-append, length-take, length-drop}
use lib.Seq.{take-append-le, drop-append-le}
use Rattle.definition.specs.Types.{State, Places}
use Rattle.definition.specs.Store.{node, loc_of, type_at, with_args, args_at}
use Rattle.table.specs.State.{view, Lay, Front, Grown, Parts, VarIn, done, node_of, shape_of}
use Rattle.table.specs.declared.Node.{Node}
use Rattle.table.specs.declared.Used.{Used}
use Rattle.table.specs.Out.{Out}
use Rattle.table.proofs.Steps.{var_in}
use Rattle.table.proofs.Pushed.{count_view}

pub front_length : {A : Type 0} (l m : List A) → Front l m → length l ≤ length m
front_length l m f = omega (arith, ap length f.is, length-append l f.rest)

pub nodes_grow : (w : List ℕ) (u : Used) (w' : List ℕ) (u' : Used) → Grown (view w u) (view w' u') → u.nodes ≤ u'.nodes
nodes_grow w u w' u' g = omega (arith, count_view w u, count_view w' u', front_length _ _ g.nodes)

-- a node stays one
pub still_in : (w : List ℕ) (u : Used) (w' : List ℕ) (u' : Used) (t : ℕ) → Grown (view w u) (view w' u') → t < u.nodes → t < u'.nodes
still_in w u w' u' t g i = omega (arith, nodes_grow w u w' u' g)

-- a variable's number is short
pub var_small : {w : List ℕ} {u : Used} (o : Out) {b : (Option ℕ)} {n : ℕ} → Lay w u → VarIn u.vars o → b ≡ done o → b ≡ Some n → n < 65536
var_small {u = u} o {b} {n} h i p q = omega (arith, h.vars, var_in u.vars o b n i p q)

front_part : (l m : List ℕ) (first many : ℕ) → Front l m → first + many ≤ length l → take many (drop first m) ≡ take many (drop first l)
front_part l m first many f h =
    ap (λ (x : List ℕ). take many (drop first x)) f.is ∙ ap (take many) (drop-append-le first l f.rest (omega arith)) ∙ take-append-le many (drop first l) f.rest (simp length-drop (omega arith))

pub args_kept : (s t : State) (p : Places) → Grown s t → p.first + p.many ≤ length s.args → args_at t p ≡ args_at s p
unfolding args_at
args_kept s t p g h = front_part s.args t.args p.first p.many g.args h

pub args_length : (s : State) (p : Places) → p.first + p.many ≤ length s.args → length (args_at s p) ≡ p.many
unfolding args_at
args_length s p h = simp (length-take, length-drop) (omega arith)

pub parts_grow : (n m : ℕ) (l : List ℕ) (k : ℕ) → n ≤ m → Parts n l k → Parts m l k
parts_grow n m l k h p = record { few = p.few; below = λ i q. omega (arith, p.below i q) }

-- ---- a node that was read

pub loc_is : (s : State) (t : ℕ) (n : Node) → node_of n ≡ node s t → n.loc ≡ loc_of s t
unfolding loc_of
loc_is s t n e = ap (λ (m : _). m.loc) e

pub value_is : (s : State) (t : ℕ) (n : Node) → node_of n ≡ node s t → with_args s (shape_of n.shape) ≡ type_at s t
unfolding type_at
value_is s t n e = ap (λ (m : _). with_args s m.value) e
