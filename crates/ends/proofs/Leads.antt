-- Where a type leads, as the code goes about it, and what unfolding it gives. Assumes nothing.
use mathlib.Core.Path.{◌≡◌, sym, ap, ◌∙◌}
use mathlib.Core.List.{List}
use Rattle.std.specs.Prelude.{Option, None, Some}
use Prim.Native.Nat.{ℕ, ◌<◌}
use Rattle.definition.specs.Types as d
use Rattle.definition.specs.Types.{Struct}
use Rattle.definition.specs.Store.{node, spanned, get, with_args}
use Rattle.definition.specs.Subst.{as_var, forward_tvar}
use Rattle.theorems.specs.ReadySpelled.{led_var, led}
use Rattle.theorems.proofs.ReadyTold.{led_plain, led_at}
use Rattle.names.specs.declared.TVar.{TVar}
use Rattle.table.specs.State.{shape_of, node_of}
use Rattle.table.specs.Did.{held}
use Rattle.table.specs.declared.state.State.{State}
use Rattle.table.specs.declared.Node.{Node}
use Rattle.table.proofs.Grown.{loc_is}
use Rattle.shapes.specs.Parts.{next}
use Rattle.subst.proofs.Laws.{var_of}
use Rattle.subst.proofs.Unfold.{unfolds_plain, unfolds_var, unfolds_open, unfolds_bound}
use Rattle.ends.specs.Leads.{LedTo}
use Rattle.ends.specs.declared.chains.Led.TheVariants.{Node as NodeL, Open}

module _ (s : State) (t : ℕ) (n : Node) (e : (ds : List Struct) → node_of n ≡ node (held s ds) t) (r : Option TVar) (a : (x : d.State) → next r ≡ as_var (with_args x (shape_of n.shape))) where
  pub leads_plain : t < s.used.nodes → r ≡ None → LedTo s t (NodeL t)
  leads_plain i z = record { is = λ ds. sym (led_plain (held s ds) t (var_of (held s ds) t n r (e ds) a ∙ ap next z)); unfolds = unfolds_plain s t n e r a i z }

  module _ (v : TVar) (z : r ≡ Some v) (last : TVar) (l : (ds : List Struct) → last.0 ≡ forward_tvar (held s ds) v.0) (b : Option ℕ) (g : (ds : List Struct) → b ≡ get (held s ds) last.0) where
    leads_var : (ds : List Struct) (o : Option ℕ) → b ≡ o → led (held s ds) (spanned (held s ds) t) ≡ led_var (held s ds) n.loc last.0 o
    leads_var ds o y =
        led_at (held s ds) t v.0 o (var_of (held s ds) t n r (e ds) a ∙ ap next z) (ap (get (held s ds)) (sym (l ds)) ∙ sym (g ds) ∙ y)
        ∙ ap (λ (k : ℕ). led_var (held s ds) k (forward_tvar (held s ds) v.0) o) (sym (loc_is (held s ds) t n (e ds)))
        ∙ ap (λ (k : ℕ). led_var (held s ds) n.loc k o) (sym (l ds))

    pub leads_open : b ≡ None → LedTo s t (Open n.loc last)
    unfolding led_var
    leads_open y = record { is = λ ds. sym (leads_var ds None y); unfolds = unfolds_var s t n e r a v z _ (unfolds_open s n.loc v.0 last.0 b l g y) }

    pub leads_bound : (x : ℕ) → b ≡ Some x → LedTo s t (NodeL x)
    unfolding led_var
    leads_bound x y = record { is = λ ds. sym (leads_var ds (Some x) y); unfolds = unfolds_var s t n e r a v z _ (unfolds_bound s n.loc v.0 last.0 b l g x y) }
