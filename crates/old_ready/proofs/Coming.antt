-- A call of ready_tvars for each bound variable on the way, as the code goes about it. Assumes nothing.
use mathlib.Core.Path.{◌≡◌, refl, sym, ap, ◌∙◌}
use mathlib.Core.Bool.{Bool}
use mathlib.Core.List.{List, [], ◌∷◌}
use Rattle.std.specs.Prelude.{Option, None, Some, Ok, Err}
use Prim.Native.Nat.{ℕ, zero, suc, ◌-◌, ◌<◌, ◌≤◌}
use native.Mathlib.Nat.{not-suc-le-zero}
use native.Mathlib.Omega.{arith}
use lib.ListN.{get_or}
use Rattle.definition.specs.Types as d
use Rattle.definition.specs.Types.{Struct, Result, ok, err, refused, ◌>>=◌}
use Rattle.definition.specs.Store.{node, with_args, type_at, loc_of, get, sp, map_types}
use Rattle.definition.specs.Subst.{as_var, parts, forward_tvar, ready_value, ready}
use Rattle.theorems.proofs.LawsChains.{as_var_is}
use Rattle.names.specs.declared.TVar.{TVar}
use Rattle.table.specs.State.{shape_of, node_of, outcome}
use Rattle.table.specs.Did.{held}
use Rattle.table.specs.declared.state.State.{State}
use Rattle.table.specs.declared.state.Stop.TheVariants.{Refused}
use Rattle.table.specs.declared.Node.{Node}
use Rattle.refusals.specs.declared.Refusal.TheVariants.{RunsIntoItself}
use Rattle.table.proofs.Grown.{loc_is}
use Rattle.table.proofs.Pushed.{count_seen}
use Rattle.shapes.specs.Parts.{next, part_count}
use Rattle.shapes.proofs.Nodes.{at_node, inside_seen, many_parts}
use Rattle.subst.proofs.Laws.{var_of}
use Rattle.old_ready.specs.Ready.{rebuilt, by_parts, by_parts_at, Lands}
use Rattle.old_ready.specs.declared.Landing.TheVariants.{Parts as PartsL, Open as OpenL}

-- ---- one level

abbrev Ready : Type 0
Ready = d.State → ℕ → Result (d.State × ℕ)

one_part : (m : Result (d.State × ℕ)) (loc : ℕ) (b : Bool)
    → (◌>>=◌ {A = d.State × List ℕ} (m >>= (λ (x : d.State × ℕ). ◌>>=◌ {A = d.State × List ℕ} (ok (x.0, [])) (λ y. ok (y.0, x.1 ∷ y.1)))) (λ y. sp y.0 loc (d.Ref b (get_or y.1 0 0)))) ≡ (m >>= (λ x. sp x.0 loc (d.Ref b x.1)))
unfolding ◌>>=◌
one_part (ok x) loc b = refl
one_part (err s e) loc b = refl
one_part (refused x) loc b = refl

-- of a type that is no variable
plain_level : (f : Ready) (s : d.State) (ty loc : ℕ) (x : d.TypeValue) → as_var x ≡ None → by_parts f s ty loc x ≡ ready_value f s ty loc x
unfolding by_parts ready_value rebuilt parts map_types as_var ◌>>=◌
plain_level f s ty loc d.UnitType e = refl
plain_level f s ty loc (d.Ref m t) e = one_part (f s t) loc m
plain_level f s ty loc (d.Param id a) e = refl
plain_level f s ty loc (d.Apply k n tys) e = refl
plain_level f s ty loc (d.Var v) e = let z : ◌≡◌ {A = ℕ} 0 1 = cc in absurd (omega arith)
plain_level f s ty loc d.Anything e = refl
plain_level f s ty loc d.UnresolvedError e = refl

-- of a variable whose end is bound so
abbrev by_binding : Ready → d.State → ℕ → ℕ → Option ℕ → Result (d.State × ℕ)
by_binding f s loc last o = elim o [ None ↦ sp s loc (d.Var last) | Some t ↦ f s t ]

var_level : (f : Ready) (s : d.State) (ty loc v : ℕ) (x : d.TypeValue) (o : Option ℕ) → as_var x ≡ Some v → get s (forward_tvar s v) ≡ o → by_binding f s loc (forward_tvar s v) o ≡ ready_value f s ty loc x
unfolding ready_value
var_level f s ty loc v x o e g = rw (as_var_is x v e, g, ready_value) refl

one_level : (left : ℕ) (s : d.State) (ty : ℕ) → 0 < left → ready_value (λ s t. ready (left - 1) s t) s ty (loc_of s ty) (type_at s ty) ≡ ready left s ty
unfolding ready
one_level zero s ty p = absurd (not-suc-le-zero p)
one_level (suc n) s ty p =
    let e : suc n - 1 ≡ n = omega arith in
    ap (λ (k : ℕ). ready_value (λ s t. ready k s t) s ty (loc_of s ty) (type_at s ty)) e

-- ---- the loop

-- where it stands: from here on all comes to what it comes to from the start
pub record Coming (s : State) (t calls at left : ℕ) : Type 0 where
  pub in_nodes : at < s.used.nodes
  pub fewer : left ≤ calls
  pub is : (ds : List Struct) → ready left (held s ds) at ≡ ready calls (held s ds) t

pub coming_start : (s : State) (t calls : ℕ) → t < s.used.nodes → Coming s t calls t calls
coming_start s t calls i = record { in_nodes = i; fewer = omega arith; is = λ ds. refl }

module _ {s : State} {t calls at left : ℕ} (c : Coming s t calls at left) where
  pub coming_none : left ≤ 0 → Lands s t calls (Err (Refused RunsIntoItself))
  unfolding ready outcome
  coming_none z =
      let y : left ≡ 0 = omega arith in
      record { is = λ ds. sym (ap (λ (k : ℕ). ready k (held s ds) at) y) ∙ c.is ds; inside = tt }

  -- at node n
  module _ (p : 0 < left) (n : Node) (e : (ds : List Struct) → node_of n ≡ node (held s ds) at) (r : Option TVar) (a : (x : d.State) → next r ≡ as_var (with_args x (shape_of n.shape))) where
    level : (ds : List Struct) → ready_value (λ s t. ready (left - 1) s t) (held s ds) at (loc_of (held s ds) at) (type_at (held s ds) at) ≡ ready calls (held s ds) t
    level ds = one_level left (held s ds) at p ∙ c.is ds

    pub coming_parts : r ≡ None → (many : ℕ) → many ≡ part_count (shape_of n.shape) → Lands s t calls (Ok (PartsL at many (left - 1)))
    unfolding by_parts_at
    coming_parts z many m =
        let f = c.fewer in
        record {
          is = λ ds. plain_level (λ s t. ready (left - 1) s t) (held s ds) at (loc_of (held s ds) at) (type_at (held s ds) at) (var_of (held s ds) at n r (e ds) a ∙ ap next z) ∙ level ds;
          inside = (c.in_nodes, (omega arith, many_parts (at_node s.words.now s.used at many n s.lay c.in_nodes e m)));
        }

    -- .. which is the variable v
    module _ (v : TVar) (z : r ≡ Some v) (last : TVar) (l : (ds : List Struct) → last.0 ≡ forward_tvar (held s ds) v.0) (b : Option ℕ) (g : (ds : List Struct) → b ≡ get (held s ds) last.0) where
      by_end : (o : Option ℕ) → b ≡ o → (ds : List Struct) → by_binding (λ s t. ready (left - 1) s t) (held s ds) n.loc last.0 o ≡ ready calls (held s ds) t
      by_end o q ds =
          ap (λ (k : ℕ). by_binding (λ s t. ready (left - 1) s t) (held s ds) k last.0 o) (loc_is (held s ds) at n (e ds))
          ∙ ap (λ (x : ℕ). by_binding (λ s t. ready (left - 1) s t) (held s ds) (loc_of (held s ds) at) x o) (l ds)
          ∙ var_level (λ s t. ready (left - 1) s t) (held s ds) at (loc_of (held s ds) at) v.0 (type_at (held s ds) at) o (var_of (held s ds) at n r (e ds) a ∙ ap next z) (ap (get (held s ds)) (sym (l ds)) ∙ sym (g ds) ∙ q)
          ∙ level ds

      pub coming_open : b ≡ None → Lands s t calls (Ok (OpenL n.loc last))
      coming_open q = record { is = by_end None q; inside = tt }

      pub coming_on : (x : ℕ) → b ≡ Some x → Coming s t calls x (left - 1)
      coming_on x q = let f = c.fewer in record {
        in_nodes = rw (count_seen s.words.now s.used []) at ((inside_seen s.words.now s.used [] s.lay).bindings last.0 x (sym (g []) ∙ q));
        fewer = omega arith;
        is = by_end (Some x) q;
      }
