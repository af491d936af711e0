-- Unfolding, and marking a chain numeric, as the code goes about them. Assumes nothing.
use mathlib.Core.Path.{◌≡◌, refl, sym, ap, ◌∙◌}
use mathlib.Core.List.{List, []}
use Rattle.std.specs.Prelude.{Option, None, Some}
use Prim.Native.Nat.{ℕ, zero, suc, ◌+◌, ◌-◌, ◌<◌, ◌≤◌}
use native.Mathlib.Nat.{not-suc-le-zero}
use native.Mathlib.Numerals.{sub-one}
use native.Mathlib.Omega.{arith}
use Rattle.definition.specs.Types as d
use Rattle.definition.specs.Types.{Struct}
use Rattle.definition.specs.Store.{node, type_at, loc_of, spanned, get, with_args}
use Rattle.definition.specs.Subst.{as_var, next_of, forward_tvar, links, links_of, unfold_var, unfold_type, mark_one, mark_chain, set_num_var}
use Rattle.table.specs.State.{shape_of, node_of, Any}
use Rattle.table.specs.Did.{held, Became, Kept}
use Rattle.table.specs.declared.state.State.{State}
use Rattle.table.specs.declared.Node.{Node}
use Rattle.table.proofs.Did.{became_now, became_is, became_on, became_as}
use Rattle.table.proofs.Grown.{loc_is}
use Rattle.table.proofs.Pushed.{taken_seen, count_seen}
use Rattle.names.specs.declared.TVar.{TVar}
use Rattle.shapes.specs.Parts.{next}
use Rattle.subst.specs.Answers.{var_at, Unfolds}
use Rattle.subst.specs.declared.Unfolded.{Unfolded}
use Rattle.subst.specs.declared.Unfolded.TheVariants.{Node as NodeU, Anything}
use Rattle.shapes.proofs.Nodes.{inside_seen}
use Rattle.subst.proofs.Laws.{var_of}

-- ---- unfold_type

tvar_is : (s : d.State) (loc v last : ℕ) (o : Option ℕ) → last ≡ forward_tvar s v → get s last ≡ o → unfold_var s loc o ≡ unfold_type s (var_at loc v)
unfolding unfold_type as_var
tvar_is s loc v last o l g = ap (unfold_var s loc) (sym g ∙ ap (get s) l)

module _ (s : State) (loc v last : ℕ) (f : Option ℕ) (l : (ds : List Struct) → last ≡ forward_tvar (held s ds) v) (g : (ds : List Struct) → f ≡ get (held s ds) last) where
  pub unfolds_open : f ≡ None → Unfolds s (Anything loc) (λ x. var_at loc v)
  unfolding unfold_var
  unfolds_open z = record { is = λ ds. tvar_is (held s ds) loc v last None (l ds) (sym (g ds) ∙ z); inside = tt }

  pub unfolds_bound : (t : ℕ) → f ≡ Some t → Unfolds s (NodeU t) (λ x. var_at loc v)
  unfolding unfold_var
  unfolds_bound t z = record {
    is = λ ds. tvar_is (held s ds) loc v last (Some t) (l ds) (sym (g ds) ∙ z);
    inside = rw (count_seen s.words.now s.used []) at ((inside_seen s.words.now s.used [] s.lay).bindings last t (sym (g []) ∙ z));
  }

type_plain : (s : d.State) (t : ℕ) → as_var (type_at s t) ≡ None → spanned s t ≡ unfold_type s (spanned s t)
unfolding unfold_type spanned
type_plain s t e = rw (e, unfold_type) refl

type_var : (s : d.State) (t v : ℕ) → as_var (type_at s t) ≡ Some v → unfold_type s (var_at (loc_of s t) v) ≡ unfold_type s (spanned s t)
unfolding unfold_type spanned as_var
type_var s t v e = rw (e, unfold_type) refl

module _ (s : State) (t : ℕ) (n : Node) (e : (ds : List Struct) → node_of n ≡ node (held s ds) t) (r : Option TVar) (a : (x : d.State) → next r ≡ as_var (with_args x (shape_of n.shape))) where
  pub unfolds_plain : t < s.used.nodes → r ≡ None → Unfolds s (NodeU t) (λ x. spanned x t)
  unfolds_plain h z = record { is = λ ds. type_plain (held s ds) t (var_of (held s ds) t n r (e ds) a ∙ ap next z); inside = h }

  pub unfolds_var : (v : TVar) → r ≡ Some v → (y : Unfolded) → Unfolds s y (λ x. var_at n.loc v.0) → Unfolds s y (λ x. spanned x t)
  unfolds_var v z y f = record {
    is = λ ds. f.is ds ∙ ap (λ (l : ℕ). unfold_type (held s ds) (var_at l v.0)) (loc_is (held s ds) t n (e ds)) ∙ type_var (held s ds) t v.0 (var_of (held s ds) t n r (e ds) a ∙ ap next z);
    inside = f.inside;
  }

-- ---- the links of it

module _ (s : d.State) (t : ℕ) where
  pub links_plain : as_var (type_at s t) ≡ None → 0 ≡ links_of s t
  unfolding links_of
  links_plain e = rw (e, links_of) refl

  pub links_var : (v : ℕ) → as_var (type_at s t) ≡ Some v → (n : ℕ) → n ≡ links s v → n ≡ links_of s t
  unfolding links_of
  links_var v e n l = rw (e, links_of) l

-- ---- Subst::set_num_var

chain_last : (n : ℕ) (s : d.State) (v loc : ℕ) → 0 < n → next_of s v ≡ None → mark_chain n s v loc ≡ mark_one s v loc
unfolding mark_chain
chain_last zero s v loc p e = absurd (not-suc-le-zero p)
chain_last (suc n) s v loc p e = rw (e, mark_chain) refl

chain_some : (n : ℕ) (s : d.State) (v x loc : ℕ) → next_of s v ≡ Some x → mark_chain (suc n) s v loc ≡ mark_chain n (mark_one s v loc) x loc
unfolding mark_chain
chain_some n s v x loc e = rw (e, mark_chain) refl

chain_next : (n : ℕ) (s : d.State) (v x loc : ℕ) → 0 < n → next_of s v ≡ Some x → mark_chain n s v loc ≡ mark_chain (n - 1) (mark_one s v loc) x loc
chain_next zero s v x loc p e = absurd (not-suc-le-zero p)
chain_next (suc n) s v x loc p e = chain_some n s v x loc e ∙ rw (sub-one (suc n)) refl

chain_none : (n : ℕ) (s : d.State) (v loc : ℕ) → n ≤ 0 → mark_chain n s v loc ≡ s
unfolding mark_chain
chain_none zero s v loc p = refl
chain_none (suc n) s v loc p = absurd (not-suc-le-zero p)

-- where the loop stands after i steps: what is left to mark comes to what was to be marked at the start
pub record Marking (s₀ : State) (cur₀ loc : ℕ) (s : State) (cur i : ℕ) : Type 0 where
  pub changed : Became Any s₀ s (λ x. mark_chain (s₀.used.vars - i) x cur loc) (λ x. set_num_var x cur₀ loc)
  pub used : s.used ≡ s₀.used

pub marking_start : (s : State) (cur loc : ℕ) → Marking s cur loc s cur 0
unfolding set_num_var
marking_start s cur loc = let z : s.used.vars - 0 ≡ s.used.vars = omega arith in record { changed = became_now (λ ds k. rw (z, taken_seen s.words.now s.used ds) refl); used = refl }

module _ {s₀ s : State} (cur₀ loc cur i : ℕ) (m : Marking s₀ cur₀ loc s cur i) where
  pub marking_out : s₀.used.vars ≤ i → Kept s₀ s (λ x. set_num_var x cur₀ loc)
  marking_out z = record { changed = became_as (λ x. x) m.changed (λ x. sym (chain_none (s₀.used.vars - i) x cur loc (omega arith))); used = m.used }

  module _ (p : i < s₀.used.vars) {t : State} (h : Kept s t (λ x. mark_one x cur loc)) (r : Option TVar) (e : (ds : List Struct) → next r ≡ next_of (held s ds) cur) where
    pub marking_last : r ≡ None → Kept s₀ t (λ x. set_num_var x cur₀ loc)
    marking_last z = record {
      changed = became_on (λ x. x) m.changed (became_is (λ ds k. sym (chain_last (s₀.used.vars - i) (held s ds) cur loc (omega arith) (sym (e ds) ∙ ap next z))) h.changed);
      used = h.used ∙ m.used;
    }

    pub marking_on : (v : TVar) → r ≡ Some v → Marking s₀ cur₀ loc t v.0 (i + 1)
    marking_on v z =
        let q : s₀.used.vars - (i + 1) ≡ s₀.used.vars - i - 1 = omega arith in
        record {
          changed = rw q (became_on (λ x. x) m.changed (became_is (λ ds k. sym (chain_next (s₀.used.vars - i) (held s ds) cur v.0 loc (omega arith) (sym (e ds) ∙ ap next z))) (became_as (λ x. mark_chain (s₀.used.vars - i - 1) x v.0 loc) h.changed (λ x. refl))));
          used = h.used ∙ m.used;
        }
