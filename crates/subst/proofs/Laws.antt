-- The steps of the definition's chain end, numeric check and binding, as the code takes them. Assumes nothing.
use mathlib.Core.Path.{◌≡◌, refl, sym, ap, ◌∙◌}
use mathlib.Core.Bool.{Bool, true, false}
use mathlib.Core.List.{List, []}
use Rattle.std.specs.Prelude.{Option, None, Some, Ok, Err}
use Rattle.std.specs.Option.{is_some}
use Prim.Native.Nat.{ℕ, zero, suc, ◌+◌, ◌-◌, ◌<◌, ◌≤◌}
use native.Mathlib.Nat.{not-suc-le-zero}
use native.Mathlib.Numerals.{sub-one}
use native.Mathlib.Omega.{arith}
use Rattle.definition.specs.Types as d
use Rattle.definition.specs.Types.{Struct, ok, err, RecursiveType}
use Rattle.definition.specs.Store.{taken, node, with_args, type_at, get, num_loc, need_of, insert}
use Rattle.definition.specs.Subst.{as_var, is_anything, next_in, next_of, forward, forward_tvar, forward_links, links}
use Rattle.definition.specs.Join.{is_num_var, num_shape, check_num_tvar', check_num_tvar, used, join_bind_tvar}
use Rattle.table.specs.State.{shape_of, node_of}
use Rattle.table.specs.Did.{held, Kept}
use Rattle.table.specs.declared.state.State.{State}
use Rattle.table.specs.declared.Node.{Node}
use Rattle.table.proofs.Did.{became_now, became_is, became_as}
use Rattle.table.proofs.Grown.{value_is}
use Rattle.table.proofs.Pushed.{taken_seen}
use Rattle.names.specs.declared.TVar.{TVar}
use Rattle.shapes.specs.Parts.{next}
use Rattle.subst.specs.Answers.{Forwards, Binding, bound, Binds}
use Rattle.subst.specs.declared.End.{End}
use Rattle.subst.specs.declared.BindError.TheVariants.{NotNumeric, Recursive}

pub var_of : (s : d.State) (t : ℕ) (n : Node) (r : Option TVar) → node_of n ≡ node s t → ((x : d.State) → next r ≡ as_var (with_args x (shape_of n.shape))) → as_var (type_at s t) ≡ next r
var_of s t n r e f = sym (f s ∙ ap as_var (value_is s t n e))

-- ---- the chain

next_found : (s : d.State) (v : ℕ) (f : Option ℕ) (o : Option ℕ) → f ≡ get s v → f ≡ o → next_in s o ≡ next_of s v
unfolding next_of
next_found s v f o e z = ap (next_in s) (sym z ∙ e)

pub next_none : (s : d.State) (v : ℕ) (f : Option ℕ) → f ≡ get s v → f ≡ None → None ≡ next_of s v
unfolding next_in
next_none s v f e z = next_found s v f None e (z)

pub next_some : (s : d.State) (v t : ℕ) (f : Option ℕ) → f ≡ get s v → f ≡ Some t → as_var (type_at s t) ≡ next_of s v
unfolding next_in
next_some s v t f e z = next_found s v f (Some t) e (z)

pub forward_none : (n : ℕ) (s : d.State) (v : ℕ) → next_of s v ≡ None → forward n s v ≡ v
unfolding forward
forward_none zero s v e = refl
forward_none (suc n) s v e = rw (e, forward) refl

pub forward_some : (n : ℕ) (s : d.State) (v x : ℕ) → next_of s v ≡ Some x → forward (suc n) s v ≡ forward n s x
unfolding forward
forward_some n s v x e = rw (e, forward) refl

forward_less : (n : ℕ) (s : d.State) (v x : ℕ) → 0 < n → next_of s v ≡ Some x → forward n s v ≡ forward (n - 1) s x
forward_less zero s v x p e = absurd (not-suc-le-zero p)
forward_less (suc n) s v x p e = forward_some n s v x e ∙ rw (sub-one (suc n)) refl

forward_zero : (n : ℕ) (s : d.State) (v : ℕ) → n ≤ 0 → forward n s v ≡ v
unfolding forward
forward_zero zero s v p = refl
forward_zero (suc n) s v p = absurd (not-suc-le-zero p)

-- .. and the links of it
links_none : (n : ℕ) (s : d.State) (v : ℕ) → next_of s v ≡ None → forward_links n s v ≡ 0
unfolding forward_links
links_none zero s v e = refl
links_none (suc n) s v e = rw (e, forward_links) refl

links_less : (n : ℕ) (s : d.State) (v x : ℕ) → 0 < n → next_of s v ≡ Some x → forward_links n s v ≡ suc (forward_links (n - 1) s x)
unfolding forward_links
links_less zero s v x p e = absurd (not-suc-le-zero p)
links_less (suc n) s v x p e = rw (e, forward_links, sub-one (suc n)) refl

links_zero : (n : ℕ) (s : d.State) (v : ℕ) → n ≤ 0 → forward_links n s v ≡ 0
unfolding forward_links
links_zero zero s v p = refl
links_zero (suc n) s v p = absurd (not-suc-le-zero p)

-- where the loop stands after i steps: from here on the chain ends where it ends from the start, and i of its links were followed
pub record Chain (s : State) (cur₀ cur n i : ℕ) : Type 0 where
  pub is : (ds : List Struct) → forward (s.used.vars - i) (held s ds) cur ≡ forward_tvar (held s ds) cur₀
  pub links_is : (ds : List Struct) → n + forward_links (s.used.vars - i) (held s ds) cur ≡ links (held s ds) cur₀
  pub steps : n ≡ i

pub chain_start : (s : State) (cur : ℕ) → Chain s cur cur 0 0
unfolding forward_tvar links
chain_start s cur =
    let z : s.used.vars - 0 ≡ s.used.vars = omega arith in
    record { is = λ ds. rw (z, taken_seen s.words.now s.used ds) refl; links_is = λ ds. rw (z, taken_seen s.words.now s.used ds) (omega arith); steps = refl }

module _ {s : State} {cur₀ cur n i : ℕ} (c : Chain s cur₀ cur n i) where
  pub chain_out : s.used.vars ≤ i → (e : End) → e.tvar.0 ≡ cur → e.links ≡ n → Forwards s e cur₀
  chain_out z e a b = record {
    tvar_is = λ ds. a ∙ sym (forward_zero (s.used.vars - i) (held s ds) cur (omega arith)) ∙ c.is ds;
    links_is = λ ds. let x = c.links_is ds in let y = links_zero (s.used.vars - i) (held s ds) cur (omega arith) in omega (arith, b, x, y);
  }

  module _ (r : Option TVar) (e : (ds : List Struct) → next r ≡ next_of (held s ds) cur) where
    pub chain_end : r ≡ None → (f : End) → f.tvar.0 ≡ cur → f.links ≡ n → Forwards s f cur₀
    chain_end z f a b = record {
      tvar_is = λ ds. a ∙ sym (forward_none (s.used.vars - i) (held s ds) cur (sym (e ds) ∙ ap next z)) ∙ c.is ds;
      links_is = λ ds. let x = c.links_is ds in let y = links_none (s.used.vars - i) (held s ds) cur (sym (e ds) ∙ ap next z) in omega (arith, b, x, y);
    }

    pub chain_on : i < s.used.vars → (v : TVar) → r ≡ Some v → Chain s cur₀ v.0 (n + 1) (i + 1)
    chain_on p v z =
        let q : s.used.vars - (i + 1) ≡ s.used.vars - i - 1 = omega arith in
        record {
          is = λ ds. rw q (sym (forward_less (s.used.vars - i) (held s ds) cur v.0 (omega arith) (sym (e ds) ∙ ap next z)) ∙ c.is ds);
          links_is = λ ds.
              let x = c.links_is ds in
              let y = links_less (s.used.vars - i) (held s ds) cur v.0 (omega arith) (sym (e ds) ∙ ap next z) in
              rw q (omega (arith, x, y));
          steps = ap (λ (k : ℕ). k + 1) c.steps;
        }

links_most : (n : ℕ) (s : d.State) (v : ℕ) → forward_links n s v ≤ n
unfolding forward_links
links_most zero s v = omega arith
links_most (suc n) s v = go (next_of s v) (λ x. links_most n s x)
  where
    go : (o : Option ℕ) → ((x : ℕ) → forward_links n s x ≤ n) → elim o [ None ↦ 0 | Some x ↦ suc (forward_links n s x) ] ≤ suc n
    go None l = omega arith
    go (Some x) l = let k = l x in omega arith

pub links_few : (s : State) (e : End) (v : ℕ) → Forwards s e v → e.links ≤ 1024
unfolding links
links_few s e v f = let a = f.links_is [] in let b = links_most (taken (held s [])) (held s []) v in let c = taken_seen s.words.now s.used [] in omega (arith, a, b, c, s.lay.vars)

-- ---- the numeric check

pub is_num : (s : d.State) (v : ℕ) (f : Option ℕ) → f ≡ num_loc s v → is_some f ≡ is_num_var s v
unfolding is_num_var
is_num s v f e = ap (λ (o : Option ℕ). elim o [ None ↦ false | Some loc ↦ true ]) e

module _ (s : d.State) (need ty : ℕ) where
  pub num_plain : as_var (type_at s ty) ≡ None → num_shape need (type_at s ty) ≡ check_num_tvar' s need ty
  unfolding check_num_tvar'
  num_plain e = rw (e, check_num_tvar') refl

  module _ (v : ℕ) (e : as_var (type_at s ty) ≡ Some v) where
    open_end : get s (forward_tvar s v) ≡ None → is_num_var s (forward_tvar s v) ≡ check_num_tvar' s need ty
    unfolding check_num_tvar'
    open_end g = rw (e, check_num_tvar') (rw (g, check_num_tvar') refl)

    bound_end : (t : ℕ) → get s (forward_tvar s v) ≡ Some t → num_shape need (type_at s t) ≡ check_num_tvar' s need ty
    unfolding check_num_tvar'
    bound_end t g = rw (e, check_num_tvar') (rw (g, check_num_tvar') refl)

    pub num_open : (last : ℕ) → last ≡ forward_tvar s v → get s last ≡ None → is_num_var s last ≡ check_num_tvar' s need ty
    num_open last l g = ap (is_num_var s) l ∙ open_end (sym (ap (get s) l) ∙ g)

    pub num_bound : (last t : ℕ) → last ≡ forward_tvar s v → get s last ≡ Some t → num_shape need (type_at s t) ≡ check_num_tvar' s need ty
    num_bound last t l g = bound_end t (sym (ap (get s) l) ∙ g)

module _ (s : d.State) (v ty : ℕ) where
  pub num_marked : (need : ℕ) → need ≡ need_of s v → is_num_var s v ≡ true → check_num_tvar' s need ty ≡ check_num_tvar s v ty
  unfolding check_num_tvar
  num_marked need n e = rw (n, e) refl

  pub num_any : is_num_var s v ≡ false → true ≡ check_num_tvar s v ty
  unfolding check_num_tvar
  num_any e = rw e refl

-- ---- binding

module _ (s : d.State) (loc tvar ty : ℕ) where
  bind_failed : check_num_tvar s tvar ty ≡ false → ok (s, false) ≡ join_bind_tvar s loc tvar ty
  unfolding join_bind_tvar
  bind_failed c = rw c refl

  module _ (c : check_num_tvar s tvar ty ≡ true) where
    bind_used : used (suc ty) s tvar ty ≡ true → err s (RecursiveType loc) ≡ join_bind_tvar s loc tvar ty
    unfolding join_bind_tvar
    bind_used o = rw (c, o) refl

    module _ (o : used (suc ty) s tvar ty ≡ false) where
      bind_anything : is_anything (type_at s ty) ≡ true → ok (s, true) ≡ join_bind_tvar s loc tvar ty
      unfolding join_bind_tvar
      bind_anything a = rw (c, o, a) refl

      bind_stored : is_anything (type_at s ty) ≡ false → ok (insert s tvar ty, true) ≡ join_bind_tvar s loc tvar ty
      unfolding join_bind_tvar
      bind_stored a = rw (c, o, a) refl

-- what is known of every state that the tables hold
abbrev pub All : State → (d.State → Type 0) → Type 0
All s P = (ds : List Struct) → P (held s ds)

module _ (s : State) (tvar ty : ℕ) where
  stays : (r : Binding) → ((ds : List Struct) (loc : ℕ) → bound r loc (held s ds) ≡ join_bind_tvar (held s ds) loc tvar ty) → Binds s s r tvar ty
  stays r e = record { changed = became_now (λ ds k i loc. e ds loc i); used = refl }

  pub binds_failed : (b : Bool) → All s (λ x. b ≡ check_num_tvar x tvar ty) → b ≡ false → Binds s s (Err NotNumeric) tvar ty
  binds_failed b c z = stays (Err NotNumeric) (λ ds loc. bind_failed (held s ds) loc tvar ty (sym (c ds) ∙ z))

  module _ (b : Bool) (c : All s (λ x. b ≡ check_num_tvar x tvar ty)) (bt : b ≡ true) where
    pub binds_used : All s (λ x. used (suc ty) x tvar ty ≡ true) → Binds s s (Err Recursive) tvar ty
    binds_used e = stays (Err Recursive) (λ ds loc. bind_used (held s ds) loc tvar ty (sym (c ds) ∙ bt) (e ds))

    module _ (e : All s (λ x. used (suc ty) x tvar ty ≡ false)) (n : Node) (g : All s (λ x. node_of n ≡ node x ty)) (a : Bool)
        (i : (x : d.State) → a ≡ is_anything (with_args x (shape_of n.shape))) where
      is_any : (ds : List Struct) → is_anything (type_at (held s ds) ty) ≡ a
      is_any ds = sym (i (held s ds) ∙ ap is_anything (value_is (held s ds) ty n (g ds)))

      pub binds_anything : a ≡ true → Binds s s (Ok tt) tvar ty
      binds_anything z = stays (Ok tt) (λ ds loc. bind_anything (held s ds) loc tvar ty (sym (c ds) ∙ bt) (e ds) (is_any ds ∙ z))

      pub binds_stored : {t : State} → Kept s t (λ x. insert x tvar ty) → a ≡ false → Binds s t (Ok tt) tvar ty
      binds_stored h z = record {
        changed = became_is (λ ds k i loc. bind_stored (held s ds) loc tvar ty (sym (c ds) ∙ bt) (e ds) (is_any ds ∙ z) i) (became_as (λ x loc. ok (x, true)) h.changed (λ x. refl));
        used = h.used;
      }
