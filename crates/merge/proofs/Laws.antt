-- The steps of a merge and of a meeting, as laws that follow the code. Assumes nothing.
use mathlib.Core.Path.{◌≡◌, refl, sym, ap, ◌∙◌}
use mathlib.Core.Bool.{Bool, true, false, not}
use mathlib.Core.List.{List, []}
use lib.Dec.{ltb}
use Rattle.std.specs.Prelude.{Option, None, Some, Ok, Err, if◌then◌else◌}
use Rattle.std.specs.Prelude as core
use Rattle.std.specs.Option.{option_or, is_some}
use Prim.Native.Nat.{ℕ, ◌+◌, ◌*◌, ◌<◌, ◌≤◌}
use native.Mathlib.Omega.{arith}
use native.Mathlib.Decide.{dec_lt}
use borrow.Author.Tests.{le-leb, lt-leb}
use Rattle.std.specs.Prelude.{max}
use Rattle.std.proofs.Math.Nat.{max-eq_left, max-eq_right}
use Rattle.definition.specs.Types as d
use Rattle.definition.specs.Types.{Struct, Result, ok, err, refused, ◌>>=◌, full, max_vars}
use Rattle.definition.specs.Store.{taken, with_var, get, node, with_args, num_loc, need_of, insert, with_need, sp, next_tvar}
use Rattle.definition.specs.Subst.{is_anything, forward_tvar, links, set_num_var}
use Rattle.definition.specs.Join.{type_of, merge_num, larger, shown, join_bind_tvar, join_unbound}
use Rattle.names.specs.declared.TVar.{TVar}
use Rattle.subst.specs.declared.End.{End}
use Rattle.subst.proofs.Laws.{links_few}
use Rattle.subst.specs.Answers.{Forwards, Binding, bound, Binds}
use Rattle.subst.specs.declared.BindError.{BindError}
use Rattle.subst.specs.declared.BindError.TheVariants.{NotNumeric, Recursive}
use Rattle.table.specs.State.{Any, outcome, node_of, shape_of}
use Rattle.table.specs.Did.{held, StopIn, Became, Did, Kept, Took}
use Rattle.table.specs.declared.Node.{Node}
use Rattle.table.specs.declared.TypingError.TheVariants.{Incompatible, RecursiveType}
use Rattle.table.specs.declared.state.State.{State}
use Rattle.table.specs.declared.state.Stop.{Stop}
use Rattle.table.specs.declared.state.Stop.TheVariants.{Failed}
use Rattle.table.proofs.Did.{became_now, became_is, became_on, became_as, became_number, did_now, did_is, err_is, stop_in}
use Rattle.table.proofs.Grown.{loc_is, value_is}
use Rattle.table.proofs.Pushed.{taken_view, taken_seen}
use Rattle.merge.specs.Merge.{Inner, ThenMerge, open_types, open_tvar, opened, Opens, OneTaken, FewFor, Follows, show_both, close_tvar, meet_tvar, met, Meets}
use Rattle.merge.specs.declared.Merging.{Merging}

-- ---- the type of a chain's end

pub end_free : (s : d.State) (loc v : ℕ) → None ≡ get s v → sp s loc d.Anything ≡ type_of s loc v
unfolding type_of
end_free s loc v e = rw (← e, type_of)

pub end_bound : (s : d.State) (loc v t : ℕ) → Some t ≡ get s v → outcome (Ok t) s ≡ type_of s loc v
unfolding type_of outcome
end_bound s loc v t e = rw (← e, type_of)

-- ---- opening a merge

module _ {s t : State} where
  pub opens_is : {r : core.Result Merging Stop} {f g : d.State → Inner → Result (d.State × ℕ)} → ((ds : List Struct) (k : Inner) → f (held s ds) k ≡ g (held s ds) k) → Opens s t r f → Opens s t r g
  opens_is e a = record { changed = became_is (λ ds x i k. e ds k i) a.changed; inside = a.inside }

  -- h follows, given what follows the opening
  module _ {f : d.State → Result (d.State × ℕ)} (h : Inner → d.State × ℕ → Result (d.State × ℕ)) where
    pub opens_err : {e : Stop} {r : core.Result Merging Stop} → Became Any s t (outcome (Err e)) f → StopIn t.used.nodes e → r ≡ Err e → Opens s t r (λ x k. f x >>= h k)
    unfolding opened
    opens_err {e} a i q = rw q record { changed = became_as (λ m k. m >>= h k) a (λ x i k. err_is e x (h k) i); inside = i }

    pub opens_then : {n : ℕ} {v : State} {r : core.Result Merging Stop} → Became Any s t (outcome (Ok n)) f → Opens t v r (λ x k. h k (x, n)) → Opens s v r (λ x k. f x >>= h k)
    unfolding ◌>>=◌
    opens_then a b = record { changed = became_number (λ m k. m >>= h k) a b.changed; inside = b.inside }

  pub opens_kept : {f : d.State → d.State} {v : State} {r : core.Result Merging Stop} (h : d.State → Inner → Result (d.State × ℕ)) → Kept s t f → Opens t v r h → Opens s v r (λ x. h (f x))
  opens_kept h a b = record { changed = became_on h a.changed b.changed; inside = b.inside }

pub opens_ready : (s : State) (m : Merging) → m.ty1 < s.used.nodes → m.ty2 < s.used.nodes → m.var2 < s.used.nodes → Opens s s (Ok m) (λ x k. k x m.ty1 m.ty2 m.new_tvar.0 m.var2)
unfolding opened
opens_ready s m a b c = record { changed = became_now (λ ds k. refl); inside = (a, (b, c)) }

open_is : (k : Inner) (s : d.State) (loc1 id1 loc2 id2 e1 e2 : ℕ) (num1 num2 : Option ℕ) (need1 need2 : ℕ) → e1 ≡ forward_tvar s id1 → e2 ≡ forward_tvar s id2 → num1 ≡ num_loc s e1 → num2 ≡ num_loc s e2
    → need1 ≡ need_of s e1 → need2 ≡ need_of s e2 → open_types k s loc1 e1 num1 loc2 e2 num2 (larger need1 need2) ≡ open_tvar k s loc1 id1 loc2 id2
unfolding open_tvar
open_is k s loc1 id1 loc2 id2 e1 e2 num1 num2 need1 need2 p q a b c d = rw (a, b, c, d, p, q)

-- the ends e1 and e2 of both chains
pub opens_ends : {s : State} (id1 id2 : ℕ) {e1 e2 : TVar} {n1 n2 : Option ℕ} {need1 need2 : ℕ}
    → ((ds : List Struct) → e1.0 ≡ forward_tvar (held s ds) id1) → ((ds : List Struct) → e2.0 ≡ forward_tvar (held s ds) id2)
    → ((ds : List Struct) → n1 ≡ num_loc (held s ds) e1.0) → ((ds : List Struct) → n2 ≡ num_loc (held s ds) e2.0)
    → ((ds : List Struct) → need1 ≡ need_of (held s ds) e1.0) → ((ds : List Struct) → need2 ≡ need_of (held s ds) e2.0)
    → {t : State} {r : core.Result Merging Stop} (loc1 loc2 : ℕ) → Opens s t r (λ x k. open_types k x loc1 e1.0 n1 loc2 e2.0 n2 (larger need1 need2)) → Opens s t r (λ x k. open_tvar k x loc1 id1 loc2 id2)
opens_ends {s} id1 id2 {e1} {e2} {n1} {n2} {need1} {need2} p1 p2 q1 q2 r1 r2 loc1 loc2 o =
    opens_is (λ ds k. open_is k (held s ds) loc1 id1 loc2 id2 e1.0 e2.0 n1 n2 need1 need2 (p1 ds) (p2 ds) (q1 ds) (q2 ds) (r1 ds) (r2 ds)) o

-- ---- variables taken, and links followed

new_is : (s t : d.State) (v : ℕ) (b : Bool) → ◌≡◌ {A = Result (d.State × ℕ)} (ok (t, v)) (if b then ok (with_var s, taken s) else refused full) → v ≡ taken s
new_is s t v true e = ap (λ (m : Result (d.State × ℕ)). elim m [ ok x ↦ x.1 | err x y ↦ v | refused x ↦ v ]) e
new_is s t v false e = cc

module _ {s t : State} where
  pub vars_more : {A : Type 0} {K : List Struct → Type 0} {answer f : d.State → A} → Became K s t answer f → s.used.vars ≤ t.used.vars
  vars_more a = omega (arith, a.step.grown.vars, taken_view s.words.now s.used, taken_view t.words.now t.used)

  pub took_one : {v : TVar} → Took s t (Ok v) (λ x. next_tvar x) → s.used.vars < t.used.vars
  unfolding next_tvar outcome
  took_one {v} a = let e = new_is (held s []) (held t []) v.0 (ltb (taken (held s [])) max_vars) (a.changed.step.is [] tt) in omega (arith, e, taken_seen s.words.now s.used [], a.inside)

pub none_taken : {s t : State} {e : Stop} {f : d.State → Result (d.State × ℕ)} (a b : ℕ) {r : core.Result Merging Stop} → Became Any s t (outcome (Err e)) f → r ≡ Err e → OneTaken r a b
none_taken a b x q = rw q tt

few_taken : (r : core.Result Merging Stop) (a b n : ℕ) → n ≤ 2048 * a + 2048 → OneTaken r a b → FewFor r b n
few_taken (Ok m) a b n l o = omega (arith, l, o)
few_taken (Err e) a b n l o = tt

module _ {s : State} (v1 v2 : ℕ) {n : ℕ} {e1 e2 : End} (n_few : n ≤ 2048 * s.used.vars) (f1 : Forwards s e1 v1) (f2 : Forwards s e2 v2) where
  pub both_few : (e1.links + e2.links ≤ 2048) × (n + (e1.links + e2.links) ≤ 2099200)
  both_few = let a = links_few s e1 v1 f1 in let b = links_few s e2 v2 f2 in (omega (arith, a, b), omega (arith, a, b, n_few, s.lay.vars))

  both_is : {n' : ℕ} → n' ≡ n + (e1.links + e2.links) → (ds : List Struct) → n' ≡ n + (links (held s ds) v1 + links (held s ds) v2)
  both_is e ds = let a = f1.links_is ds in let b = f2.links_is ds in omega (arith, e, a, b)

  pub follows_err : {t : State} {n' : ℕ} {p q : State} {x : Stop} {f : d.State → Result (d.State × ℕ)} {r : core.Result Merging Stop} → n' ≡ n + (e1.links + e2.links) → Became Any p q (outcome (Err x)) f → r ≡ Err x → Follows s t r n n' (λ z. links z v1 + links z v2)
  follows_err e a q = rw q record { is = both_is e; few = tt }

  pub follows_both : (m : ℕ) {t : State} {n' : ℕ} (r : core.Result Merging Stop) → n' ≡ n + (e1.links + e2.links) → s.used.vars ≤ m → OneTaken r m t.used.vars → Follows s t r n n' (λ z. links z v1 + links z v2)
  follows_both m {t} {n'} r e l o = record { is = both_is e; few = let p = both_few in few_taken r m t.used.vars n' (omega (arith, e, l, p.0, n_few)) o }

-- ---- the numeric mark of a merge

num_some : (n1 n2 : Option ℕ) (nloc need : ℕ) → option_or n2 n1 ≡ Some nloc → (s : d.State) (v : ℕ) → with_need (set_num_var s v nloc) v need ≡ merge_num s n1 n2 need v
unfolding merge_num
num_some n1 (Some x) nloc need e s v = let z : nloc ≡ x = cc in ap (λ (l : ℕ). with_need (set_num_var s v l) v need) z
num_some (Some y) None nloc need e s v = let z : nloc ≡ y = cc in ap (λ (l : ℕ). with_need (set_num_var s v l) v need) z
num_some None None nloc need e s v = cc

num_none : (n1 n2 : Option ℕ) → option_or n2 n1 ≡ None → (s : d.State) (need v : ℕ) → s ≡ merge_num s n1 n2 need v
unfolding merge_num
num_none n1 (Some x) e s need v = cc
num_none (Some y) None e s need v = cc
num_none None None e s need v = refl

module _ {s : State} (n1 n2 : Option ℕ) (need v : ℕ) {r : Option ℕ} (is : r ≡ option_or n2 n1) where
  pub marks_some : {m t : State} {nloc : ℕ} → r ≡ Some nloc → Kept s m (λ x. set_num_var x v nloc) → Kept m t (λ x. with_need x v need) → Kept s t (λ x. merge_num x n1 n2 need v)
  marks_some {nloc = nloc} e a b =
      record { changed = became_is (λ ds k. num_some n1 n2 nloc need (sym is ∙ e) (held s ds) v) (became_on (λ x. with_need x v need) a.changed b.changed); used = b.used ∙ a.used }

  pub marks_none : r ≡ None → Kept s s (λ x. merge_num x n1 n2 need v)
  marks_none e = record { changed = became_now (λ ds k. num_none n1 n2 (sym is ∙ e) (held s ds) need v); used = refl }

-- the larger need, as u32's own `max` has it
pub max_larger : (a b : ℕ) → max a b ≡ larger a b
unfolding larger
max_larger a b = elim (dec_lt b a) [ yes h ↦ rw (lt-leb a b h) (max-eq_left (omega arith)) | no h ↦ let g : a ≤ b = omega arith in rw (le-leb a b g) (max-eq_right g) ]

-- ---- showing

pub shown_var : (s : d.State) (ty id : ℕ) (n : Node) (b : Bool) → node_of n ≡ node s ty → ((st : d.State) → b ≡ is_anything (with_args st (shape_of n.shape))) → b ≡ true → sp s n.loc (d.Var id) ≡ shown s ty id
unfolding shown
shown_var s ty id n b e p q = rw (← value_is s ty n e, ← p s, q, ← loc_is s ty n e)

pub shown_same : (s : d.State) (ty id : ℕ) (n : Node) (b : Bool) → node_of n ≡ node s ty → ((st : d.State) → b ≡ is_anything (with_args st (shape_of n.shape))) → b ≡ false → outcome (Ok ty) s ≡ shown s ty id
unfolding shown outcome
shown_same s ty id n b e p q = rw (← value_is s ty n e, ← p s, q)

-- ---- what follows a binding: `var` is the answer, or what `otherwise` says

abbrev bind_then : ℕ → (d.State → Result (d.State × ℕ)) → Result (d.State × Bool) → Result (d.State × ℕ)
bind_then var otherwise m = m >>= (λ r. if r.1 then ok (r.0, var) else otherwise r.0)

module _ {s t : State} {b : Binding} {tvar ty : ℕ} (loc var : ℕ) (otherwise : d.State → Result (d.State × ℕ)) {f : d.State → Result (d.State × ℕ)} (x : Binds s t b tvar ty)
    (is : (ds : List Struct) → bind_then var otherwise (join_bind_tvar (held s ds) loc tvar ty) ≡ f (held s ds)) where
  binds_as : {v : State} {r : core.Result ℕ Stop} (g : d.State → Result (d.State × ℕ)) → ((z : d.State) → g z ≡ bind_then var otherwise (bound b loc z)) → Did t v r g → Did s v r f
  binds_as g e n =
      did_is (λ ds k. is ds)
      (record { changed = became_on (λ m. bind_then var otherwise (m loc)) x.changed (became_is (λ ds k. e (held t ds)) n.changed); inside = n.inside })

  pub binds_done : b ≡ Ok tt → var < s.used.nodes → Did s t (Ok var) f
  unfolding outcome ◌>>=◌
  binds_done e i = binds_as (λ z. ok (z, var)) (λ z. rw e refl) (did_now (rw x.used i) (λ ds k. refl))

  pub binds_failed : {v : State} {r : core.Result ℕ Stop} {y : BindError} → b ≡ Err y → y ≡ NotNumeric → Did t v r otherwise → Did s v r f
  unfolding ◌>>=◌
  binds_failed e z n = binds_as otherwise (λ s. rw (e, z) refl) n

  pub binds_recursive : {y : BindError} → b ≡ Err y → y ≡ Recursive → Did s t (Err (Failed (RecursiveType loc))) f
  unfolding outcome ◌>>=◌
  binds_recursive e z = binds_as (λ s. err s (d.RecursiveType loc)) (λ s. rw (e, z) refl) (did_now tt (λ ds k. refl))

-- ---- closing a merge

module _ (ty1 id1 ty2 loc2 id2 new var2 new_ty : ℕ) (s : d.State) where
  pub close_bound : (t : ℕ) (n : Node) → Some t ≡ get s new → node_of n ≡ node s t → outcome (Err (Failed (RecursiveType n.loc))) s ≡ close_tvar s ty1 id1 ty2 loc2 id2 new var2 new_ty
  unfolding close_tvar outcome
  close_bound t n e p = rw (← e, close_tvar, loc_is s t n p)

  pub close_free : None ≡ get s new → bind_then var2 (λ s. show_both s ty1 id1 ty2 id2) (join_bind_tvar s loc2 new new_ty) ≡ close_tvar s ty1 id1 ty2 loc2 id2 new var2 new_ty
  unfolding close_tvar
  close_free e = rw (← e, close_tvar)

-- ---- a variable that is not bound takes a type

pub unbound_is : (s : d.State) (lhs rhs var id other : ℕ) (n : Node) → node_of n ≡ node s var → bind_then var (λ s. err s (d.Incompatible lhs rhs)) (join_bind_tvar s n.loc id other) ≡ join_unbound s lhs rhs var id other
unfolding join_unbound
unbound_is s lhs rhs var id other n at = rw (loc_is s var n at) refl

pub unbound_incompatible : {s : State} (lhs rhs : ℕ) → lhs < s.used.nodes → rhs < s.used.nodes → Did s s (Err (Failed (Incompatible lhs rhs))) (λ x. err x (d.Incompatible lhs rhs))
unfolding outcome
unbound_incompatible lhs rhs i j = did_now (i, j) (λ ds k. refl)

-- ---- a variable meets another type

module _ (lhs rhs var id other : ℕ) where
  meet_free : (k : ThenMerge) (s : d.State) (g : Option ℕ) → g ≡ get s id → is_some g ≡ false → join_unbound s lhs rhs var id other ≡ meet_tvar k s lhs rhs var id other
  unfolding meet_tvar
  meet_free k s None e f = rw (← e, meet_tvar)
  meet_free k s (Some t) e f = cc

  abbrev fresh : ThenMerge → d.State × ℕ → Result (d.State × ℕ)
  fresh k y = k (insert y.0 y.1 other) y.1

  meet_bound : (k : ThenMerge) (s : d.State) (g : Option ℕ) → g ≡ get s id → is_some g ≡ true → (next_tvar s >>= fresh k) ≡ meet_tvar k s lhs rhs var id other
  unfolding meet_tvar
  meet_bound k s None e f = cc
  meet_bound k s (Some t) e f = rw (← e, meet_tvar)

  abbrev follows : Result (d.State × ℕ) → ThenMerge → Result (d.State × ℕ)
  follows m k = m >>= fresh k

  module _ {s : State} {g : Option ℕ} (is : (ds : List Struct) → g ≡ get (held s ds) id) {b : Bool} (b_is : is_some g ≡ not b) where
    module _ (e : b ≡ true) where
      from_unbound : {v : State} {answer : d.State → ThenMerge → Result (d.State × ℕ)} → Became Any s v answer (λ x k. join_unbound x lhs rhs var id other) → Became Any s v answer (λ x k. meet_tvar k x lhs rhs var id other)
      from_unbound x = became_is (λ ds z i k. meet_free k (held s ds) g (is ds) (b_is ∙ ap not e) i) x

      pub meets_free : {t : State} → Did s t (Ok var) (λ x. join_unbound x lhs rhs var id other) → Meets s t var (Ok None) (λ x k. meet_tvar k x lhs rhs var id other)
      unfolding met outcome
      meets_free a = record { changed = from_unbound (became_as (λ m (k : ThenMerge). m) a.changed (λ x. refl)); inside = tt }

      pub meets_unbound : {t : State} {x : Stop} {r : core.Result (Option TVar) Stop} → Did s t (Err x) (λ x. join_unbound x lhs rhs var id other) → r ≡ Err x → Meets s t var r (λ x k. meet_tvar k x lhs rhs var id other)
      unfolding met
      meets_unbound {x = x} a q = rw q record { changed = from_unbound (became_as (λ m (k : ThenMerge). m) a.changed (λ x. refl)); inside = stop_in _ x a.inside }

    module _ (e : b ≡ false) where
      from_next : {v : State} {answer : d.State → ThenMerge → Result (d.State × ℕ)} → Became Any s v answer (λ x k. next_tvar x >>= fresh k) → Became Any s v answer (λ x k. meet_tvar k x lhs rhs var id other)
      from_next x = became_is (λ ds z i k. meet_bound k (held s ds) g (is ds) (b_is ∙ ap not e) i) x

      pub meets_full : {t : State} {x : Stop} {r : core.Result (Option TVar) Stop} → Took s t (Err x) (λ y. next_tvar y) → r ≡ Err x → Meets s t var r (λ x k. meet_tvar k x lhs rhs var id other)
      unfolding met
      meets_full {x = x} a q = rw q record { changed = from_next (became_as follows a.changed (λ y i k. err_is x y (fresh k) i)); inside = a.inside }

      pub meets_fresh : {t v : State} {new : TVar} → Took s t (Ok new) (λ y. next_tvar y) → Kept t v (λ y. insert y new.0 other) → Meets s v var (Ok (Some new)) (λ x k. meet_tvar k x lhs rhs var id other)
      unfolding met ◌>>=◌
      meets_fresh {new = new} a b = record { changed = from_next (became_number follows a.changed (became_as (λ y (k : ThenMerge). k y new.0) b.changed (λ y. refl))); inside = tt }
