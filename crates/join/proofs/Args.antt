-- The argument walk: both lists gone through together, and where its loop stands. Assumes nothing.
use mathlib.Core.Path.{◌≡◌, refl, ap, ◌∙◌}
use mathlib.Core.List.{List, [], ◌∷◌}
use Prim.Native.Nat.{ℕ, ◌+◌, ◌<◌, ◌≤◌, min}
use native.Mathlib.Omega.{arith}
use Rattle.std.specs.Prelude.{Some, Ok, Err}
use Rattle.std.specs.Prelude as core
use lib.ListN.{length, get_or, set}
use Rattle.definition.specs.Types as d
use Rattle.definition.specs.Types.{Struct, Result, ok, ◌>>=◌}
use Rattle.definition.specs.Store.{args_at, with_structs}
use Rattle.definition.specs.Join as j
use Rattle.definition.specs.Join.{join_impl, join_impl_types}
use Rattle.names.specs.Names.{mark_of, name_of}
use Rattle.table.specs.Rows.{places}
use Rattle.table.specs.State.{Any, Named, seen}
use Rattle.table.specs.Did.{held, tables, Did, Linked}
use Rattle.table.specs.declared.state.State.{State}
use Rattle.table.specs.declared.state.Stop.{Stop}
use Rattle.table.proofs.Steps.{bind_ok}
use Rattle.table.proofs.Did.{did_is, to_when, linked, linked_now}
use Rattle.table.proofs.Grown.{nodes_grow}
use Rattle.table.proofs.Parts.{below_named}
use Rattle.table.proofs.Walk.{rest, just_list, range, range_length, range_at, zip_types, zip_is, placed_length, arg_kept, Walked, walk_start, walk_more}
use Rattle.table.specs.State.{args_of}
use Rattle.table.specs.declared.Applied.{Applied}
use Rattle.join.specs.Join.{ArgsIn, Joined}
use Rattle.join.specs.declared.Types.{Types}
use Rattle.join.proofs.Lists.{listed_is, list_err, list_ok}

abbrev pub inner : ℕ → j.JoinImpl
inner left = λ s c l r. join_impl left s c l r

-- ---- as a walk over places

-- the join of both i-th types
unfoldable pub join_at : ℕ → j.TypingCase → List ℕ → List ℕ → d.State → ℕ → Result (d.State × ℕ)
join_at left case tys1 tys2 s i = join_impl left s case (get_or tys1 i 0) (get_or tys2 i 0)

module _ (left : ℕ) (case : j.TypingCase) where
  abbrev onto : ℕ → d.State × List ℕ → Result (d.State × List ℕ)
  onto t x = ok (x.0, t ∷ x.1)

  zipped : (l m : List ℕ) (s : d.State) → zip_types (λ s x y. join_impl left s case x y) s l m ≡ join_impl_types (inner left) s case l m
  unfolding zip_types join_impl_types
  zipped [] m s = refl
  zipped (x ∷ l) [] s = refl
  zipped (x ∷ l) (y ∷ m) s = ap (λ (h : d.State × ℕ → Result (d.State × List ℕ)). join_impl left s case x y >>= h) (λ i r. zipped l m r.0 i >>= onto r.1)

  types_are : (l m : List ℕ) (n : ℕ) (s : d.State) → n ≡ min (length l) (length m) → rest (join_at left case l m) just_list [] (range 0 n) s ≡ join_impl_types (inner left) s case l m
  unfolding join_at
  types_are l m n s e = zip_is (λ s x y. join_impl left s case x y) (join_at left case l m) just_list n l m s e (λ i s lt. refl) ∙ bind_ok (zip_types (λ s x y. join_impl left s case x y) s l m) ∙ zipped l m s

-- ---- where the loop stands

pub record Gathering (left : ℕ) (case : j.TypingCase) (t1 t2 : Applied) (n : ℕ) (s₀ s : State) (tys : List ℕ) (i : ℕ) : Type 0 where
  pub same : Linked s₀ s
  pub walked : Walked Any (join_at left case (args_at (tables s₀) (args_of t1)) (args_at (tables s₀) (args_of t2))) just_list (range 0 n) n s₀.words.now s₀.used s.words.now s.used tys i
  pub args1 : Named s₀.words.now s₀.used t1.first t1.many s₀.used.nodes
  pub args2 : Named s₀.words.now s₀.used t2.first t2.many s₀.used.nodes
  pub fewer : n ≡ min t1.many t2.many

module _ {left : ℕ} {case : j.TypingCase} {s₀ : State} {t1 t2 : Applied} {n : ℕ} where
  pub gather_none : {tys : List ℕ} → ArgsIn s₀ t1 → ArgsIn s₀ t2 → n ≡ min t1.many t2.many → length tys ≡ 8 → Gathering left case t1 t2 n s₀ s₀ tys 0
  gather_none a b f long =
      let a1 = below_named s₀.words.now s₀.used s₀.used.nodes (mark_of t1.k) (name_of t1.n) t1.first t1.many a in
      let a2 = below_named s₀.words.now s₀.used s₀.used.nodes (mark_of t2.k) (name_of t2.n) t2.first t2.many b in
      record { same = linked_now _; walked = walk_start s₀.lay (range_length 0 n) (omega (arith, f, a1.placed.few)) long; args1 = a1; args2 = a2; fewer = f }

  module _ {s : State} {tys : List ℕ} {i : ℕ} (g : Gathering left case t1 t2 n s₀ s tys i) where
    all_joined : (ds : List Struct) → rest (join_at left case (args_at (tables s₀) (args_of t1)) (args_at (tables s₀) (args_of t2))) just_list [] (range 0 n) (held s₀ ds)
        ≡ join_impl_types (inner left) (held s₀ ds) case (args_at (held s₀ ds) (args_of t1)) (args_at (held s₀ ds) (args_of t2))
    unfolding args_at seen with_structs
    all_joined ds =
        types_are left case (args_at (tables s₀) (args_of t1)) (args_at (tables s₀) (args_of t2)) n (held s₀ ds)
        (omega (arith, g.fewer, placed_length s₀.words.now s₀.used t1.first t1.many g.args1.placed, placed_length s₀.words.now s₀.used t2.first t2.many g.args2.placed))

    module _ (lt : i < n) {ty1 ty2 : ℕ}
        (read1 : (ds : List Struct) (m : ℕ) → i < m → ty1 ≡ get_or (args_at (held s ds) (places t1.first m)) i 0)
        (read2 : (ds : List Struct) (m : ℕ) → i < m → ty2 ≡ get_or (args_at (held s ds) (places t2.first m)) i 0) where
      pub is1 : ty1 ≡ get_or (args_at (tables s₀) (args_of t1)) i 0
      is1 = arg_kept s₀.words.now s₀.used t1.first t1.many g.args1.placed s.words.now s.used g.walked.changed.grown ty1 i (omega (arith, g.fewer)) read1

      pub is2 : ty2 ≡ get_or (args_at (tables s₀) (args_of t2)) i 0
      is2 = arg_kept s₀.words.now s₀.used t2.first t2.many g.args2.placed s.words.now s.used g.walked.changed.grown ty2 i (omega (arith, g.fewer)) read2

      pub gather_in : (ty1 < s.used.nodes) × (ty2 < s.used.nodes)
      gather_in =
          let n = nodes_grow s₀.words.now s₀.used s.words.now s.used g.walked.changed.grown in
          (omega (arith, is1, g.args1.smaller i (omega (arith, g.fewer))), omega (arith, is2, g.args2.smaller i (omega (arith, g.fewer))))

      module _ {t : State} {r : core.Result ℕ Stop} (step : Did s t r (λ x. join_impl left x case ty1 ty2)) where
        at_place : Did s t r (λ x. join_at left case (args_at (tables s₀) (args_of t1)) (args_at (tables s₀) (args_of t2)) x i)
        unfolding join_at
        at_place = did_is (λ ds k. rw (is1, is2) refl) step

      pub gather_err : {t : State} {e : Stop} {r : core.Result Types Stop} → Did s t (Err e) (λ x. join_impl left x case ty1 ty2) → r ≡ Err e
          → Joined s₀ t r (λ x. join_impl_types (inner left) x case (args_at x (args_of t1)) (args_at x (args_of t2)))
      gather_err step q = listed_is (λ ds k. all_joined ds) (list_err g.same g.walked lt (range_at n i lt) (at_place step) q)

      pub gather_more : {t : State} {p at : ℕ} → Did s t (Ok p) (λ x. join_impl left x case ty1 ty2) → at ≡ i → Gathering left case t1 t2 n s₀ t (set tys at p) (i + 1)
      gather_more {p = p} step e =
          record { same = linked step.changed.same g.same; walked = walk_more g.walked lt (range_at n i lt) (to_when (at_place step)) refl refl e; args1 = g.args1; args2 = g.args2; fewer = g.fewer }

    pub gathered : n ≤ i → Joined s₀ s (Ok (record { tys = tys; many = n })) (λ x. join_impl_types (inner left) x case (args_at x (args_of t1)) (args_at x (args_of t2)))
    gathered no_more = listed_is (λ ds k. all_joined ds) (list_ok g.same g.walked (record { tys = tys; many = n }) refl refl no_more)
