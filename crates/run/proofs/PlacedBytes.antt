-- The fields that an answer writes as a byte are bytes, whichever mark was run. Assumes nothing.
use mathlib.Core.Path.{◌≡◌, refl, ap, ◌∙◌, subst}
use mathlib.Core.Bool.{true}
use mathlib.Core.List.{List}
use Prim.Native.Nat.{ℕ}
use Rattle.definition.specs.Types.{State, Struct, Result, ok, ◌>>=◌}
use Rattle.definition.specs.Trees.{Tree}
use Rattle.definition.specs.Build.{build}
use Rattle.definition.specs.Record.{Record}
use Rattle.theorems.proofs.SoundRanges.{Ranges}
use Rattle.theorems.proofs.SoundRead.{TreeIn, RecordIn}
use Rattle.theorems.proofs.TotalWalk.{e_ok, bind, place_run, pairs_run, many_run}
use Rattle.table.specs.Did.{held, tables}
use Rattle.table.specs.declared.state.State.{State as Table}
use Rattle.writer.specs.Bytes.{AllBytes}
use Rattle.answer.specs.Ran.{Settles}
use Rattle.answer.specs.declared.Ran.{Ran}
use Rattle.fields.specs.Noded.{unfolded, unfolded_links, ready, tparams, Run, binds, looks, adds, Noded, run, Shape, declares, solves, expands, none, one, both, after_pairs, all_pairs, keeps, shape, place, place_record}
use Rattle.table.specs.Known.{Known}
use Rattle.run.proofs.Bytes.{Leaves, step_bytes, record_bytes, ready_leaves, subst_leaves, unfold_leaves}
use Rattle.run.specs.Dispatch.{noded_run, step_of, kept_of, RanAs}
use Rattle.run.proofs.Placed.{ShapeIn, shape_in, run_placed}

-- ---- the state with a record's types placed

then : {b : State} {A B : Type 0} {m : Result (State × A)} (f : State × A → Result (State × B)) → Leaves b m → ((a : State × A) → Ranges b a.0 → Leaves b (f a)) → Leaves b (m >>= f)
then f l h = bind f l (λ a i. h a (i tt))

module _ (b : State) where
  -- after m, the tree t is placed
  last : {A B : Type 0} {m : Result (State × A)} (t : Tree) (f : A → ℕ → B) → Leaves b m → TreeIn b t → Leaves b (m >>= (λ p. build t p.0 >>= (λ q. ok (q.0, f p.1 q.1))))
  last t f l g = then _ l (λ p i. then _ (place_run (Unit {0}) b true t (λ y. g) p.0 (λ y. i)) (λ q j. e_ok (λ y. j)))

  module _ (i : Ranges b b) where
    tree : (t : Tree) → TreeIn b t → Leaves b (build t b)
    tree t g = place_run (Unit {0}) b true t (λ y. g) b (λ y. i)

    place_leaves : (h : Shape) → ShapeIn b h → Leaves b (place h b)
    place_leaves (declares abilities params) g = e_ok (λ y. i)
    place_leaves solves g = e_ok (λ y. i)
    place_leaves (expands t) g = then _ (tree t g) (λ p j. e_ok (λ y. j))
    place_leaves (none r) g = e_ok (λ y. i)
    place_leaves (one t f) g = then _ (tree t g) (λ p j. e_ok (λ y. j))
    place_leaves (both t u f) g = last u (λ a c. run (f a c)) (tree t g.0) g.1
    place_leaves (after_pairs pairs t f) g = last t (λ a c. run (f a c)) (pairs_run (Unit {0}) b true pairs (λ y. g.0) b (λ y. i)) g.1
    place_leaves (keeps listed) g = e_ok (λ y. i)
    place_leaves (all_pairs pairs) g = then _ (many_run (Unit {0}) b true pairs (λ y. g) b (λ y. i)) (λ p j. e_ok (λ y. j))

    pub placed_in : (x : Record) → RecordIn b x → (s : State) (n : Noded) → place_record x b ≡ ok (s, n) → Ranges b s
    unfolding place_record
    placed_in x g s n e = go (subst (λ (m : Result (State × Noded)). Leaves b m) e (place_leaves (shape x) (shape_in b x g)))
      where
        go : Leaves b {A = Noded} (ok (s, n)) → Ranges b s
        go (e_ok j) = j tt

-- ---- what the run leaves

module _ {s t : Table} {r : Ran} {params : List (List ℕ)} (ds : List Struct) (k : Known s.words.now s.used params ds) (b : State) (i : Ranges b b) (x : Record) (g : RecordIn b x) where
  -- where the state is kept
  kept : (n : Run) → kept_of n ≡ true → RanAs (Known s.words.now s.used params) s t r n → place_record x b ≡ ok (held s ds, run n) → Settles r.result → AllBytes (tables t)
  unfolding ◌>>=◌ noded_run
  kept n e c p h = record_bytes c ds k b e i x g (run_placed b x ∙ ap (λ (m : Result (State × Noded)). m >>= (λ q. noded_run q.1 q.0 b)) p) h

  pub run_bytes : (n : Run) → RanAs (Known s.words.now s.used params) s t r n → place_record x b ≡ ok (held s ds, run n) → Settles r.result → AllBytes (tables t)
  unfolding step_of
  run_bytes (binds n) c p h = kept _ refl c p h
  run_bytes (looks (unfolded ty)) c p h = step_bytes c ds k b (unfold_leaves b (held s ds) (placed_in b i x g _ _ p) r.result h) h
  run_bytes (looks (unfolded_links ty)) c p h = step_bytes c ds k b (unfold_leaves b (held s ds) (placed_in b i x g _ _ p) r.result h) h
  run_bytes (looks (ready how ty)) c p h = step_bytes c ds k b (ready_leaves b (held s ds) (placed_in b i x g _ _ p) ty) h
  run_bytes (looks (tparams pairs ty)) c p h = step_bytes c ds k b (subst_leaves b (held s ds) (placed_in b i x g _ _ p) pairs ty) h
  run_bytes (adds n) c p h = kept _ refl c p h
