-- The definition's run of a record places its types and runs what they are placed as; its trees are those of its shape. Assumes nothing.
use mathlib.Core.Path.{◌≡◌, refl, ◌∙◌}
use Prim.Native.Nat.{ℕ}
use Rattle.definition.specs.Types.{State, Result, ok, err, refused, ◌>>=◌}
use Rattle.definition.specs.Write.{Bytes}
use Rattle.definition.specs.Trees.{Tree}
use Rattle.definition.specs.Build.{build, build_pairs, build_many}
use Rattle.definition.specs.Constraints.{solve_constraints}
use Rattle.definition.specs.Join.{TypingCase}
use Rattle.definition.specs.Keep.{reach, cleared, survivors}
use Rattle.definition.specs.Record as d
use Rattle.definition.specs.Record.{Record}
use Rattle.definition.specs.Step.{constrain, two_types, run_pairs}
use Rattle.definition.specs.Step as definition
use Rattle.theorems.specs.ReadySpelled.{spelled}
use Rattle.theorems.proofs.DemandOrder.{All}
use Rattle.theorems.proofs.SoundRanges.{StructIn}
use Rattle.theorems.proofs.SoundRead.{TreeIn, RecordIn}
use Rattle.fields.specs.Noded.{Run, Noded, expand, many, run, Shape, declares, solves, expands, none, one, both, after_pairs, all_pairs, keeps, shape, place, place_record}
use Rattle.run.specs.Runs.{join_in, two_run, unfold_run, ready_run, tparams_run, instantiate_run, tvar_run, marked_run, set_num_run, constraint_run, needs_run, declare_run}
use Rattle.run.specs.Dispatch.{expand_run, run_of, noded_run}

-- ---- mark by mark

abbrev run_shape : Shape → State → Result (State × Bytes)
run_shape (declares abilities params) s = declare_run abilities params s s
run_shape solves s = solve_constraints s
run_shape (expands t) s = build t s >>= (λ p. expand_run p.1 p.0 s)
run_shape (none r) s = run_of r s s
run_shape (one t f) s = build t s >>= (λ p. run_of (f p.1) p.0 s)
run_shape (both t u f) s = build t s >>= (λ p. build u p.0 >>= (λ q. run_of (f p.1 q.1) q.0 s))
run_shape (after_pairs ps t f) s = build_pairs ps s >>= (λ p. build t p.0 >>= (λ q. run_of (f p.1 q.1) q.0 s))
run_shape (all_pairs ps) s = build_many ps s >>= (λ p. ok (run_pairs p.0 p.1))
run_shape (keeps listed) s = ok (cleared s listed, survivors (reach s listed).vars)

-- what was read well
abbrev pub ShapeIn : State → Shape → Type 0
ShapeIn s (declares abilities params) = StructIn (record { abilities = abilities; params = params })
ShapeIn s solves = Unit {0}
ShapeIn s (expands t) = TreeIn s t
ShapeIn s (none r) = Unit {0}
ShapeIn s (one t f) = TreeIn s t
ShapeIn s (both t u f) = TreeIn s t × TreeIn s u
ShapeIn s (after_pairs ps t f) = All (λ (p : ℕ × Tree). TreeIn s p.1) ps × TreeIn s t
ShapeIn s (all_pairs ps) = All (λ (p : TypingCase × Tree × Tree). TreeIn s p.1 × TreeIn s p.2) ps
ShapeIn s (keeps listed) = Unit {0}

-- the definition's run is the shape's, and what was read well is of a good shape
by_record : (s : State) (x : Record) → (definition.run s x ≡ run_shape (shape x) s) × (RecordIn s x → ShapeIn s (shape x))
unfolding definition.run constrain two_types definition.unfolded run_of join_in two_run unfold_run ready_run spelled tparams_run instantiate_run tvar_run marked_run set_num_run constraint_run needs_run declare_run
by_record s (d.SD abilities params) = (refl, λ g. g)
by_record s (d.FV loc) = (refl, λ g. tt)
by_record s (d.NV loc) = (refl, λ g. tt)
by_record s (d.SN v loc) = (refl, λ g. tt)
by_record s (d.NL loc bits) = (refl, λ g. tt)
by_record s (d.JN t1 t2) = (refl, λ g. g)
by_record s (d.SU t1 t2) = (refl, λ g. g)
by_record s (d.UF t) = (refl, λ g. g)
by_record s (d.RD t) = (refl, λ g. g)
by_record s (d.IN t) = (refl, λ g. g)
by_record s (d.TS pairs t) = (refl, λ g. g)
by_record s (d.NC loc kind t) = (refl, λ g. g.1)
by_record s (d.BC loc t) = (refl, λ g. g.1)
by_record s (d.SC loc t) = (refl, λ g. g.1)
by_record s d.SV = (refl, λ g. tt)
by_record s (d.RM t) = (refl, λ g. tt)
by_record s (d.CN t) = (refl, λ g. g)
by_record s (d.XP t) = (refl, λ g. g)
by_record s (d.MJ pairs) = (refl, λ g. g)
by_record s (d.UL t) = (refl, λ g. g)
by_record s (d.JL t1 t2) = (refl, λ g. g)
by_record s (d.KP listed) = (refl, λ g. tt)

pub shape_in : (s : State) (x : Record) → RecordIn s x → ShapeIn s (shape x)
shape_in s x g = (by_record s x).1 g

-- ---- by shape

module _ (s : State) where
  abbrev then_run : Result (State × Noded) → Result (State × Bytes)
  then_run m = m >>= (λ q. noded_run q.1 q.0 s)

  last : {A : Type 0} (m : Result (State × A)) (f : A → Noded) → (m >>= (λ p. noded_run (f p.1) p.0 s)) ≡ then_run (m >>= (λ p. ok (p.0, f p.1)))
  unfolding ◌>>=◌
  last (ok p) f = refl
  last (err s e) f = refl
  last (refused x) f = refl

  -- and the tree t after it
  more : {A : Type 0} (m : Result (State × A)) (t : Tree) (f : A → ℕ → Run)
      → (m >>= (λ p. build t p.0 >>= (λ q. run_of (f p.1 q.1) q.0 s))) ≡ then_run (m >>= (λ p. build t p.0 >>= (λ q. ok (q.0, run (f p.1 q.1)))))
  unfolding ◌>>=◌ noded_run
  more (ok p) t f = last (build t p.0) (λ u. run (f p.1 u))
  more (err s e) t f = refl
  more (refused x) t f = refl

  placed_is : (h : Shape) → run_shape h s ≡ then_run (place h s)
  unfolding ◌>>=◌ noded_run
  placed_is (declares abilities params) = refl
  placed_is solves = refl
  placed_is (expands t) = last (build t s) expand
  placed_is (none r) = refl
  placed_is (one t f) = last (build t s) (λ u. run (f u))
  placed_is (both t u f) = more (build t s) u f
  placed_is (after_pairs ps t f) = more (build_pairs ps s) t f
  placed_is (all_pairs ps) = last (build_many ps s) many
  placed_is (keeps listed) = refl

pub run_placed : (s : State) (x : Record) → definition.run s x ≡ (place_record x s >>= (λ (s', n). noded_run n s' s))
unfolding place_record
run_placed s x = (by_record s x).0 ∙ placed_is s (shape x)
