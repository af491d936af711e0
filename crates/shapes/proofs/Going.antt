-- A type gone down level by level, over a state. Assumes nothing.
use mathlib.Core.Path.{◌≡◌, refl, sym, ◌∙◌}
use mathlib.Core.List.{List, []}
use Prim.Native.Nat.{ℕ, ◌+◌, ◌-◌, ◌≤◌, ◌<◌}
use native.Mathlib.Omega.{arith}
use Rattle.std.specs.Prelude.{Ok, Err, Some, None}
use Rattle.std.specs.Prelude as core
use lib.ListN.{length, get_or, set, take}
use Rattle.definition.specs.Types as d
use Rattle.definition.specs.Types.{Struct, Result}
use Rattle.definition.specs.Store.{node, with_args, args_at}
use Rattle.table.specs.Rows.{places}
use Rattle.table.specs.State.{Parts, Named, NodesIn, outcome, node_of, shape_of}
use Rattle.table.specs.declared.Node.{Node}
use Rattle.table.specs.declared.Shape.{Shape}
use Rattle.refusals.specs.declared.Refusal.TheVariants.{RunsIntoItself}
use Rattle.table.specs.declared.state.State.{State}
use Rattle.table.specs.declared.state.Stop.{Stop}
use Rattle.table.specs.declared.state.Stop.TheVariants.{Refused}
use Rattle.table.specs.Did.{held, tables, DidFor, Linked}
use Rattle.table.proofs.Did.{to_when, of_when, stop_none, did_now, did_is, linked, linked_now}
use Rattle.table.proofs.Grown.{nodes_grow}
use Rattle.table.proofs.Walk.{rest, Walked, placed_length, arg_kept, walk_start, walk_stop, walk_more, walk_end, walk_parts}
use Rattle.shapes.proofs.Levels.{Walk, Levels, level_is}

-- ---- one level

module _ {down : ℕ → Walk} {value : Walk → d.State → ℕ → ℕ → d.TypeValue → Result (d.State × ℕ)} (levels : Levels down value) (s : State) (left ty : ℕ) where
  pub down_none : {K : List Struct → Type 0} → left ≡ 0 → DidFor K s s (Err (Refused RunsIntoItself)) (λ x. down left x ty)
  unfolding outcome
  down_none z = rw z (did_now tt (λ ds k. levels.none_left (held s ds) ty))

  module _ (nd : Node) (left_some : left ≡ 0 → ⊥) (node_is : (ds : List Struct) → node_of nd ≡ node (held s ds) ty) where
    -- what is done for the shape sh, f, is what value says of it
    pub down_by : {K : List Struct → Type 0} {sh : Shape} {t : State} {r : core.Result ℕ Stop} {f : d.State → Result (d.State × ℕ)} → nd.shape ≡ sh
        → ((ds : List Struct) → f (held s ds) ≡ value (down (left - 1)) (held s ds) ty nd.loc (with_args (held s ds) (shape_of sh))) → DidFor K s t r f → DidFor K s t r (λ x. down left x ty)
    down_by e q a = did_is (λ ds k. q ds ∙ level_is levels left ty left_some nd e (held s ds) (node_is ds)) a

    -- .. is to answer r
    pub down_stays : {K : List Struct → Type 0} {sh : Shape} (r : core.Result ℕ Stop) → nd.shape ≡ sh → NodesIn s.used.nodes r
        → ((x : d.State) → outcome r x ≡ value (down (left - 1)) x ty nd.loc (with_args x (shape_of sh))) → DidFor K s s r (λ x. down left x ty)
    down_stays r e i q = did_now i (λ ds k. q (held s ds) ∙ level_is levels left ty left_some nd e (held s ds) (node_is ds))

-- ---- a named type's arguments gone through

-- i of them are through, and their answers are the first i of parts
pub record Through (K : List Struct → Type 0) (f : Walk) (h : List ℕ → d.State → Result (d.State × ℕ)) (first many : ℕ) (s₀ s : State) (parts : List ℕ) (i : ℕ) : Type 0 where
  pub walked : Walked K f h (args_at (tables s₀) (places first many)) many s₀.words.now s₀.used s.words.now s.used parts i
  pub named : Named s₀.words.now s₀.used first many s₀.used.nodes

-- .. in the same words
pub record Going (K : List Struct → Type 0) (f : Walk) (h : List ℕ → d.State → Result (d.State × ℕ)) (first many : ℕ) (s₀ s : State) (parts : List ℕ) (i : ℕ) : Type 0 where
  pub same : Linked s₀ s
  pub through : Through K f h first many s₀ s parts i

module _ {K : List Struct → Type 0} {f : Walk} {h : List ℕ → d.State → Result (d.State × ℕ)} {first many : ℕ} {s₀ : State} where
  pub going_start : {parts : List ℕ} → Named s₀.words.now s₀.used first many s₀.used.nodes → length parts ≡ 8 → Going K f h first many s₀ s₀ parts 0
  going_start nm e = record { same = linked_now _; through = record { walked = walk_start s₀.lay (placed_length s₀.words.now s₀.used first many nm.placed) nm.placed.few e; named = nm } }

  module _ {s : State} {parts : List ℕ} {i : ℕ} (g : Going K f h first many s₀ s parts i) where
    pub going_nodes : s₀.used.nodes ≤ s.used.nodes
    going_nodes = nodes_grow _ _ _ _ g.through.walked.changed.grown

    -- argument i is n
    module _ (lt : i < many) {n : ℕ} (read : (ds : List Struct) (m : ℕ) → i < m → n ≡ get_or (args_at (held s ds) (places first m)) i 0) where
      n_is : n ≡ get_or (args_at (tables s₀) (places first many)) i 0
      n_is = arg_kept s₀.words.now s₀.used first many g.through.named.placed s.words.now s.used g.through.walked.changed.grown n i lt read

      pub going_in : n < s.used.nodes
      going_in = omega (arith, n_is, g.through.named.smaller i lt, going_nodes)

      pub going_stop : {t : State} {e : Stop} {r : core.Result ℕ Stop} → DidFor K s t (Err e) (λ x. f x n) → r ≡ Err e → DidFor K s₀ t r (rest f h [] (args_at (tables s₀) (places first many)))
      going_stop {e = e} step q = rw q (of_when (linked step.changed.same g.same) (walk_stop g.through.walked {b = None} lt n_is (to_when step) (sym (stop_none e)) refl))

      pub going_more : {t : State} {p at : ℕ} → DidFor K s t (Ok p) (λ x. f x n) → at ≡ i → Going K f h first many s₀ t (set parts at p) (i + 1)
      going_more {p = p} step e = record { same = linked step.changed.same g.same; through = record { walked = walk_more g.through.walked {b = Some p} lt n_is (to_when step) refl refl e; named = g.through.named } }

    pub going_end : {t : State} {r : core.Result ℕ Stop} → many ≤ i → DidFor K s t r (h (take many parts)) → DidFor K s₀ t r (rest f h [] (args_at (tables s₀) (places first many)))
    going_end no_more x = of_when (linked x.changed.same g.same) (walk_end g.through.walked no_more (to_when x))

    pub going_parts : many ≤ i → Parts s.used.nodes parts many
    going_parts no_more = walk_parts g.through.walked no_more
