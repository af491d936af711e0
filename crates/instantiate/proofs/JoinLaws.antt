-- The joins of the variables with the arguments over a state. Assumes nothing.
use mathlib.Core.Path.{◌≡◌, refl, ap, ◌∙◌, sym}
use mathlib.Core.List.{List, []}
use Prim.Native.Nat.{ℕ, ◌+◌, ◌≤◌, ◌<◌, min}
use native.Mathlib.Omega.{arith}
use Rattle.std.specs.Prelude.{None, Ok, Err}
use Rattle.std.specs.Prelude as core
use lib.ListN.{length, get_or, set, take}
use Rattle.definition.specs.Types as d
use Rattle.definition.specs.Store.{sp}
use Rattle.definition.specs.Join.{join}
use Rattle.table.specs.State.{Any, Parts}
use Rattle.table.specs.Did.{held, Did, Linked}
use Rattle.table.specs.declared.state.State.{State}
use Rattle.table.specs.declared.state.Stop.{Stop}
use Rattle.table.proofs.Did.{did_is, to_when, of_when, stop_none, linked, linked_now}
use Rattle.table.proofs.Grown.{nodes_grow}
use Rattle.table.proofs.Walk.{rest, sp_apply, range, range_length, range_at, Walked, walk_start, walk_stop, walk_more, walk_end}
use Rattle.instantiate.specs.Args.{joined}
use Rattle.instantiate.proofs.ArgLaws.{join_by, joins_are}

-- i of c variables are joined with their arguments
pub record Joining (loc : ℕ) (k : d.AbilityMark) (n : d.TypeName) (tvars tys : List ℕ) (c : ℕ) (s₀ s : State) (parts : List ℕ) (i : ℕ) : Type 0 where
  pub same : Linked s₀ s
  pub walked : Walked Any (join_by tvars tys) (sp_apply loc k n) (range 0 c) c s₀.words.now s₀.used s.words.now s.used parts i
  pub tvars_in : Parts s₀.used.nodes tvars c
  pub tys_in : Parts s₀.used.nodes tys c
  pub sizes : (length tvars ≡ 8) × (length tys ≡ 8)

pub joins_start : {loc : ℕ} {k : d.AbilityMark} {n : d.TypeName} {tvars tys : List ℕ} {a b c : ℕ} {s₀ : State} {parts : List ℕ}
    → Parts s₀.used.nodes tvars a → Parts s₀.used.nodes tys b → c ≡ min a b → (length tvars ≡ 8) × (length tys ≡ 8) → length parts ≡ 8
    → Joining loc k n tvars tys c s₀ s₀ parts 0
joins_start {c = c} {s₀ = s₀} pa pb e sizes size =
    record {
      same = linked_now _;
      walked = walk_start s₀.lay (range_length 0 c) (omega (arith, pa.few)) size;
      tvars_in = record { few = omega (arith, pa.few); below = λ j lt. pa.below j (omega arith) };
      tys_in = record { few = omega (arith, pb.few); below = λ j lt. pb.below j (omega arith) };
      sizes = sizes;
    }

module _ {loc : ℕ} {k : d.AbilityMark} {n : d.TypeName} {tvars tys : List ℕ} {c : ℕ} {s₀ s : State} {parts : List ℕ} {i : ℕ} (g : Joining loc k n tvars tys c s₀ s parts i) where
  pub joins_in : (at : ℕ) → at ≡ i → i < c → (get_or tvars at 0 < s.used.nodes) × (get_or tys at 0 < s.used.nodes)
  joins_in at e lt =
      let grow = nodes_grow s₀.words.now s₀.used s.words.now s.used g.walked.changed.grown in
      (omega (arith, g.tvars_in.below at (omega arith)), omega (arith, g.tys_in.below at (omega arith)))

  join_step : {at : ℕ} {t : State} {r : core.Result ℕ Stop} → at ≡ i → Did s t r (λ z. join z (get_or tvars at 0) (get_or tys at 0)) → Did s t r (λ z. join_by tvars tys z i)
  unfolding join_by
  join_step at_is step = did_is (λ ds z. ap (λ (x : ℕ). join (held s ds) (get_or tvars x 0) (get_or tys x 0)) at_is) step

  -- the walk is the joins of the first a of tvars and the first b of tys, then the node
  module _ {a b : ℕ} (pa : Parts s₀.used.nodes tvars a) (pb : Parts s₀.used.nodes tys b) (e : c ≡ min a b) {t : State} where
    all_joined : {r : core.Result ℕ Stop} → Did s₀ t r (rest (join_by tvars tys) (sp_apply loc k n) [] (range 0 c)) → Did s₀ t r (joined loc k n (take a tvars) (take b tys))
    all_joined x = did_is (λ ds z. joins_are loc k n tvars tys a b c (held s₀ ds) (omega (arith, pa.few, g.sizes.0)) (omega (arith, pb.few, g.sizes.1)) e) x

    pub joins_err : {at : ℕ} {x : Stop} {r : core.Result ℕ Stop} → at ≡ i → i < c → Did s t (Err x) (λ z. join z (get_or tvars at 0) (get_or tys at 0)) → r ≡ Err x → Did s₀ t r (joined loc k n (take a tvars) (take b tys))
    joins_err {x = x} at_is lt step q =
        rw q (all_joined (of_when (linked step.changed.same g.same) (walk_stop g.walked lt (range_at c i lt) (to_when (join_step at_is step)) (sym (stop_none x)) refl)))

    pub joins_end : {r : core.Result ℕ Stop} → c ≤ i → Did s t r (λ z. sp z loc (d.Apply k n (take c parts))) → Did s₀ t r (joined loc k n (take a tvars) (take b tys))
    unfolding sp_apply
    joins_end q x = all_joined (of_when (linked x.changed.same g.same) (walk_end g.walked q (to_when x)))

  pub joins_more : {at p : ℕ} {t : State} → at ≡ i → i < c → Did s t (Ok p) (λ z. join z (get_or tvars at 0) (get_or tys at 0)) → Joining loc k n tvars tys c s₀ t (set parts at p) (i + 1)
  joins_more at_is lt step =
      record {
        same = linked step.changed.same g.same;
        walked = walk_more g.walked lt (range_at c i lt) (to_when (join_step at_is step)) refl refl at_is;
        tvars_in = g.tvars_in;
        tys_in = g.tys_in;
        sizes = g.sizes;
      }
