-- make_tparams over a state: each argument's variable in turn. Assumes nothing.
use mathlib.Core.Path.{◌≡◌, refl, ap, ◌∙◌}
use mathlib.Core.List.{List, []}
use Prim.Native.Nat.{ℕ, ◌+◌, ◌≤◌, ◌<◌, min}
use native.Mathlib.Omega.{arith}
use Rattle.std.specs.Prelude.{Ok, Err}
use Rattle.std.specs.Prelude as core
use lib.ListN.{length, get_or, set}
use Rattle.definition.specs.Types as d
use Rattle.definition.specs.Types.{Struct}
use Rattle.definition.specs.Store.{args_at}
use Rattle.definition.specs.Instantiate.{tparam_constraints}
use Rattle.names.specs.declared.AbilitySet.{AbilitySet}
use Rattle.table.specs.Rows.{places}
use Rattle.table.specs.State.{Declares, Placed}
use Rattle.table.specs.Known.{Known}
use Rattle.table.specs.Did.{held, tables, DidFor, Did, Linked}
use Rattle.table.specs.declared.state.State.{State}
use Rattle.table.specs.declared.state.Stop.{Stop}
use Rattle.table.proofs.Did.{did_is, to_when, linked, linked_now}
use Rattle.table.proofs.Walk.{rest, just_list, range, range_length, range_at, Walked, placed_length, arg_kept, walk_start, walk_more}
use Rattle.join.proofs.Lists.{listed_is, list_err, list_ok}
use Rattle.instantiate.specs.Known.{Numbered, ability_at}
use Rattle.instantiate.specs.Args.{make_tparam, made, Made}
use Rattle.join.specs.declared.Types.{Types}
use Rattle.instantiate.proofs.ArgLaws.{tparam_by, tparams_are, ability_is, is_numbered}
use Rattle.instantiate.proofs.TvarLaws.{did_any}

-- the declarations that s and the bytes hold
abbrev pub KnownTo : State → List (List ℕ) → List Struct → Type 0
KnownTo s params ds = Known s.words.now s.used params ds

-- i of count variables are made
pub record Making (params : List (List ℕ)) (loc : ℕ) (n : d.TypeName) (first many count : ℕ) (s₀ s : State) (tvars : List ℕ) (i : ℕ) : Type 0 where
  pub same : Linked s₀ s
  pub walked : Walked (KnownTo s₀ params) (tparam_by loc n (args_at (tables s₀) (places first many)) params) just_list (range 0 count) count s₀.words.now s₀.used s.words.now s.used tvars i
  pub placed : Placed s₀.words.now s₀.used first many
  pub fewer : count ≤ many
  pub counted : (ds : List Struct) → Declares s₀.words.now s₀.used ds → count ≡ min many (length (tparam_constraints (held s₀ ds) n))

pub made_start : {params : List (List ℕ)} {loc : ℕ} {n : d.TypeName} {first many count m : ℕ} {s₀ : State} {tvars : List ℕ} → Placed s₀.words.now s₀.used first many
    → ((ds : List Struct) → Declares s₀.words.now s₀.used ds → m ≡ length (tparam_constraints (held s₀ ds) n)) → count ≡ min many m → length tvars ≡ 8 → Making params loc n first many count s₀ s₀ tvars 0
made_start {count = count} {s₀ = s₀} pl m_is count_is e =
    record {
      same = linked_now _;
      walked = walk_start s₀.lay (range_length 0 count) (omega (arith, pl.few)) e;
      placed = pl;
      fewer = omega arith;
      counted = λ ds k. omega (arith, m_is ds k);
    }

module _ {params : List (List ℕ)} {loc : ℕ} {n : d.TypeName} {first many count : ℕ} {s₀ s : State} {tvars : List ℕ} {i : ℕ} (g : Making params loc n first many count s₀ s tvars i) where
  abbrev tys : List ℕ
  tys = args_at (tables s₀) (places first many)

  all_made : (ds : List Struct) → KnownTo s₀ params ds → rest (tparam_by loc n tys params) just_list [] (range 0 count) (held s₀ ds) ≡ made loc n tys (held s₀ ds)
  unfolding made
  all_made ds k =
      tparams_are loc n tys (tparam_constraints (held s₀ ds) n) params count (held s₀ ds)
      (omega (arith, g.counted ds k.rows, placed_length s₀.words.now s₀.used first many g.placed)) (ability_is s₀.words.now s₀.used params ds k n)

  module _ (lt : i < count) {ty : ℕ} (ty_is : (ds : List Struct) (n : ℕ) → i < n → ty ≡ get_or (args_at (held s ds) (places first n)) i 0) {ab : AbilitySet} (ab_is : Numbered n → ab.0 ≡ ability_at params n i) {t : State} where
    made_step : {a : core.Result ℕ Stop} → Did s t a (λ x. make_tparam x loc n ty ab.0) → DidFor (KnownTo s₀ params) s t a (λ x. tparam_by loc n tys params x i)
    unfolding tparam_by
    made_step step =
        did_is
        (λ ds k. ap (λ (t : ℕ). make_tparam (held s ds) loc n t ab.0) (arg_kept s₀.words.now s₀.used first many g.placed s.words.now s.used g.walked.changed.grown ty i (omega (arith, g.fewer)) ty_is)
        ∙ ap (λ (c : ℕ). make_tparam (held s ds) loc n (get_or tys i 0) c) (ab_is (is_numbered s₀.words.now s₀.used params ds k s₀.lay.structs n i (omega (arith, g.counted ds k.rows)))))
        (did_any step)

    pub made_err : {e : Stop} {r : core.Result Types Stop} → Did s t (Err e) (λ x. make_tparam x loc n ty ab.0) → r ≡ Err e → Made (KnownTo s₀ params) s₀ t r (made loc n tys)
    made_err step q = listed_is all_made (list_err g.same g.walked lt (range_at count i lt) (made_step step) q)

    pub made_more : {p at : ℕ} → Did s t (Ok p) (λ x. make_tparam x loc n ty ab.0) → at ≡ i → Making params loc n first many count s₀ t (set tvars at p) (i + 1)
    made_more step e =
        record { same = linked step.changed.same g.same; walked = walk_more g.walked lt (range_at count i lt) (to_when (made_step step)) refl refl e; placed = g.placed; fewer = g.fewer; counted = g.counted }

  pub made_end : count ≤ i → Made (KnownTo s₀ params) s₀ s (Ok (record { tys = tvars; many = count })) (made loc n tys)
  made_end no_more = listed_is all_made (list_ok g.same g.walked (record { tys = tvars; many = count }) refl refl no_more)
