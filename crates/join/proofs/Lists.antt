-- A list of nodes as an answer: where a walk ends with it, and what follows. Assumes nothing.
use mathlib.Core.Path.{◌≡◌, refl, sym, ◌∙◌}
use mathlib.Core.List.{List, []}
use Prim.Native.Nat.{ℕ, ◌<◌, ◌≤◌}
use Rattle.std.specs.Prelude.{Ok, Err}
use Rattle.std.specs.Prelude as core
use lib.ListN.{get_or, take}
use Rattle.definition.specs.Types as d
use Rattle.definition.specs.Types.{Struct, Result, ok, ◌>>=◌}
use Rattle.table.specs.State.{outcome}
use Rattle.table.specs.Did.{held, DidFor, Linked}
use Rattle.table.specs.declared.state.State.{State}
use Rattle.table.specs.declared.state.Stop.{Stop}
use Rattle.table.proofs.Steps.{bind_assoc, refines_as}
use Rattle.table.proofs.Did.{became_is, became_on, became_as, err_is, stop_in, in_stop, stop_none, to_when, linked}
use Rattle.table.proofs.Walk.{rest, just_list, Walked, walk_stops, walk_ends, walk_parts}
use Rattle.join.specs.Join.{Listed}

-- ---- what follows

-- nothing follows an error
list_err_is : (e : Stop) (s : d.State) (h : d.State × List ℕ → Result (d.State × ℕ)) → outcome (Err e) s ≡ (outcome (Err e) s >>= (λ r. ok (r.0, [])) >>= h)
unfolding ◌>>=◌
list_err_is e s h = err_is e s (λ r. h (r.0, [])) ∙ sym (bind_assoc (outcome (Err e) s) (λ r. ok (r.0, [])) h)

module _ {A : Type 0} {parts : A → List ℕ} {many : A → ℕ} {K : List Struct → Type 0} {s t : State} {f : d.State → Result (d.State × List ℕ)} where
  pub listed_is : {r : core.Result A Stop} {g : d.State → Result (d.State × List ℕ)} → ((ds : List Struct) → K ds → f (held s ds) ≡ g (held s ds)) → Listed parts many K s t r f → Listed parts many K s t r g
  listed_is e a = record { changed = became_is e a.changed; inside = a.inside }

  module _ (h : d.State × List ℕ → Result (d.State × ℕ)) where
    pub listed_err : {e : Stop} {r : core.Result ℕ Stop} → Listed parts many K s t (Err e) f → r ≡ Err e → DidFor K s t r (λ x. f x >>= h)
    listed_err {e} a q = rw q record { changed = became_as (λ m. m >>= h) a.changed (λ x. list_err_is e x h); inside = in_stop _ e a.inside }

    pub listed_then : {x : A} {v : State} {r : core.Result ℕ Stop} → Listed parts many K s t (Ok x) f → DidFor K t v r (λ z. h (z, take (many x) (parts x))) → DidFor K s v r (λ z. f z >>= h)
    unfolding ◌>>=◌
    listed_then a n = record { changed = became_on (λ m. m >>= h) a.changed n.changed; inside = n.inside }

-- ---- a walk whose answer is the list

module _ {A : Type 0} {parts : A → List ℕ} {many : A → ℕ} {K : List Struct → Type 0} {f : d.State → ℕ → Result (d.State × ℕ)} {tys l : List ℕ} {n i : ℕ} {s₀ s : State}
    (same : Linked s₀ s) (wk : Walked K f just_list tys n s₀.words.now s₀.used s.words.now s.used l i) where
  pub list_err : {t : State} {e : Stop} {p : ℕ} {r : core.Result A Stop} → i < n → p ≡ get_or tys i 0 → DidFor K s t (Err e) (λ x. f x p) → r ≡ Err e → Listed parts many K s₀ t r (rest f just_list [] tys)
  list_err {e = e} lt p_is a q =
      rw q record {
        changed = record { same = linked a.changed.same same; step = walk_stops wk lt p_is (to_when a) refl (stop_none e) (λ r. ok (r.0, [])) };
        inside = stop_in _ e a.inside;
      }

  pub list_ok : (x : A) → parts x ≡ l → many x ≡ n → n ≤ i → Listed parts many K s₀ s (Ok x) (rest f just_list [] tys)
  list_ok x p q no_more =
      record { changed = record { same = same; step = refines_as (λ m. m) (walk_ends wk no_more) (λ z. rw (p, q) refl) }; inside = rw (p, q) (walk_parts wk no_more) }
