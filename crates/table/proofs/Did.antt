-- How steps of a state follow one another: the laws of Became. Assumes nothing.
use mathlib.Core.Path.{◌≡◌, refl, ◌∙◌}
use mathlib.Core.List.{List}
use Prim.Native.Nat.{ℕ, ◌≤◌}
use native.Mathlib.Omega.{arith}
use Rattle.std.specs.Prelude.{Ok, Err, Some, None}
use Rattle.std.specs.Prelude as core
use Rattle.definition.specs.Types as d
use Rattle.definition.specs.Types.{Struct, Result, ok, ◌>>=◌}
use Rattle.table.specs.State.{Any, NodesIn, outcome, done}
use Rattle.table.proofs.Steps.{refines_now, refines_is, refines_on, refines_as, refines_number, stop_is}
use Rattle.table.specs.State.{Refines, When, Lay, Stored, one_var}
use borrow.Author.Tests.{lt-ltb, le-ltb}
use Rattle.std.specs.Prelude.{if◌then◌else◌}
use Rattle.table.proofs.Pushed.{var_stepped}
use Rattle.table.specs.declared.Used.{Used}
use Rattle.names.specs.declared.TVar.{TVar}
use Rattle.definition.specs.Store.{next_tvar}
use Rattle.table.proofs.Grown.{nodes_grow}
use Rattle.table.specs.declared.state.State.{State}
use Rattle.table.specs.declared.state.Stop.{Stop}
use Rattle.table.specs.declared.state.Stop.TheVariants.{Failed, Refused}
use Rattle.table.specs.Did.{held, number_of, StopIn, VarIn, Linked, Became, DidFor, Kept, Counts}

-- ---- states that lend the same words

pub linked_now : (s : State) → Linked s s
linked_now s = record { name = refl; saved = refl; rows = λ v p q h. (h, refl) }

-- .. as paths go on: the later step first
pub linked : {s t v : State} → Linked t v → Linked s t → Linked s v
linked {s} {t} b a =
    record {
      name = b.name ∙ a.name;
      saved = b.saved ∙ a.saved;
      rows = λ x p q h.
          let m = b.rows x p (rw a.saved q) h in
          let n = a.rows x p q m.0 in
          (n.0, m.1 ∙ n.1);
    }

-- the nodes that an error names are those of the answer
pub stop_in : (n : ℕ) (e : Stop) → NodesIn n (Err e) → StopIn n e
stop_in n (Failed e) i = i
stop_in n (Refused x) i = i

pub in_stop : (n : ℕ) (e : Stop) → StopIn n e → NodesIn n (Err e)
in_stop n (Failed e) i = i
in_stop n (Refused x) i = i

pub stop_none : (e : Stop) → done (Err e) ≡ None
stop_none (Failed e) = refl
stop_none (Refused x) = refl

-- nothing follows an error
pub err_is : (e : Stop) (s : d.State) (h : d.State × ℕ → Result (d.State × ℕ)) → outcome (Err e) s ≡ (outcome (Err e) s >>= h)
err_is e s h = stop_is (Err e) s h (stop_none e)

module _ {A : Type 0} {K : List Struct → Type 0} {s : State} where
  pub became_now : {answer f : d.State → A} → ((ds : List Struct) → K ds → answer (held s ds) ≡ f (held s ds)) → Became K s s answer f
  became_now e = record { same = linked_now s; step = refines_now s.lay e }

  module _ {t : State} {answer f : d.State → A} where
    pub nodes_more : Became K s t answer f → s.used.nodes ≤ t.used.nodes
    nodes_more a = nodes_grow _ _ _ _ a.step.grown

    pub became_is : {g : d.State → A} → ((ds : List Struct) → K ds → f (held s ds) ≡ g (held s ds)) → Became K s t answer f → Became K s t answer g
    became_is e a = record { same = a.same; step = refines_is e a.step }

    module _ {B : Type 0} {answer₂ : d.State → B} (j : A → B) (a : Became K s t answer f) where
      pub became_on : {v : State} → Became K t v answer₂ (λ x. j (answer x)) → Became K s v answer₂ (λ x. j (f x))
      became_on n = record { same = linked n.same a.same; step = refines_on j a.step n.step }

      pub became_as : ((x : d.State) → answer₂ x ≡ j (answer x)) → Became K s t answer₂ (λ x. j (f x))
      became_as e = record { same = a.same; step = refines_as j a.step e }

-- ---- after an answer that is a number: the error, or what follows

module _ {K : List Struct → Type 0} {s t : State} {f : d.State → Result (d.State × ℕ)} where
  pub became_number : {B : Type 0} {v : State} {n : ℕ} {answer₂ : d.State → B} (j : Result (d.State × ℕ) → B) → Became K s t (outcome (Ok n)) f → Became K t v answer₂ (λ x. j (ok (x, n))) → Became K s v answer₂ (λ x. j (f x))
  became_number {n = n} j a b = record { same = linked b.same a.same; step = refines_number (Ok n) {b = Some n} j a.step refl refl b.step }

-- ---- the same, where the answer is a node

module _ {K : List Struct → Type 0} {s : State} where
  pub did_now : {r : core.Result ℕ Stop} {f : d.State → Result (d.State × ℕ)} → NodesIn s.used.nodes r → ((ds : List Struct) → K ds → outcome r (held s ds) ≡ f (held s ds)) → DidFor K s s r f
  did_now i e = record { changed = became_now e; inside = i }

  module _ {t : State} {f : d.State → Result (d.State × ℕ)} where
    pub did_is : {r : core.Result ℕ Stop} {g : d.State → Result (d.State × ℕ)} → ((ds : List Struct) → K ds → f (held s ds) ≡ g (held s ds)) → DidFor K s t r f → DidFor K s t r g
    did_is e a = record { changed = became_is e a.changed; inside = a.inside }

    -- an error goes on, as `?` has it
    pub did_err : {e : Stop} {r : core.Result ℕ Stop} (h : d.State × ℕ → Result (d.State × ℕ)) → DidFor K s t (Err e) f → r ≡ Err e → DidFor K s t r (λ x. f x >>= h)
    did_err {e} h a q = rw q record { changed = became_as (λ m. m >>= h) a.changed (λ x. err_is e x h); inside = a.inside }

    pub did_then : {n : ℕ} {v : State} {r : core.Result ℕ Stop} (h : d.State × ℕ → Result (d.State × ℕ)) → DidFor K s t (Ok n) f → DidFor K t v r (λ x. h (x, n)) → DidFor K s v r (λ x. f x >>= h)
    unfolding ◌>>=◌
    did_then h a b = record { changed = became_number (λ m. m >>= h) a.changed b.changed; inside = b.inside }

-- ---- as the tables have it

pub to_when : {K : List Struct → Type 0} {s t : State} {r : core.Result ℕ Stop} {f : d.State → Result (d.State × ℕ)} → DidFor K s t r f → When K s.words.now s.used t.words.now (record { out = r; used = t.used }) f
to_when a = record { changed = a.changed.step; inside = a.inside }

pub of_when : {K : List Struct → Type 0} {s t : State} {r : core.Result ℕ Stop} {f : d.State → Result (d.State × ℕ)} → Linked s t
    → When K s.words.now s.used t.words.now (record { out = r; used = t.used }) f → DidFor K s t r f
of_when e a = record { changed = record { same = e; step = a.changed }; inside = a.inside }

-- ---- a variable is taken, or none is left

pub var_took : (w : List ℕ) (u : Used) (u' : Used) (r : core.Result TVar Stop) → Lay w u → Counts u u' r → Refines Any w u w u' (outcome (number_of r)) (λ s. next_tvar s) × VarIn u'.nodes u'.vars r
unfolding one_var
var_took w u u' (Ok v) h p = rw (p.1.1, p.1.0) (let x = rw (lt-ltb u.vars 1024 p.0) at (var_stepped w u h) in (x.0, omega arith))
var_took w u u' (Err e) h p = rw (p.1.1, p.1.0) ((rw (le-ltb u.vars 1024 p.0) at (var_stepped w u h)).0, tt)

-- ---- no row is taken

module _ {s t : State} {f : d.State → d.State} where
  pub to_stored : Kept s t f → Stored s.words.now s.used t.words.now f
  to_stored k = rw k.used at k.changed.step

  pub of_stored : Linked s t → t.used ≡ s.used → Stored s.words.now s.used t.words.now f → Kept s t f
  of_stored e q a = record { changed = record { same = e; step = rw q a }; used = q }
