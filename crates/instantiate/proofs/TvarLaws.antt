-- A fresh variable as a node, alone and with its two constraints, as the code makes them. Assumes nothing.
use mathlib.Core.Path.{◌≡◌, refl, ap, ◌∙◌}
use mathlib.Core.List.{List}
use Prim.Native.Nat.{ℕ, ◌<◌}
use native.Mathlib.Omega.{arith}
use Rattle.std.specs.Prelude.{Ok, Err}
use Rattle.std.specs.Prelude as core
use Rattle.definition.specs.Types as d
use Rattle.definition.specs.Types.{Struct, Result, ok, AbilityConstraint, ◌>>=◌}
use Rattle.definition.specs.Store.{loc_of, sp, next_tvar, add_constraint}
use Rattle.definition.specs.Instantiate.{make_tvar, tvar_constraint}
use Rattle.names.specs.declared.TVar.{TVar}
use Rattle.table.specs.State.{constraint_of, outcome, pushed_constraint}
use Rattle.table.specs.Did.{held, DidFor, Did, Took, Added}
use Rattle.table.specs.declared.Constraint.{Constraint}
use Rattle.table.specs.declared.state.State.{State}
use Rattle.table.specs.declared.state.Stop.{Stop}
use Rattle.table.proofs.Steps.{bind_assoc, refines_among}
use Rattle.table.proofs.Did.{became_as, became_number, did_now, did_is, did_err, did_then, err_is, in_stop, nodes_more}
use Rattle.instantiate.specs.Args.{make_tparam}

-- ---- fewer declarations

module _ {K K' : List Struct → Type 0} {s t : State} {r : core.Result ℕ Stop} {f : d.State → Result (d.State × ℕ)} where
  pub did_among : ((ds : List Struct) → K' ds → K ds) → DidFor K s t r f → DidFor K' s t r f
  did_among z a = record { changed = record { same = a.changed.same; step = refines_among z a.changed.step }; inside = a.inside }

pub did_any : {K : List Struct → Type 0} {s t : State} {r : core.Result ℕ Stop} {f : d.State → Result (d.State × ℕ)} → Did s t r f → DidFor K s t r f
did_any a = did_among (λ ds k. tt) a

-- ---- a constraint is listed, and h follows

pub constraint_then : (c : d.Constraint) (s : d.State) (h : d.State × ℕ → Result (d.State × ℕ)) → (pushed_constraint c s >>= h) ≡ (add_constraint s c >>= (λ t. h (t, 0)))
unfolding pushed_constraint ◌>>=◌
constraint_then c s h = bind_assoc (add_constraint s c) (λ t. ok (t, 0)) h

module _ {s t : State} (c : d.Constraint) (h : d.State × ℕ → Result (d.State × ℕ)) where
  -- there is no room
  pub constraint_err : {e : Stop} {r : core.Result ℕ Stop} → Added s t (Err e) (pushed_constraint c) → r ≡ Err e → Did s t r (λ x. pushed_constraint c x >>= h)
  constraint_err {e} a q = rw q record { changed = became_as (λ m. m >>= h) a.changed (λ x. err_is e x h); inside = in_stop _ e a.inside }

  pub constraint_did : {x : Unit {0}} {v : State} {r : core.Result ℕ Stop} → Added s t (Ok x) (pushed_constraint c) → Did t v r (λ z. h (z, 0)) → Did s v r (λ z. pushed_constraint c z >>= h)
  unfolding ◌>>=◌
  constraint_did a n = record { changed = became_number (λ m. m >>= h) a.changed n.changed; inside = n.inside }

-- ---- make_tvar

abbrev to_node : ℕ → d.State × ℕ → Result (d.State × ℕ)
to_node loc p = sp p.0 loc (d.Var p.1)

module _ {s t : State} (loc : ℕ) where
  pub tvar_err : {e : Stop} {r : core.Result ℕ Stop} → Took s t (Err e) (λ x. next_tvar x) → r ≡ Err e → Did s t r (λ x. make_tvar x loc)
  unfolding make_tvar
  tvar_err {e} a q = rw q record { changed = became_as (λ m. m >>= to_node loc) a.changed (λ x. err_is e x (to_node loc)); inside = in_stop _ e a.inside }

  pub tvar_node : {id : TVar} {v : State} {r : core.Result ℕ Stop} → Took s t (Ok id) (λ x. next_tvar x) → Did t v r (λ x. sp x loc (d.Var id.0)) → Did s v r (λ x. make_tvar x loc)
  unfolding make_tvar ◌>>=◌
  tvar_node a n = record { changed = became_number (λ m. m >>= to_node loc) a.changed n.changed; inside = n.inside }

-- ---- make_tparams, for one argument

-- the state, with the number t beside it
abbrev number_put : ℕ → d.State × ℕ → Result (d.State × ℕ)
number_put t r = ok (r.0, t)

-- .. with the constraints as the code lists them
tparam_is : (s : d.State) (loc : ℕ) (n : d.TypeName) (ty c l : ℕ) → l ≡ loc_of s ty
    → (make_tvar s l >>= (λ p. pushed_constraint (AbilityConstraint loc p.1 c) p.0 >>= (λ q. pushed_constraint (tvar_constraint n loc p.1) q.0 >>= number_put p.1))) ≡ make_tparam s loc n ty c
unfolding make_tparam ◌>>=◌
tparam_is s loc n ty c l e =
    ap (λ (x : ℕ). make_tvar s x >>= (λ p. pushed_constraint (AbilityConstraint loc p.1 c) p.0 >>= (λ q. pushed_constraint (tvar_constraint n loc p.1) q.0 >>= number_put p.1))) e
    ∙ ap (λ (g : d.State × ℕ → Result (d.State × ℕ)). make_tvar s (loc_of s ty) >>= g) (λ i p. listed p.0 p.1 i)
  where
    listed : (s : d.State) (t : ℕ) → (pushed_constraint (AbilityConstraint loc t c) s >>= (λ q. pushed_constraint (tvar_constraint n loc t) q.0 >>= number_put t))
        ≡ (add_constraint s (AbilityConstraint loc t c) >>= (λ s. add_constraint s (tvar_constraint n loc t) >>= (λ s. ok (s, t))))
    listed s t =
        constraint_then (AbilityConstraint loc t c) s (λ q. pushed_constraint (tvar_constraint n loc t) q.0 >>= number_put t)
        ∙ ap (λ (g : d.State → Result (d.State × ℕ)). add_constraint s (AbilityConstraint loc t c) >>= g) (λ i s'. constraint_then (tvar_constraint n loc t) s' (number_put t) i)

module _ {s : State} (loc : ℕ) (n : d.TypeName) (ty c : ℕ) {l : ℕ} (l_is : (ds : List Struct) → l ≡ loc_of (held s ds) ty) where
  by_steps : {v : State} {r : core.Result ℕ Stop} → Did s v r (λ x. make_tvar x l >>= (λ p. pushed_constraint (AbilityConstraint loc p.1 c) p.0 >>= (λ q. pushed_constraint (tvar_constraint n loc p.1) q.0 >>= number_put p.1)))
      → Did s v r (λ x. make_tparam x loc n ty c)
  by_steps x = did_is (λ ds k. tparam_is (held s ds) loc n ty c l (l_is ds)) x

  pub tparam_err : {t : State} {e : Stop} {r : core.Result ℕ Stop} → Did s t (Err e) (λ x. make_tvar x l) → r ≡ Err e → Did s t r (λ x. make_tparam x loc n ty c)
  tparam_err a q = by_steps (did_err _ a q)

  module _ {t : State} {tvar : ℕ} (made : Did s t (Ok tvar) (λ x. make_tvar x l)) {v : State} where
    pub tparam_err2 : {e : Stop} {r : core.Result ℕ Stop} → Added t v (Err e) (pushed_constraint (AbilityConstraint loc tvar c)) → r ≡ Err e → Did s v r (λ x. make_tparam x loc n ty c)
    tparam_err2 a q = by_steps (did_then _ made (constraint_err _ _ a q))

    module _ {x : Unit {0}} (first : Added t v (Ok x) (pushed_constraint (AbilityConstraint loc tvar c))) (k : Constraint) (k_is : constraint_of k ≡ tvar_constraint n loc tvar) {z : State} where
      pub tparam_err3 : {e : Stop} {r : core.Result ℕ Stop} → Added v z (Err e) (pushed_constraint (constraint_of k)) → r ≡ Err e → Did s z r (λ x. make_tparam x loc n ty c)
      tparam_err3 a q = by_steps (did_then _ made (constraint_did _ _ first (constraint_err _ (number_put tvar) (rw k_is at a) q)))

      pub tparam_made : {y : Unit {0}} → Added v z (Ok y) (pushed_constraint (constraint_of k)) → Did s z (Ok tvar) (λ x. make_tparam x loc n ty c)
      unfolding outcome
      tparam_made a =
          let below : tvar < z.used.nodes = omega (arith, made.inside, nodes_more first.changed, nodes_more a.changed) in
          by_steps (did_then _ made (constraint_did _ _ first (constraint_did _ (number_put tvar) (rw k_is at a) (did_now below (λ ds k. refl)))))
