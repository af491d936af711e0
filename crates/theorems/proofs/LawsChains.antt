-- Chains of a bounded number of steps, and the loop of forward_tvar. Assumes nothing.
use mathlib.Core.Path.{◌≡◌, refl, sym, ap, ◌∙◌, subst}
use Rattle.std.specs.Prelude.{Option, None, Some}
use Prim.Native.Nat.{ℕ, zero, suc, ◌≤◌}
use native.Mathlib.Omega.{arith}
use Rattle.definition.specs.Types.{Var, State, TypeValue, UnitType, Ref, Param, Apply, Anything, UnresolvedError}
use Rattle.definition.specs.Store.{type_at, get}
use Rattle.definition.specs.Subst.{next_of, next_in, as_var, forward}
use Rattle.theorems.proofs.DemandTracks.{Ends, here, hop, never}

-- v's chain ends within n steps
pub data Within (S : State) : ℕ → ℕ → Type 0 where
  w_here : {n v : ℕ} → next_of S v ≡ None → Within S n v
  w_hop : {n v w : ℕ} → next_of S v ≡ Some w → Within S n w → Within S (suc n) v

pub stop_within : (S : State) (n v : ℕ) → next_of S (forward n S v) ≡ None → Within S n v
unfolding forward
stop_within S zero v h = w_here h
stop_within S (suc n) v h = go (next_of S v) refl (λ w. stop_within S n w)
  where
    go : (o : Option ℕ) → next_of S v ≡ o → ((w : ℕ) → next_of S (forward n S w) ≡ None → Within S n w) → Within S (suc n) v
    go None e f = w_here e
    go (Some w) e f = w_hop e (f w (rw (e, forward) at h))

forward_hop : (S : State) (n v w : ℕ) → next_of S v ≡ Some w → forward (suc n) S v ≡ forward n S w
unfolding forward
forward_hop S n v w h = rw (h, forward) refl

forward_here : (S : State) (n v : ℕ) → next_of S v ≡ None → forward n S v ≡ v
unfolding forward
forward_here S zero v h = refl
forward_here S (suc n) v h = rw (h, forward) refl

pub within_ends : {S : State} {n v : ℕ} → Within S n v → Ends S v (forward n S v)
within_ends {S} {v = v} (w_here {n = n} h) = subst (λ (e : ℕ). Ends S v e) (sym (forward_here S n v h)) (here h)
within_ends {S} {v = v} (w_hop {n = n} {w = w} h d) = subst (λ (e : ℕ). Ends S v e) (sym (forward_hop S n v w h)) (hop h (within_ends d))

pub within_more : {S : State} {n v : ℕ} → Within S n v → (m : ℕ) → n ≤ m → Within S m v
within_more (w_here h) m l = w_here h
within_more (w_hop h d) zero l = absurd (omega arith)
within_more (w_hop h d) (suc m) l = w_hop h (within_more d m (omega arith))

pub within_same : {S S' : State} {n v : ℕ} → ((v : ℕ) → next_of S' v ≡ next_of S v) → Within S n v → Within S' n v
within_same {v = v} f (w_here h) = w_here (f v ∙ h)
within_same {v = v} f (w_hop h d) = w_hop (f v ∙ h) (within_same f d)

pub ends_same : {S S' : State} {v e : ℕ} → ((v : ℕ) → next_of S' v ≡ next_of S v) → Ends S v e → Ends S' v e
ends_same {v = v} f (here h) = here (f v ∙ h)
ends_same {v = v} f (hop h d) = hop (f v ∙ h) (ends_same f d)

pub next_agree : (S S' : State) (v : ℕ) → get S' v ≡ get S v → ((t : ℕ) → get S v ≡ Some t → type_at S' t ≡ type_at S t) → next_of S' v ≡ next_of S v
unfolding next_of next_in
next_agree S S' v g f = go (get S v) refl
  where
    go : (o : Option ℕ) → get S v ≡ o → next_in S' (get S' v) ≡ next_in S (get S v)
    go None e = rw (g, e) refl
    go (Some t) e = rw (g, e) (ap as_var (f t e))

pub as_var_is : (x : TypeValue) (w : ℕ) → as_var x ≡ Some w → x ≡ Var w
unfolding as_var
as_var_is UnitType w e = never (cc)
as_var_is (Ref m t) w e = never (cc)
as_var_is (Param id a) w e = never (cc)
as_var_is (Apply k n tys) w e = never (cc)
as_var_is (Var v) w e = ap Var (cc)
as_var_is Anything w e = never (cc)
as_var_is UnresolvedError w e = never (cc)

pub next_none : (S : State) (v : ℕ) → get S v ≡ None → next_of S v ≡ None
unfolding next_of next_in
next_none S v e = rw e refl

pub next_some : (S : State) (v t : ℕ) → get S v ≡ Some t → next_of S v ≡ as_var (type_at S t)
unfolding next_of next_in
next_some S v t e = rw e refl

pub next_var : (S : State) (v t w : ℕ) → get S v ≡ Some t → type_at S t ≡ Var w → next_of S v ≡ Some w
unfolding next_of next_in as_var
next_var S v t w e f = rw (e, f) refl
