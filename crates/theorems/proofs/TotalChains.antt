-- A chain that ends at all has fewer steps than there are variables, whatever the state: chains stay among the variables, and none comes back. Assumes nothing.
-- With a mark for each variable before it.
use mathlib.Core.Path.{◌≡◌, refl, sym, ap, ◌∙◌, subst}
use mathlib.Core.Bool.{Bool, true, false}
use mathlib.Core.List.{List}
use Rattle.std.specs.Prelude.{Option, None, Some}
use Prim.Native.Nat.{ℕ, zero, suc, ◌<◌}
use native.Mathlib.Omega.{arith}
use native.Mathlib.Decide.{ℕ_discrete}
use lib.ListN.{get_or, set, replicate, get_or-replicate}
use lib.Seq.{get_or-set_other}
use Rattle.definition.specs.Types.{State}
use Rattle.definition.specs.Store.{taken}
use Rattle.definition.specs.Subst.{next_of}
use Rattle.theorems.proofs.DemandTracks.{never}
use Rattle.theorems.proofs.LawsChains.{Within, w_here, w_hop, within_more}
use Rattle.theorems.proofs.TotalFinite.{closed, mark_one as one_marked}

-- w comes after v in v's chain
data After (S : State) : ℕ → ℕ → Type 0 where
  next : {v w : ℕ} → next_of S v ≡ Some w → After S v w
  later : {v u w : ℕ} → next_of S v ≡ Some u → After S u w → After S v w

after_next : {S : State} {v w u : ℕ} → After S v w → next_of S w ≡ Some u → After S v u
after_next (next e) d = later e (next d)
after_next (later e a) d = later e (after_next a d)

-- a chain that ends does not come back
no_return : {S : State} {n v : ℕ} → Within S n v → After S v v → ⊥
no_return (w_here h) (next e) = never (cc)
no_return (w_here h) (later e a) = never (cc)
no_return {v = v} (w_hop {w = w} h d) (next e) = let c : w ≡ v = cc in no_return d (rw c (next {w = v} e))
no_return {S} {v = v} (w_hop {w = w} h d) (later {u = u} e a) = let c : u ≡ w = cc in no_return d (after_next (subst (λ (x : ℕ). After S x v) c a) h)

all_open : (n : ℕ) → closed (replicate n false) ≡ n
unfolding closed
all_open zero = refl
all_open (suc n) = ap suc (all_open n)

module _ (S : State) (most : ℕ) (ends : (v : ℕ) → v < taken S → Within S most v) (range : (v w : ℕ) → next_of S v ≡ Some w → w < taken S) where
  all_marked : (ms : List Bool) (v : ℕ) → closed ms ≡ 0 → (b : Bool) → get_or ms v true ≡ b → get_or ms v true ≡ true
  all_marked ms v c true e = e
  all_marked ms v c false e = absurd (omega (arith, one_marked ms v e))

  -- no variable twice
  abbrev Before : List Bool → ℕ → Type 0
  Before ms v = (m : ℕ) → m < taken S → get_or ms m true ≡ true → After S m v

  one_step : (n : ℕ) (ms : List Bool) → closed ms ≡ suc n → (v : ℕ) → v < taken S → Before ms v
      → ((w : ℕ) → next_of S v ≡ Some w → w < taken S → closed (set ms v true) ≡ n → Before (set ms v true) w → Within S n v) → Within S n v
  one_step n ms cm v h back f = go (get_or ms v true) refl (next_of S v) refl
    where
      go : (b : Bool) → get_or ms v true ≡ b → (o : Option ℕ) → next_of S v ≡ o → Within S n v
      go true e o d = absurd (no_return (ends v h) (back v h e))
      go false e None d = w_here d
      go false e (Some w) d = f w d (range v w d) (omega (arith, one_marked ms v e)) (λ m i y. elim (ℕ_discrete m v) [
        | yes c ↦ subst (λ (x : ℕ). After S x w) (sym c) (next d)
        | no c ↦ after_next (back m i (sym (get_or-set_other ms v m true true c) ∙ y)) d
      ])

  short : (n : ℕ) (ms : List Bool) → closed ms ≡ suc n → (v : ℕ) → v < taken S → Before ms v → Within S n v
  short zero ms cm v h back = one_step zero ms cm v h back (λ w d i k b. absurd (no_return (ends w i) (b w i (all_marked (set ms v true) w k (get_or (set ms v true) w true) refl))))
  short (suc n) ms cm v h back = one_step (suc n) ms cm v h back (λ w d i k b. w_hop d (short n (set ms v true) k w i b))

  pub chains_short : (n : ℕ) → taken S ≡ suc n → (v : ℕ) → v < taken S → Within S n v
  chains_short n e v h = short n (replicate (taken S) false) (all_open (taken S) ∙ e) v h (λ m i y. never (let z = get_or-replicate (taken S) m false true i in cc))

  pub chains_few : (v : ℕ) → v < taken S → Within S (taken S) v
  chains_few v h = go (taken S) refl
    where
      go : (m : ℕ) → taken S ≡ m → Within S (taken S) v
      go zero e = absurd (omega arith)
      go (suc n) e = within_more (chains_short n e v h) (taken S) (omega arith)
