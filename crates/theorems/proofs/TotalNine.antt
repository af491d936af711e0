-- RD's run has calls enough: it is turned down with 9 only by the test before it. Assumes nothing.
-- The run itself adds nodes or is refused with 7 (SpelledReady.antt). Then, of two numbers of calls, the larger gives the same (`Fuller`).
use mathlib.Core.Path.{◌≡◌, refl}
use mathlib.Core.Logic.{◌↔◌}
use mathlib.Core.Bool.{Bool, true, false}
use mathlib.Core.List.{List, [], ◌∷◌}
use Rattle.std.specs.Prelude.{Option, None, Some}
use Prim.Native.Nat.{ℕ, zero, suc, ◌*◌, ◌≤◌, ◌<◌}
use native.Mathlib.Omega.{arith}
use Rattle.definition.specs.Types.{TypeName, TypeValue, UnitType, Ref, Param, Apply, Var, Anything, UnresolvedError, State, runs_into_itself, Result, ok, err, refused, ◌>>=◌}
use Rattle.definition.specs.Store.{count, type_at, loc_of, get, sp, map_types}
use Rattle.definition.specs.Subst.{forward_tvar, reaches_itself, ready_value, ready, ready_tvars}
use Rattle.definition.specs.Trees.{arity}
use Rattle.definition.specs.Sound.{sound}
use Rattle.definition.specs.Rank.{RunsIntoItself}
use Rattle.theorems.proofs.DemandTracks.{never}
use Rattle.theorems.proofs.DemandOrder.{Sound}
use Rattle.theorems.proofs.SoundFacts.{facts}
use Rattle.theorems.specs.ReadySpelled.{Located}
use Rattle.theorems.proofs.ReadyTold.{Reads, made, no_place, reads}
use Rattle.theorems.proofs.TotalReading.{reaches_is_runs}

-- 9 just where the type runs into a variable that reaches itself
pub nine_in : {ar : TypeName → ℕ} {S : State} → Sound ar S → (t : ℕ) → t < count S → (ready_tvars S t ≡ refused runs_into_itself) ↔ RunsIntoItself S (type_at S t)
unfolding ready_tvars reaches_itself
nine_in {ar} {S} s t i = (there (reaches_itself S t) refl, λ l. back ((reaches_is_runs s t i).1 l))
  where
    other : {n p : ℕ} {P : State → ℕ → Type 0} (m : Result (State × ℕ)) → Reads ar P S n p m → m ≡ refused runs_into_itself → ⊥
    other (ok x) (made a j) e = never (cc)
    other (err s x) r e = elim r [ ]
    other (refused x) (no_place d) e = never (cc)

    there : (b : Bool) → reaches_itself S t ≡ b → ◌≡◌ {A = Result (State × ℕ)} (elim b [ true ↦ refused runs_into_itself | false ↦ ready (2 * count S) S t ]) (refused runs_into_itself) → RunsIntoItself S (type_at S t)
    there true e r = (reaches_is_runs s t i).0 e
    there false e r = absurd (other _ (reads s t i Located e (2 * count S) (omega arith)) r)

    back : reaches_itself S t ≡ true → ◌≡◌ {A = Result (State × ℕ)} (elim (reaches_itself S t) [ true ↦ refused runs_into_itself | false ↦ ready (2 * count S) S t ]) (refused runs_into_itself)
    back e = rw e refl

pub ready_nine : (S : State) → sound S ≡ true → (t : ℕ) → t < count S → (ready_tvars S t ≡ refused runs_into_itself) ↔ RunsIntoItself S (type_at S t)
ready_nine S h t i = nine_in (facts S h) t i

-- ---- more calls give the same

-- one outcome, or 9 for want of calls
data Fuller {A : Type 0} : Result A → Result A → Type 0 where
  same : {m : Result A} → Fuller m m
  short : {m : Result A} → Fuller (refused runs_into_itself) m

fuller_bind : {A B : Type 0} {m m' : Result A} (f f' : A → Result B) → Fuller m m' → ((a : A) → Fuller (f a) (f' a)) → Fuller (m >>= f) (m' >>= f')
unfolding ◌>>=◌
fuller_bind {A} f f' (same {m = m}) h = go m
  where
    go : (m : Result A) → Fuller (m >>= f) (m >>= f')
    go (ok a) = h a
    go (err s e) = same
    go (refused x) = same
fuller_bind f f' short h = short

module _ (f f' : State → ℕ → Result (State × ℕ)) (h : (s : State) (t : ℕ) → Fuller (f s t) (f' s t)) where
  map_fuller : (s : State) (ts : List ℕ) → Fuller (map_types f s ts) (map_types f' s ts)
  unfolding map_types
  map_fuller s [] = same
  map_fuller s (t ∷ ts) = fuller_bind _ _ (h s t) (λ a. fuller_bind _ _ (map_fuller a.0 ts) (λ b. same))

  value_fuller : (s : State) (t loc : ℕ) (x : TypeValue) → Fuller (ready_value f s t loc x) (ready_value f' s t loc x)
  unfolding ready_value
  value_fuller s t loc UnitType = same
  value_fuller s t loc UnresolvedError = same
  value_fuller s t loc Anything = same
  value_fuller s t loc (Param id a) = same
  value_fuller s t loc (Ref m p) = fuller_bind _ _ (h s p) (λ a. same)
  value_fuller s t loc (Apply k n ps) = fuller_bind _ _ (map_fuller s ps) (λ a. same)
  value_fuller s t loc (Var i) = go (get s (forward_tvar s i))
    where
      go : (o : Option ℕ) → Fuller {A = State × ℕ} (elim o [ None ↦ sp s loc (Var (forward_tvar s i)) | Some t ↦ f s t ]) (elim o [ None ↦ sp s loc (Var (forward_tvar s i)) | Some t ↦ f' s t ])
      go None = same
      go (Some t) = h s t

ready_fuller : (n m : ℕ) → n ≤ m → (s : State) (t : ℕ) → Fuller (ready n s t) (ready m s t)
unfolding ready
ready_fuller zero m l s t = short
ready_fuller (suc n) zero l s t = absurd (omega arith)
ready_fuller (suc n) (suc m) l s t = value_fuller (λ s t. ready n s t) (λ s t. ready m s t) (λ s t. ready_fuller n m (omega arith) s t) s t (loc_of s t) (type_at s t)

pub ready_enough : (S : State) → sound S ≡ true → (t : ℕ) → t < count S → reaches_itself S t ≡ false → (n : ℕ) → 2 * count S ≤ n → ready n S t ≡ ready (2 * count S) S t
unfolding reaches_itself
ready_enough S h t i e n l = go (ready_fuller (2 * count S) n l S t) (reads (facts S h) t i Located e (2 * count S) (omega arith))
  where
    go : {n p : ℕ} {P : State → ℕ → Type 0} {m m' : Result (State × ℕ)} → Fuller m m' → Reads (arity S) P S n p m → m' ≡ m
    go same r = refl
    go short r = elim r [ ]
