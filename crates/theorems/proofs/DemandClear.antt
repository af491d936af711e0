-- That no variable reaches itself can be tested, and a job for which demand 3's hypotheses hold. Assumes nothing.
use mathlib.Core.Path.{◌≡◌, refl}
use mathlib.Core.Bool.{Bool, true, false, not}
use mathlib.Core.List.{List, [], ◌∷◌}
use Rattle.std.specs.Prelude.{Option, None, Some}
use Prim.Native.Nat.{ℕ, zero, suc, ◌≤◌, ◌<◌}
use native.Mathlib.Omega.{arith}
use lib.ListN.{length}
use Rattle.definition.specs.Types.{TypeName, unbound, State, fresh}
use Rattle.definition.specs.Store.{taken, get, all_of}
use Rattle.definition.specs.Subst.{reaches_itself}
use Rattle.definition.specs.Write.{Bytes}
use Rattle.definition.specs.Trees.{arity}
use Rattle.definition.specs.Sound.{sound}
use Rattle.definition.specs.Rank.{NoneReachesItself}
use Rattle.definition.specs.Demand.{events, trace, point, at, NoLoops, Demand3, if_reached, two_types_calls, default_num_var_calls, default_num_vars_calls, run_calls, Event, pair_events, nothing_done, many_events, events_by, lent_events, one_event}
use Rattle.theorems.proofs.Laws.{get_beyond}
use Rattle.theorems.proofs.DemandTracks.{never}
use Rattle.theorems.proofs.DemandOrder.{Sound}
use Rattle.theorems.proofs.SoundFacts.{unnot, elim_l, elim_r, of_each, facts}
use Rattle.theorems.proofs.TotalReading.{reaches_is_runs}
use Rattle.theorems.proofs.DemandEveryDepth.{Somehow, Chain, next, chained}
use Rattle.theorems.proofs.Demand.{demand_3}
use Rattle.definition.proofs.Computed.{answered}
use Rattle.definition.proofs.Spelling.{bool, u8, vector, var, FV, NV, JN, SV}
use Rattle.definition.proofs.AnswersKeep.{KP}
use Rattle.definition.proofs.AnswersMany.{worked}

-- ---- the test

unfoldable pub clear_binding : State → Option ℕ → Bool
clear_binding s None = true
clear_binding s (Some t) = not (reaches_itself s t)

-- no binding reaches a variable that reaches itself
unfoldable pub clear : State → Bool
clear s = all_of (λ c. clear_binding s c.binding) s.vars

pub clear_none : {ar : TypeName → ℕ} {s : State} → Sound ar s → clear s ≡ true → NoneReachesItself s
unfolding clear get clear_binding
clear_none {s = s} h e v t = never (let a = unclear in let b = (reaches_is_runs h T (h.bind_in v T t.bound)).1 (record { variable = v; meets = t.again; itself = t }) in cc)
  where
    T : ℕ
    T = t.binding

    v_in : v < taken s
    v_in = elim (native.Mathlib.Decide.dec_lt v (taken s)) [ yes l ↦ l | no l ↦ never (let g = get_beyond s v (omega arith) in let b = t.bound in cc) ]

    unclear : reaches_itself s T ≡ false
    unclear = let c : clear_binding s (get s v) ≡ true = of_each (λ c. clear_binding s c.binding) unbound s.vars e v v_in in unnot (reaches_itself s T) (rw t.bound at c)

-- at the start, and after each record or pair
unfoldable pub clear_along : State → List Event → Bool
clear_along s [] = clear s
clear_along s (e ∷ es) = elim (clear s) [ true ↦ clear_along e.state es | false ↦ false ]

unfoldable pub clear_from : State → List (Bytes × ℕ) → Bool
clear_from s records = clear_along s (trace s records)

clear_at : (s : State) (es : List Event) → Chain ⊥ s es → Somehow s → clear_along s es ≡ true → (i : ℕ) → i ≤ length es → NoneReachesItself (point s es i)
unfolding clear_along point
clear_at s [] c h e zero l = clear_none h.facts_of e
clear_at s [] c h e (suc i) l = absurd (omega arith)
clear_at s (x ∷ es) c h e zero l = clear_none h.facts_of (elim_l (clear s) (clear_along x.state es) e)
clear_at s (x ∷ es) (next f c) h e (suc i) l = clear_at x.state es c (f.stepped.still h) (elim_r (clear s) (clear_along x.state es) e) i (omega arith)

pub no_loops : (s : State) (records : List (Bytes × ℕ)) → sound s ≡ true → clear_from s records ≡ true → NoLoops s records
unfolding NoLoops at clear_from
no_loops s records h e i l = clear_at s (trace s records) (chained s records) (record { ar = arity s; facts_of = facts s h }) e i l

-- ---- a job: a numeric variable V0, and V1 joined to it; an error; too short an answer buffer; V3, taken by the error, bound to vector<V0>; SV, which makes V0 a u64

abbrev pub job : List (Bytes × ℕ)
job = (NV 1, 4096) ∷ (FV 2, 4096) ∷ (JN (var 3 1) (var 4 0), 4096) ∷ (JN (var 5 0) (bool 6), 4096) ∷ (SV, 4095) ∷ (JN (var 8 3) (vector 9 (var 10 0)), 4096) ∷ (SV, 4096) ∷ []

job_clear : clear_from fresh job ≡ true
unfolding answered two_types_calls if_reached run_calls default_num_var_calls default_num_vars_calls pair_events nothing_done many_events one_event events_by lent_events events trace clear_from clear_along clear clear_binding
job_clear = refl

-- .. and of pairs: V0 with u8, a subtype error, and V0 with u8 again
abbrev pub pairs_job : List (Bytes × ℕ)
pairs_job = (FV 1, 4096) ∷ (worked, 61485) ∷ (worked, 61484) ∷ []

pairs_job_clear : clear_from fresh pairs_job ≡ true
unfolding answered two_types_calls if_reached run_calls default_num_var_calls default_num_vars_calls pair_events nothing_done many_events one_event events_by lent_events events trace clear_from clear_along clear clear_binding
pairs_job_clear = refl

pub pairs_job_demand_3 : Demand3 fresh pairs_job
unfolding answered
pairs_job_demand_3 = demand_3 fresh pairs_job refl (no_loops fresh pairs_job refl pairs_job_clear)

pub job_demand_3 : Demand3 fresh job
unfolding answered
job_demand_3 = demand_3 fresh job refl (no_loops fresh job refl job_clear)

-- .. and over KP: V1, a vector of V2, stays as V0, and V2 as V1, which is then u8; V0 and V3 go
abbrev pub keep_job : List (Bytes × ℕ)
keep_job = (FV 1, 4096) ∷ (FV 2, 4096) ∷ (FV 3, 4096) ∷ (JN (var 4 1) (vector 5 (var 6 2)), 4096) ∷ (FV 7, 4096) ∷ (KP (1 ∷ []), 4096) ∷ (JN (var 8 1) (u8 9), 4096) ∷ (FV 10, 4096) ∷ []

keep_job_clear : clear_from fresh keep_job ≡ true
unfolding answered two_types_calls if_reached run_calls default_num_var_calls default_num_vars_calls pair_events nothing_done many_events one_event events_by lent_events events trace clear_from clear_along clear clear_binding
keep_job_clear = refl

pub keep_job_demand_3 : Demand3 fresh keep_job
unfolding answered
keep_job_demand_3 = demand_3 fresh keep_job refl (no_loops fresh keep_job refl keep_job_clear)
