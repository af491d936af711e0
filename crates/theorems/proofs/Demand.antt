-- Demand 3, of every list of records: what is known only grows, and each join's result ranks at or above both its types. Assumes nothing.
-- First whole readings: where none reaches itself, what ranks at a depth that is enough ranks whole. Then each join (CallsFair), and any two points of the list (EveryDepth).
use mathlib.Core.Path.{◌≡◌, refl}
use mathlib.Core.Bool.{true}
use mathlib.Core.List.{List, Memᴰ}
use Prim.Native.Nat.{ℕ, ◌≤◌, ◌<◌}
use native.Mathlib.Omega.{arith}
use lib.ListN.{length}
use Rattle.std.specs.Prelude.{Option}
use Rattle.definition.specs.Types.{TypeName, TypeValue, Var, State, Result, ok, err, refused}
use Rattle.definition.specs.Store.{count, taken, type_at}
use Rattle.definition.specs.Write.{Bytes}
use Rattle.definition.specs.Trees.{arity}
use Rattle.definition.specs.Sound.{sound}
use Rattle.definition.specs.Rank.{any, Rank, NoneReachesItself, RunsIntoItself}
use Rattle.definition.specs.Demand.{JoinCall, outcome, OnSuccess, Event, trace, point, at, AtOrBelow, NoneSinks, ResultAboveOperands, NoLoops, Demand3, NeedsGrow, NoneSinksBy, NeedsGrowBy, stays, from_to}
use Rattle.theorems.proofs.DemandDepth.{unrolled, EndsWithin}
use Rattle.theorems.proofs.DemandTracks.{Tracks}
use Rattle.theorems.proofs.DemandOrder.{Sound}
use Rattle.theorems.proofs.LawsPost.{p_ok}
use Rattle.theorems.proofs.DemandReading.{tracks_rank}
use Rattle.theorems.proofs.DemandLoops.{deep_enough}
use Rattle.theorems.proofs.TotalReading.{ends_below, In, var_is_in, type_is_in, ends_read, type_ends, var_ends}
use Rattle.theorems.proofs.SoundFacts.{facts}
use Rattle.theorems.proofs.DemandFair.{Fair}
use Rattle.theorems.proofs.DemandEveryDepth.{RisesBy, Up, up_above, Somehow, Gave, gave, between, chained, calls_fair}

-- ---- whole readings

no_runs : {s : State} {t : TypeValue} → NoneReachesItself s → ¬ RunsIntoItself s t
no_runs n l = n l.variable l.itself

-- shapes that rank at one depth, where the upper's reading ends
at_or_below : {ar ar' : TypeName → ℕ} {s s' : State} → Sound ar s → Sound ar' s' → (t t' : TypeValue) → In s t → In s' t' → (n : ℕ) → Rank (unrolled any n s t) (unrolled any n s' t') → EndsWithin s' n t' → AtOrBelow s t s' t'
at_or_below {s = s} {s' = s'} h h' t t' i i' n r w = record {
  lower = unrolled any n s t;
  upper = unrolled any n s' t';
  reads_lower = ends_read h any n t i (ends_below any s s' n t t' r w);
  reads_upper = ends_read h' any n t' i' w;
  ranks = r;
}

none_sinks : (go : ℕ → Option ℕ) (s s' : State) → Somehow s → Somehow s' → Up go s s' → NoneReachesItself s' → NoneSinksBy go s s'
unfolding NoneSinksBy RisesBy
none_sinks go s s' h h' u n v v' i e =
    let i' : v' < taken s' = u.lands v v' i e in
    at_or_below h.facts_of h'.facts_of (Var v) (Var v') (var_is_in i) (var_is_in i') (deep_enough s') (u.rises v v' i e any (deep_enough s')) (var_ends h'.facts_of v' i' (no_runs n))

type_below : {ar : TypeName → ℕ} {s : State} → Sound ar s → NoneReachesItself s → (x t : ℕ) → x < count s → t < count s → Tracks s x t → AtOrBelow s (type_at s x) s (type_at s t)
type_below {s = s} h n x t i j r = at_or_below h h (type_at s x) (type_at s t) (type_is_in h i) (type_is_in h j) (count s) (tracks_rank h any (count s) x t i j r) (type_ends h t j (no_runs n))

abbrev Above : JoinCall → State → ℕ → Type 0
Above a s t = ResultAboveOperands a s t × NoneSinks a.before s × NeedsGrow a.before s

above_by : {E : Type 0} (a : JoinCall) (h : Fair E a) (m : Result (State × ℕ)) → Gave a h m → ((s : State) (t : ℕ) → m ≡ ok (s, t) → NoneReachesItself s) → OnSuccess m (λ s t. Above a s t)
unfolding OnSuccess NoneSinks
above_by a h (ok (s, t)) (p_ok g j) n = (
  record {
    above_lhs = type_below j.sound (n s t refl) a.lhs t (omega (arith, h.l_in, j.above.more_nodes)) j.t_in j.left;
    above_rhs = type_below j.sound (n s t refl) a.rhs t (omega (arith, h.r_in, j.above.more_nodes)) j.t_in j.right;
  },
  none_sinks stays a.before s (record { ar = h.ar; facts_of = h.from }) (record { ar = h.ar; facts_of = j.sound }) (up_above h.from j.sound j.above) (n s t refl),
  (up_above h.from j.sound j.above).needs,
)
above_by a h (err s e) p n = tt
above_by a h (refused x) p n = tt

above : {E : Type 0} → E → (a : JoinCall) → Fair E a → OnSuccess (outcome a) (λ s t. Above a s t)
above e a h = above_by a h _ (gave a h) (h.clear e)

-- ---- demand 3

module _ (s : State) (records : List (Bytes × ℕ)) (safe : sound s ≡ true) (none : NoLoops s records) where
  sound_at : (i : ℕ) → Somehow (at s records i)
  unfolding at point
  sound_at i = (between s records 0 i (omega arith)).still (record { ar = arity s; facts_of = facts s safe })

  none_at : (i : ℕ) → i ≤ length (trace s records) → NoneReachesItself (at s records i)
  unfolding NoLoops
  none_at i h = none i h

  calls_above : (e : Event) → Memᴰ e (trace s records) → (a : JoinCall) → Memᴰ a e.calls → OnSuccess (outcome a) (λ s t. Above a s t)
  unfolding at
  calls_above e i a m = above tt a (calls_fair {E = Unit {0}} s (trace s records) (chained s records) (λ d k l. none_at k l) e i a m)

  points_rise : (i j : ℕ) → i ≤ j → j ≤ length (trace s records) → NoneSinksBy (from_to s records i j) (at s records i) (at s records j)
  points_rise i j h l = none_sinks (from_to s records i j) (at s records i) (at s records j) (sound_at i) (sound_at j) (between s records i j h).up (none_at j l)

-- R-7: marks stay, and needs only grow, from each point to each later one, and across each join that succeeds; whether or not a variable reaches itself
pub needs_grow : (s : State) (records : List (Bytes × ℕ)) (i j : ℕ) → i ≤ j → NeedsGrowBy (from_to s records i j) (at s records i) (at s records j)
needs_grow s records i j h = (between s records i j h).up.needs

grown_by : {E : Type 0} (a : JoinCall) (h : Fair E a) (m : Result (State × ℕ)) → Gave a h m → OnSuccess m (λ s t. NeedsGrow a.before s)
unfolding OnSuccess
grown_by a h (ok (s, t)) (p_ok g j) = (up_above h.from j.sound j.above).needs
grown_by a h (err s e) p = tt
grown_by a h (refused x) p = tt

pub needs_grow_in_joins : (s : State) (records : List (Bytes × ℕ)) (e : Event) → Memᴰ e (trace s records) → (call : JoinCall) → Memᴰ call e.calls → OnSuccess (outcome call) (λ s t. NeedsGrow call.before s)
needs_grow_in_joins s records e i a m = let f = calls_fair {E = ⊥} s (trace s records) (chained s records) (λ d. absurd d) e i a m in grown_by a f _ (gave a f)

-- demand 3: any list of records, from any sound state, where no variable reaches itself at the start or after any event
pub demand_3 : (s : State) (records : List (Bytes × ℕ)) → sound s ≡ true → NoLoops s records → Demand3 s records
demand_3 s records safe none = record {
  points = λ i j h l. points_rise s records safe none i j h l;
  joins = λ e i a m. calls_above s records safe none e i a m;
  needs = λ i j h l. needs_grow s records i j h;
}
