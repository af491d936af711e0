-- Demand 3 over events gives demand 3 over records: the end of each record is a point of its list, and a record's joins are those of its events. Assumes nothing.
use mathlib.Core.Path.{◌≡◌, refl, ap, ◌∙◌}
use mathlib.Core.Bool.{true}
use mathlib.Core.List.{List, [], ◌∷◌, ◌++◌, Memᴰ}
use mathlib.Core.List.Memᴰ
use mathlib.Core.Logic.{inl, inr}
use Prim.Native.Nat.{ℕ, zero, suc, ◌+◌, ◌≤◌, ◌<◌}
use native.Mathlib.Omega.{arith}
use lib.ListN.{length, get_or, take, length-append}
use Rattle.std.specs.Prelude.{Option}
use Rattle.definition.specs.Types.{State}
use Rattle.definition.specs.Write.{Bytes}
use Rattle.definition.specs.Step.{step}
use Rattle.definition.specs.Sound.{sound}
use Rattle.definition.specs.Demand.{JoinCall, outcome, OnSuccess, after, Event, events, trace, point, at, NoneSinks, NeedsGrow, ResultAboveOperands, NoLoops, Demand3, NoneSinksBy, NeedsGrowBy, from_to}
use Rattle.theorems.proofs.Demand.{demand_3}
use Rattle.theorems.proofs.DemandEveryDepth.{last_of, trace_ends, RisesBy, JoinsAtEveryDepth, Demand3AtEveryDepth, demand_3_at_every_depth}

-- how many events the first i records have: the number of the point at their end
abbrev pub so_many : State → List (Bytes × ℕ) → ℕ → ℕ
so_many s records i = length (trace s (take i records))

point_behind : (s : State) (es es' : List Event) (k n : ℕ) → n ≡ length es + k → point s (es ++ es') n ≡ point (last_of s es) es' k
unfolding point
point_behind s [] es' k n h = ap (λ (i : ℕ). point s es' i) (omega (arith, h))
point_behind s (e ∷ es) es' k zero h = absurd (omega (arith, h))
point_behind s (e ∷ es) es' k (suc n) h = point_behind e.state es es' k n (omega (arith, h))

point_start : (s : State) (es : List Event) → point s es 0 ≡ s
unfolding point
point_start s es = refl

pub at_end : (s : State) (records : List (Bytes × ℕ)) (i : ℕ) → at s records (so_many s records i) ≡ after s (take i records)
unfolding at trace after
at_end s records zero = point_start s (trace s records)
at_end s [] (suc i) = point_start s []
at_end s ((bytes, buffer) ∷ records) (suc i) =
    let es : List Event = events s bytes buffer in
    let s' : State = (step s bytes buffer).state in
    point_behind s es (trace s' records) (so_many s' records i) _ (length-append es (trace s' (take i records)))
    ∙ ap (λ (x : State). point x (trace s' records) (so_many s' records i)) (trace_ends s bytes buffer).1
    ∙ at_end s' records i

pub more_records : (s : State) (records : List (Bytes × ℕ)) (i j : ℕ) → i ≤ j → so_many s records i ≤ so_many s records j
unfolding trace
more_records s records zero j h = omega arith
more_records s records (suc i) zero h = absurd (omega arith)
more_records s [] (suc i) (suc j) h = omega arith
more_records s ((bytes, buffer) ∷ records) (suc i) (suc j) h =
    let s' : State = (step s bytes buffer).state in
    omega (arith, more_records s' records i j (omega arith), length-append (events s bytes buffer) (trace s' (take i records)), length-append (events s bytes buffer) (trace s' (take j records)))

pub within_list : (s : State) (records : List (Bytes × ℕ)) (i : ℕ) → so_many s records i ≤ length (trace s records)
unfolding trace
within_list s records zero = omega arith
within_list s [] (suc i) = omega arith
within_list s ((bytes, buffer) ∷ records) (suc i) =
    let s' : State = (step s bytes buffer).state in
    omega (arith, within_list s' records i, length-append (events s bytes buffer) (trace s' (take i records)), length-append (events s bytes buffer) (trace s' records))

-- the events of record i
abbrev pub of_record : State → List (Bytes × ℕ) → ℕ → List Event
of_record s records i = events (after s (take i records)) (get_or records i ([], 0)).0 (get_or records i ([], 0)).1

in_front : {e : Event} (es es' : List Event) → Memᴰ e es → Memᴰ e (es ++ es')
in_front [] es' m = absurd (Memᴰ.not-nil m)
in_front (x ∷ es) es' m = elim (Memᴰ.cases_cons m) [ inl i ↦ Memᴰ.head i | inr i ↦ Memᴰ.tail (in_front es es' i) ]

behind : {e : Event} (es es' : List Event) → Memᴰ e es' → Memᴰ e (es ++ es')
behind [] es' m = m
behind (x ∷ es) es' m = Memᴰ.tail (behind es es' m)

pub event_of_record : (s : State) (records : List (Bytes × ℕ)) (i : ℕ) → i < length records → (e : Event) → Memᴰ e (of_record s records i) → Memᴰ e (trace s records)
unfolding trace after
event_of_record s [] i h e m = absurd (omega arith)
event_of_record s ((bytes, buffer) ∷ records) zero h e m = in_front (events s bytes buffer) _ m
event_of_record s ((bytes, buffer) ∷ records) (suc i) h e m = behind (events s bytes buffer) _ (event_of_record (step s bytes buffer).state records i (omega arith) e m)

-- where a variable is after records i to j, if it is taken before them
abbrev pub between_records : State → List (Bytes × ℕ) → ℕ → ℕ → ℕ → Option ℕ
between_records s records i j = from_to s records (so_many s records i) (so_many s records j)

-- demand 3 said of records
pub record OfRecords (s : State) (records : List (Bytes × ℕ)) : Type 0 where
  pub points : (i j : ℕ) → i ≤ j → j ≤ length records → NoneSinksBy (between_records s records i j) (after s (take i records)) (after s (take j records))
  pub joins : (i : ℕ) → i < length records → (e : Event) → Memᴰ e (of_record s records i) → (call : JoinCall) → Memᴰ call e.calls → OnSuccess (outcome call) (λ s t. ResultAboveOperands call s t × NoneSinks call.before s × NeedsGrow call.before s)
  pub needs : (i j : ℕ) → i ≤ j → j ≤ length records → NeedsGrowBy (between_records s records i j) (after s (take i records)) (after s (take j records))

pub demand_3_of_records : (s : State) (records : List (Bytes × ℕ)) → sound s ≡ true → NoLoops s records → OfRecords s records
demand_3_of_records s records safe none = record {
  points = λ i j h l. rw (at_end s records i, at_end s records j) at (claim.points (so_many s records i) (so_many s records j) (more_records s records i j h) (within_list s records j));
  joins = λ i h e m call k. claim.joins e (event_of_record s records i h e m) call k;
  needs = λ i j h l. rw (at_end s records i, at_end s records j) at (claim.needs (so_many s records i) (so_many s records j) (more_records s records i j h) (within_list s records j));
}
  where
    claim : Demand3 s records
    claim = demand_3 s records safe none

-- the same at every depth of unrolling, with no hypothesis
pub record OfRecordsAtEveryDepth (s : State) (records : List (Bytes × ℕ)) : Type 0 where
  pub points : (i j : ℕ) → i ≤ j → RisesBy (between_records s records i j) (after s (take i records)) (after s (take j records))
  pub joins : (i : ℕ) → i < length records → (e : Event) → Memᴰ e (of_record s records i) → (call : JoinCall) → Memᴰ call e.calls → OnSuccess (outcome call) (λ s t. JoinsAtEveryDepth call s t)

pub every_depth_of_records : (s : State) (records : List (Bytes × ℕ)) → OfRecordsAtEveryDepth s records
every_depth_of_records s records = record {
  points = λ i j h. rw (at_end s records i, at_end s records j) at (claim.points (so_many s records i) (so_many s records j) (more_records s records i j h));
  joins = λ i h e m call k. claim.joins e (event_of_record s records i h e m) call k;
}
  where
    claim : Demand3AtEveryDepth s records
    claim = demand_3_at_every_depth s records
