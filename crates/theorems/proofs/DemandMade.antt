-- The joins that demand 3 speaks of are those that the runs of JN, SU, JL, MJ and SV make. Assumes nothing.
-- By the definitions of the runs: JN, SU and JL make one join, MJ one for each pair in turn, SV one or none for each numeric variable in turn. Each is followed by cases of its results.
use mathlib.Core.Path.{◌≡◌, refl}
use mathlib.Core.Bool.{Bool, true, false}
use mathlib.Core.List.{List, [], ◌∷◌, ◌++◌}
use Prim.Native.Nat.{ℕ}
use Rattle.definition.specs.Types.{Var, State, max_depth, TypingError, Refusal, Result, ok, err, refused, ◌>>=◌}
use Rattle.definition.specs.Store.{sp}
use Rattle.definition.specs.Join.{TypingCase, Join, Subtype, join_impl, join, subtype}
use Rattle.definition.specs.Constraints.{num_vars, undecided, default_num_var, default_num_vars, solve_all, solve_constraints, default_of}
use Rattle.definition.specs.Write.{Bytes, write}
use Rattle.definition.specs.Record.{JN, SU, SV, MJ, JL}
use Rattle.definition.specs.Trees.{Tree}
use Rattle.definition.specs.Build.{build, build_many}
use Rattle.definition.specs.Step.{Answer, answer, two_types, pair_answer, pair_bytes, run_pairs, run, apart}
use Rattle.definition.specs.Demand.{JoinCall, outcome, if_reached, two_types_calls, default_num_var_calls, default_num_vars_calls, run_calls, Event, pair_events, many_events, events_by, stays}
use Rattle.theorems.proofs.DemandRecords.{NoErr, no_sp, no_place}

-- ---- JN, SU and JL: one join, whose result is written; or no room for the types

pub data OneJoin : Result (State × Bytes) → List JoinCall → Type 0 where
  not_placed : {x : Refusal} → OneJoin (refused x) []
  joined : (a : JoinCall) → OneJoin (outcome a >>= λ (x : State × ℕ). ok (x.0, write x.0 x.1)) (a ∷ [])

two_types_made : (c : TypingCase) (S : State) (t1 t2 : Tree) → OneJoin (two_types (λ s l r. join_impl max_depth s c l r) S t1 t2) (two_types_calls c S t1 t2)
unfolding two_types two_types_calls if_reached ◌>>=◌
two_types_made c S t1 t2 = first (build t1 S) (no_place t1 S)
  where
    second : (l : ℕ) (m : Result (State × ℕ)) → NoErr m → OneJoin (m >>= λ (y : State × ℕ). join_impl max_depth y.0 c l y.1 >>= λ (x : State × ℕ). ok (x.0, write x.0 x.1))
        (if_reached (m >>= λ (y : State × ℕ). ok (record { before = y.0; case = c; lhs = l; rhs = y.1 } ∷ [])))
    second l (ok (s, r)) e = joined (record { before = s; case = c; lhs = l; rhs = r })
    second l (err s x) e = elim e [ ]
    second l (refused x) e = not_placed

    first : (m : Result (State × ℕ)) → NoErr m → OneJoin (m >>= λ (z : State × ℕ). build t2 z.0 >>= λ (y : State × ℕ). join_impl max_depth y.0 c z.1 y.1 >>= λ (x : State × ℕ). ok (x.0, write x.0 x.1))
        (if_reached (m >>= λ (z : State × ℕ). build t2 z.0 >>= λ (y : State × ℕ). ok (record { before = y.0; case = c; lhs = z.1; rhs = y.1 } ∷ [])))
    first (ok (s, l)) e = second l (build t2 s) (no_place t2 s)
    first (err s x) e = elim e [ ]
    first (refused x) e = not_placed

pub JN_calls : (s : State) (t1 t2 : Tree) → OneJoin (run s (JN t1 t2)) (run_calls s (JN t1 t2))
unfolding run run_calls join
JN_calls s t1 t2 = two_types_made Join s t1 t2

pub SU_calls : (s : State) (t1 t2 : Tree) → OneJoin (run s (SU t1 t2)) (run_calls s (SU t1 t2))
unfolding run run_calls subtype
SU_calls s t1 t2 = two_types_made Subtype s t1 t2

pub JL_calls : (s : State) (t1 t2 : Tree) → OneJoin (run s (JL t1 t2)) (run_calls s (JL t1 t2))
unfolding run run_calls join
JL_calls s t1 t2 = two_types_made Join s t1 t2

-- ---- MJ: one join for each pair, in the state that the pair before it left

-- the answer to a pair whose join is a
abbrev pub answered : JoinCall → Answer
answered a = answer a.before (outcome a >>= λ (x : State × ℕ). ok (x.0, write x.0 x.1))

pub data PairsMade : State → State × Bytes → List Event → Type 0 where
  none_left : {S : State} → PairsMade S (S, []) []
  one_made : {S S' : State} {bytes : Bytes} {es : List Event} (a : JoinCall) → a.before ≡ S → PairsMade (answered a).state (S', bytes) es
      → PairsMade S (S', pair_bytes (answered a) ++ bytes) (record { state = (answered a).state; calls = a ∷ []; moves = stays } ∷ es)

pairs_made : (ps : List (TypingCase × ℕ × ℕ)) (S : State) → PairsMade S (run_pairs S ps) (pair_events S ps)
unfolding run_pairs pair_events pair_answer
pairs_made [] S = none_left
pairs_made ((c, l, r) ∷ ps) S = one_made (record { before = S; case = c; lhs = l; rhs = r }) refl (pairs_made ps (pair_answer S (c, l, r)).state)

-- an MJ that is placed: its run's state and payload are those of its pairs, and its events are theirs
pub MJ_calls : (s : State) (ps : List (TypingCase × Tree × Tree)) (s' : State) (qs : List (TypingCase × ℕ × ℕ)) → build_many ps s ≡ ok (s', qs)
    → PairsMade s' (run_pairs s' qs) (pair_events s' qs) × (run s (MJ ps) ≡ ok (run_pairs s' qs)) × (events_by s (MJ ps) (apart (MJ ps)) ≡ pair_events s' qs)
unfolding run events_by apart many_events ◌>>=◌
MJ_calls s ps s' qs e = (pairs_made qs s', rw e refl, rw e refl)

-- ---- SV: for each numeric variable in turn one join whose state is kept, or none

pub data Default : State → Result State → List JoinCall → Type 0 where
  decided : {S : State} → Default S (ok S) []
  no_room : {S : State} {x : Refusal} → Default S (refused x) []
  defaulted : {S : State} (a : JoinCall) → Default S (outcome a >>= λ (x : State × ℕ). ok x.0) (a ∷ [])

pub num_made : (S : State) (v loc : ℕ) → Default S (default_num_var S v loc) (default_num_var_calls S v loc)
unfolding default_num_var default_num_var_calls if_reached join ◌>>=◌
num_made S v loc = go (undecided _)
  where
    second : (l : ℕ) (m : Result (State × ℕ)) → NoErr m → Default S (m >>= λ (y : State × ℕ). join y.0 l y.1 >>= λ (x : State × ℕ). ok x.0)
        (if_reached (m >>= λ (y : State × ℕ). ok (record { before = y.0; case = Join; lhs = l; rhs = y.1 } ∷ [])))
    second l (ok (s, r)) e = defaulted (record { before = s; case = Join; lhs = l; rhs = r })
    second l (err s x) e = elim e [ ]
    second l (refused x) e = no_room

    first : (m : Result (State × ℕ)) → NoErr m → Default S (m >>= λ (z : State × ℕ). sp z.0 loc (Var v) >>= λ (y : State × ℕ). join y.0 z.1 y.1 >>= λ (x : State × ℕ). ok x.0)
        (if_reached (m >>= λ (z : State × ℕ). sp z.0 loc (Var v) >>= λ (y : State × ℕ). ok (record { before = y.0; case = Join; lhs = z.1; rhs = y.1 } ∷ [])))
    first (ok (s, l)) e = second l (sp s loc (Var v)) (no_sp s loc (Var v))
    first (err s x) e = elim e [ ]
    first (refused x) e = no_room

    go : (b : Bool) → Default S (elim b [
      | false ↦ ok S
      | true ↦ sp S loc (default_of S v) >>= (λ (z : State × ℕ). sp z.0 loc (Var v) >>= (λ (y : State × ℕ). join y.0 z.1 y.1 >>= (λ (x : State × ℕ). ok x.0)))
    ]) (elim b [
      | false ↦ []
      | true ↦ if_reached (sp S loc (default_of S v) >>= (λ (z : State × ℕ). sp z.0 loc (Var v) >>= (λ (y : State × ℕ). ok (record { before = y.0; case = Join; lhs = z.1; rhs = y.1 } ∷ []))))
    ])
    go false = decided
    go true = first (sp S loc (default_of S v)) (no_sp S loc (default_of S v))

-- one variable after the other, each in the state that the last one left
pub data Defaults : State → Result State → List JoinCall → Type 0 where
  all_done : {S : State} → Defaults S (ok S) []
  one_more : {S S' : State} {m : Result State} {l r : List JoinCall} → Default S (ok S') l → Defaults S' m r → Defaults S m (l ++ r)
  ends_refused : {S : State} {x : Refusal} {l : List JoinCall} → Default S (refused x) l → Defaults S (refused x) (l ++ [])
  ends_wrong : {S s : State} {e : TypingError} {l : List JoinCall} → Default S (err s e) l → Defaults S (err s e) (l ++ [])

pub nums_made : (nums : List (ℕ × ℕ)) (S : State) → Defaults S (default_num_vars S nums) (default_num_vars_calls S nums)
unfolding default_num_vars default_num_vars_calls ◌>>=◌
nums_made [] S = all_done
nums_made ((v, loc) ∷ nums) S = go (default_num_var S v loc) (num_made S v loc) (λ s. nums_made nums s)
  where
    go : (m : Result State) → Default S m (default_num_var_calls S v loc) → ((s : State) → Defaults s (default_num_vars s nums) (default_num_vars_calls s nums))
        → Defaults S (m >>= λ (s : State). default_num_vars s nums) (default_num_var_calls S v loc ++ elim m [ ok s ↦ default_num_vars_calls s nums | err s e ↦ [] | refused x ↦ [] ])
    go (ok s) d h = one_more d (h s)
    go (err s e) d h = ends_wrong d
    go (refused x) d h = ends_refused d

-- SV goes on from there with the constraints, and changes no binding
pub SV_calls : (s : State) → (m : Result State) × Defaults s m (run_calls s SV) × (run s SV ≡ (m >>= λ (x : State). solve_all x))
unfolding run run_calls solve_constraints
SV_calls s = (default_num_vars s (num_vars 0 s.vars), nums_made (num_vars 0 s.vars) s, refl)
