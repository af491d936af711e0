-- The fields of the state that a run leaves, be it with a success or with a typing error, are in range, so those that are written as a byte are bytes. Assumes nothing.
use mathlib.Core.Path.{◌≡◌, refl, sym, ◌∙◌, subst}
use mathlib.Core.Bool.{Bool, true}
use mathlib.Core.List.{List}
use Prim.Native.Nat.{ℕ}
use lib.ListN.{length}
use Rattle.std.specs.Prelude.{if◌then◌else◌, Ok, Err}
use Rattle.std.specs.Prelude as core
use Rattle.definition.specs.Types.{State, Struct, Result, ok, err, refused, ◌>>=◌}
use Rattle.definition.specs.Subst.{ready_tvars}
use Rattle.definition.specs.TParams.{make_tparam_subst, subst_tparams}
use Rattle.definition.specs.Write.{Bytes}
use Rattle.definition.specs.Record.{Record, SD}
use Rattle.definition.specs.Step.{run}
use Rattle.theorems.proofs.SoundRanges.{StructIn, Ranges}
use Rattle.theorems.proofs.SoundRead.{RecordIn}
use Rattle.theorems.proofs.TotalWalk.{Ends, e_ok, e_err, e_refused, Run, ready_tvars_run, make_run, subst_run, run_walk}
use Rattle.table.specs.State.{outcome, view, seen}
use Rattle.table.specs.Did.{held, tables}
use Rattle.table.specs.declared.Used.{Used}
use Rattle.table.specs.declared.state.State.{State as Table}
use Rattle.table.specs.declared.state.Stop.{Stop}
use Rattle.table.specs.declared.state.Stop.TheVariants.{Failed, Refused}
use Rattle.writer.specs.Bytes.{AllBytes}
use Rattle.payload.specs.Payload.{shown}
use Rattle.answer.specs.Ran.{ran, Settles}
use Rattle.answer.specs.declared.Ran.{Ran}
use Rattle.payload.specs.declared.Show.{Show}
use Rattle.answer.proofs.Calls.{ranges_bytes, seen_bytes}
use Rattle.run.specs.Runs.{subst_in, declare_run, Runs, Declared}

-- ---- the state that an answer leaves

-- a call that leaves states in the ranges of b
abbrev pub Leaves : State → {A : Type 0} → Result (State × A) → Type 0
Leaves b m = Run (Unit {0}) b true m

outcome_in : (b : State) (a : core.Result ℕ Stop) (s : State) → Leaves b (outcome a s) → Settles a → Ranges b s
unfolding outcome
outcome_in b (Ok t) s (e_ok i) h = i tt
outcome_in b (Err (Failed x)) s (e_err i) h = i tt
outcome_in b (Err (Refused x)) s e h = absurd h

outcome_leaves : (b : State) (a : core.Result ℕ Stop) (s : State) → Ranges b s → Settles a → Leaves b (outcome a s)
unfolding outcome
outcome_leaves b (Ok t) s r h = e_ok (λ x. r)
outcome_leaves b (Err (Failed x)) s r h = e_err (λ x. r)
outcome_leaves b (Err (Refused x)) s r h = absurd h

-- where the state is kept, what is shown with it is of no matter
unshown : (b before : State) (show : Show) (m : Result (State × ℕ)) → Leaves b (m >>= (λ x. ok (if true then x.0 else before, shown show x.1 x.0))) → Leaves b m
unfolding ◌>>=◌
unshown b before show (ok x) (e_ok i) = e_ok i
unshown b before show (err s e) (e_err i) = e_err i
unshown b before show (refused x) (e_refused i) = e_refused i

-- ---- what a run leaves

by_run : (b : State) (r : Ran) (s before : State) → r.kept ≡ true → Leaves b (ran r s before) → Settles r.result → Ranges b s
unfolding ran
by_run b r s before e l h = outcome_in b r.result s (unshown b before r.show (outcome r.result s) (rw e at l)) h

pub in_words : (b : State) (w : List ℕ) (u : Used) (ds : List Struct) → Ranges b (seen w u ds) → AllBytes (view w u)
in_words b w u ds r = seen_bytes w u ds (ranges_bytes b (seen w u ds) r)

module _ {K : List Struct → Type 0} {s t : Table} {r : Ran} {kept : Bool} {step : State → Result (State × ℕ)} {f : State → State → Result (State × Bytes)} {tail : State → Bytes} (c : Runs K s t r kept step f tail) (ds : List Struct) (k : K ds) (b : State) where
  -- by its step
  pub step_bytes : Leaves b (step (held s ds)) → Settles r.result → AllBytes (tables t)
  step_bytes l h = in_words b t.words.now t.used ds (outcome_in b r.result _ (subst (λ (m : Result (State × ℕ)). Leaves b m) (sym (c.left.step.is ds k)) l) h)

  -- where the state is kept, by the run of its record, which is f once the types are placed
  pub record_bytes : kept ≡ true → Ranges b b → (x : Record) → RecordIn b x → run b x ≡ f (held s ds) b → Settles r.result → AllBytes (tables t)
  record_bytes e i x g q h =
      in_words b t.words.now t.used ds
      (by_run b r (held t ds) b (c.kept_is ∙ e) (subst (λ (m : Result (State × Bytes)). Leaves b m) (q ∙ sym (c.is ds k b)) (run_walk (Unit {0}) b true refl b (λ y. i) x (λ y. g))) h)

-- SD
run_SD : (s : State) (abilities : ℕ) (params : List ℕ) → run s (SD abilities params) ≡ declare_run abilities params s s
unfolding run declare_run
run_SD s abilities params = refl

pub declare_bytes : {s t : Table} {r : Ran} {abilities params : ℕ} → Declared s t r abilities params → (ds : List Struct) → length ds ≡ s.used.structs → Ranges (held s ds) (held s ds)
    → (ps : List ℕ) → StructIn (record { abilities = abilities; params = ps }) → Settles r.result → AllBytes (tables t)
declare_bytes {s} {t} {r} {abilities} c ds many i ps g h =
    let b = held s ds in
    in_words b t.words.now t.used _
    (by_run b r _ b c.kept_is (subst (λ (m : Result (State × Bytes)). Leaves b m) (run_SD b abilities ps ∙ sym (c.is ds ps many b)) (run_walk (Unit {0}) b true refl b (λ y. i) (SD abilities ps) (λ y. g))) h)

-- ---- UF, RD, CN, TS, whose state is not kept: from the state s with their types placed

pub ready_leaves : (b s : State) → Ranges b s → (t : ℕ) → Leaves b (ready_tvars s t)
ready_leaves b s i t = ready_tvars_run (Unit {0}) b true refl s (λ y. i) t

pub subst_leaves : (b s : State) → Ranges b s → (ps : List (ℕ × ℕ)) (t : ℕ) → Leaves b (subst_in ps t s)
unfolding subst_in subst_tparams ◌>>=◌
subst_leaves b s i ps t = go (make_tparam_subst ps) (make_run (Unit {0}) b true ps)
  where
    go : (m : Result (List (ℕ × ℕ))) → Ends true (λ (x : State). Unit {0} → Ranges b x) (λ pairs. Unit {0}) m → Leaves b (m >>= (λ pairs. subst_tparams pairs s t))
    go (ok pairs) e = subst_run (Unit {0}) b true refl _ pairs s (λ y. i) t
    go (err x y) (e_err j) = e_err j
    go (refused x) (e_refused j) = e_refused j

-- UF's answer leaves the state with its type placed
pub unfold_leaves : (b s : State) → Ranges b s → (a : core.Result ℕ Stop) → Settles a → Leaves b (outcome a s)
unfold_leaves b s i a h = outcome_leaves b a s i h
