-- The run of each record from its placed types on, as the definition's `run` has it, and what a function that runs it leaves of the state. Assumes nothing: these are definitions.
use Rattle.std.specs.Prelude as core
use Rattle.std.specs.Prelude.{◌≡◌, Bool, true, List, [], length, set, Option, None, Some, Ok, Err, ◌<◌}
use Prim.Native.Nat.{ℕ}
use Rattle.definition.specs.Types as d
use Rattle.definition.specs.Types.{Struct, Result, ok, ◌>>=◌}
use Rattle.definition.specs.Store.{spanned, with_need, next_tvar, add_constraint, declare}
use Rattle.definition.specs.Subst.{links_of, set_num_var, unfold_type, ready_tvars}
use Rattle.definition.specs.Join as j
use Rattle.definition.specs.Join.{join, subtype}
use Rattle.definition.specs.Links.{join_links}
use Rattle.definition.specs.TParams.{make_tparam_subst, subst_tparams}
use Rattle.definition.specs.Instantiate.{instantiate}
use Rattle.definition.specs.Write.{Bytes, u16, u32, head, write, write_spanned}
use Rattle.definition.specs.Needs.{Needs}
use Rattle.definition.specs.Step.{tell}
use Rattle.theorems.specs.ReadySpelled.{Spelling, spelled}
use Rattle.table.specs.State.{outcome, done, more, Any, Grown, FoundIn, Declares}
use Rattle.table.specs.Did.{held, tables, StopIn, Became, Linked}
use Rattle.table.specs.declared.Used.{Used}
use Rattle.table.specs.declared.state.State.{State}
use Rattle.table.specs.declared.state.Stop.{Stop}
use Rattle.payload.specs.Payload.{tail_bytes}
use Rattle.answer.specs.Ran.{ran, Tells}
use Rattle.answer.specs.declared.Ran.{Ran}

-- ---- the rest of a record's run: s has its types placed, `before` is the state at entry

unfoldable pub join_in : j.TypingCase → d.State → ℕ → ℕ → Result (d.State × ℕ)
join_in j.Join s lhs rhs = join s lhs rhs
join_in j.Subtype s lhs rhs = subtype s lhs rhs

-- JN, SU
unfoldable pub two_run : j.TypingCase → ℕ → ℕ → d.State → d.State → Result (d.State × Bytes)
two_run case lhs rhs s before = do
  (s, t) ← join_in case s lhs rhs
  ok (s, write s t)

-- UF
unfoldable pub unfold_run : ℕ → d.State → d.State → Result (d.State × Bytes)
unfold_run t s before = ok (before, write_spanned s (unfold_type s (spanned s t)))

-- RD, CN
unfoldable pub ready_run : Spelling → ℕ → d.State → d.State → Result (d.State × Bytes)
ready_run how t s before = do
  (s, t) ← ready_tvars s t
  ok (before, spelled how s t)

unfoldable pub subst_in : List (ℕ × ℕ) → ℕ → d.State → Result (d.State × ℕ)
subst_in pairs t s = do
  subst ← make_tparam_subst pairs
  subst_tparams subst s t

-- TS
unfoldable pub tparams_run : List (ℕ × ℕ) → ℕ → d.State → d.State → Result (d.State × Bytes)
tparams_run pairs t s before = do
  subst ← make_tparam_subst pairs
  (s, t) ← subst_tparams subst s t
  ok (before, write s t)

-- IN
unfoldable pub instantiate_run : ℕ → d.State → d.State → Result (d.State × Bytes)
instantiate_run t s before = do
  (s, t) ← instantiate s t
  ok (s, write s t)

-- FV
unfoldable pub tvar_run : ℕ → d.State → d.State → Result (d.State × Bytes)
tvar_run loc s before = do
  (s, v) ← next_tvar s
  ok (s, head loc (d.Var v))

-- a new variable, that `mark` marks
unfoldable pub marked_in : (d.State → ℕ → d.State) → d.State → Result (d.State × ℕ)
marked_in mark s = do
  (s, v) ← next_tvar s
  ok (mark s v, v)

unfoldable pub marked_run : (d.State → ℕ → d.State) → ℕ → d.State → d.State → Result (d.State × Bytes)
marked_run mark loc s before = do
  (s, v) ← next_tvar s
  ok (mark s v, head loc (d.Var v))

-- NV
abbrev pub numeric : ℕ → d.State → ℕ → d.State
numeric loc s v = set_num_var s v loc

-- NL
abbrev pub needing : ℕ → ℕ → d.State → ℕ → d.State
needing loc bits s v = with_need (set_num_var s v loc) v bits

unfoldable pub set_num_in : ℕ → ℕ → d.State → Result (d.State × ℕ)
set_num_in v loc s = ok (set_num_var s v loc, 0)

-- SN
unfoldable pub set_num_run : ℕ → ℕ → d.State → d.State → Result (d.State × Bytes)
set_num_run v loc s before = ok (set_num_var s v loc, [])

-- NC, BC, SC
unfoldable pub constraint_run : d.Constraint → d.State → d.State → Result (d.State × Bytes)
constraint_run c s before = do
  s ← add_constraint s c
  ok (s, [])

-- RM
unfoldable pub needs_run : Option Needs → d.State → d.State → Result (d.State × Bytes)
needs_run n s before = tell s n

-- SD
unfoldable pub declare_run : ℕ → List ℕ → d.State → d.State → Result (d.State × Bytes)
declare_run abilities params s before = do
  (s, n) ← declare s abilities params
  ok (s, u16 n)

-- ---- what a run leaves

-- no tail
abbrev pub no_tail : d.State → Bytes
no_tail s = []

-- JL
unfoldable pub join_tail : ℕ → ℕ → d.State → Bytes
join_tail lhs rhs s = u32 (join_links s lhs rhs)

-- UL
unfoldable pub unfold_tail : ℕ → d.State → Bytes
unfold_tail t s = u32 (links_of s t)

-- the state s became t, and the answer is r: as f says, with the tail behind what is shown, and r's number and state as `step` says, for the declarations in K. On success the state is kept, or not
pub record Runs (K : List Struct → Type 0) (s t : State) (r : Ran) (kept : Bool) (step : d.State → Result (d.State × ℕ)) (f : d.State → d.State → Result (d.State × Bytes)) (tail : d.State → Bytes) : Type 0 where
  pub left : Became K s t (outcome r.result) step
  pub tells : Tells t.used r.show r.result
  pub kept_is : r.kept ≡ kept
  pub is : (ds : List Struct) → K ds → (before : d.State) → ran r (held t ds) before ≡ f (held s ds) before
  pub tail_is : (ds : List Struct) → tail_bytes r.tail ≡ tail (held s ds)

-- a variable that is taken, or no node past the last
abbrev pub TakenIn : Used → core.Result ℕ Stop → Type 0
TakenIn u (Ok v) = v < u.vars
TakenIn u (Err e) = StopIn u.nodes e

-- the answer is the number of a variable, as f says
pub record TakesVar (s t : State) (r : core.Result ℕ Stop) (f : d.State → Result (d.State × ℕ)) : Type 0 where
  pub changed : Became Any s t (outcome r) f
  pub inside : TakenIn t.used r

-- one struct row more, if there is room; its bytes ps stand beside the words
pub record Declared (s t : State) (r : Ran) (abilities params : ℕ) : Type 0 where
  pub same : Linked s t
  pub grown : Grown (tables s) (tables t)
  pub tells : Tells t.used r.show r.result
  pub kept_is : r.kept ≡ true
  pub tail_is : r.tail ≡ None
  pub number : FoundIn 256 (done r.result)
  pub is : (ds : List Struct) (ps : List ℕ) → length ds ≡ s.used.structs → (before : d.State)
      → ran r (held t (more (done r.result) ds (record { abilities = abilities; params = ps }))) before ≡ declare_run abilities ps (held s ds) before
  pub declares : (ds : List Struct) (ps : List ℕ) → Declares s.words.now s.used ds → length ps ≡ params
      → Declares t.words.now t.used (more (done r.result) ds (record { abilities = abilities; params = ps }))

-- .. in the row of its number, if it has one
abbrev pub with_row : Option ℕ → List (List ℕ) → List ℕ → List (List ℕ)
with_row None params bytes = params
with_row (Some n) params bytes = set params n bytes
