-- The run of a record whose types are placed, as the definition's `run` has it. Assumes nothing: these are definitions.
use Rattle.std.specs.Prelude.{◌++◌, Bool, true, false, List, [], ℕ}
use Rattle.definition.specs.Types as d
use Rattle.definition.specs.Types.{Struct, Result, ok, ◌>>=◌}
use Rattle.definition.specs.Write.{Bytes}
use Rattle.definition.specs.Store.{next_tvar}
use Rattle.definition.specs.Subst.{ready_tvars}
use Rattle.definition.specs.Join.{Join}
use Rattle.definition.specs.Instantiate as i
use Rattle.definition.specs.Constraints.{solve_constraints}
use Rattle.definition.specs.Expand.{expand_type}
use Rattle.definition.specs.Keep.{reach, cleared, survivors}
use Rattle.definition.specs.Step.{run_pairs}
use Rattle.table.specs.State.{outcome, pushed_constraint}
use Rattle.table.specs.declared.state.State.{State}
use Rattle.fields.specs.Noded.{set_num, two, joined_links, instantiate, unfolded, unfolded_links, ready, tparams, tvar, num_tvar, literal, constrain, tell, Run, binds, looks, adds, Noded, declare, solve, expand, many, keep, run}
use Rattle.answer.specs.declared.Ran.{Ran}
use Rattle.run.specs.Runs.{join_in, two_run, unfold_run, ready_run, subst_in, tparams_run, instantiate_run, tvar_run, marked_in, marked_run, numeric, needing, set_num_in, set_num_run, constraint_run, needs_run, declare_run, join_tail, unfold_tail, Runs}

-- s has the types placed, `before` is the state at entry
unfoldable pub run_of : Run → d.State → d.State → Result (d.State × Bytes)
run_of (binds (set_num v loc)) s before = set_num_run v loc s before
run_of (binds (two case lhs rhs)) s before = two_run case lhs rhs s before
run_of (binds (joined_links lhs rhs)) s before = two_run Join lhs rhs s before
run_of (binds (instantiate t)) s before = instantiate_run t s before
run_of (looks (unfolded t)) s before = unfold_run t s before
run_of (looks (unfolded_links t)) s before = unfold_run t s before
run_of (looks (ready how t)) s before = ready_run how t s before
run_of (looks (tparams pairs t)) s before = tparams_run pairs t s before
run_of (adds (tvar loc)) s before = tvar_run loc s before
run_of (adds (num_tvar loc)) s before = marked_run (numeric loc) loc s before
run_of (adds (literal loc bits)) s before = marked_run (needing loc bits) loc s before
run_of (adds (constrain c)) s before = constraint_run c s before
run_of (adds (tell n)) s before = needs_run n s before

-- XP's payload is no node's
abbrev pub expand_run : ℕ → d.State → d.State → Result (d.State × Bytes)
expand_run t s before = do
  x ← expand_type s t
  ok (before, x.type ++ x.codes)

unfoldable pub noded_run : Noded → d.State → d.State → Result (d.State × Bytes)
noded_run (declare abilities params) s before = declare_run abilities params s before
noded_run solve s before = solve_constraints s
noded_run (expand t) s before = expand_run t s before
noded_run (many pairs) s before = ok (run_pairs s pairs)
noded_run (keep listed) s before = ok (cleared s listed, survivors (reach s listed).vars)
noded_run (run r) s before = run_of r s before

-- the number and the state that the run comes by, before the payload
unfoldable pub step_of : Ran → Run → d.State → Result (d.State × ℕ)
step_of r (binds (set_num v loc)) s = set_num_in v loc s
step_of r (binds (two case lhs rhs)) s = join_in case s lhs rhs
step_of r (binds (joined_links lhs rhs)) s = join_in Join s lhs rhs
step_of r (binds (instantiate t)) s = i.instantiate s t
step_of r (looks (unfolded t)) s = outcome r.result s
step_of r (looks (unfolded_links t)) s = outcome r.result s
step_of r (looks (ready how t)) s = ready_tvars s t
step_of r (looks (tparams pairs t)) s = subst_in pairs t s
step_of r (adds (tvar loc)) s = next_tvar s
step_of r (adds (num_tvar loc)) s = marked_in (numeric loc) s
step_of r (adds (literal loc bits)) s = marked_in (needing loc bits) s
step_of r (adds (constrain c)) s = pushed_constraint c s
step_of r (adds (tell n)) s = outcome r.result s

-- what stands behind what it shows
unfoldable pub tail_of : Run → d.State → Bytes
tail_of (binds (set_num v loc)) s = []
tail_of (binds (two case lhs rhs)) s = []
tail_of (binds (joined_links lhs rhs)) s = join_tail lhs rhs s
tail_of (binds (instantiate t)) s = []
tail_of (looks (unfolded t)) s = []
tail_of (looks (unfolded_links t)) s = unfold_tail t s
tail_of (looks (ready how t)) s = []
tail_of (looks (tparams pairs t)) s = []
tail_of (adds a) s = []

-- what only looks leaves the state as at entry
abbrev pub kept_of : Run → Bool
kept_of (binds b) = true
kept_of (looks l) = false
kept_of (adds a) = true

-- n was run, for the declarations in K
abbrev pub RanAs : (List Struct → Type 0) → State → State → Ran → Run → Type 0
RanAs K s t r n = Runs K s t r (kept_of n) (step_of r n) (run_of n) (tail_of n)
