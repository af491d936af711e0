-- What the slow engine answers, as a run. Assumes nothing.
use mathlib.Core.Path.{◌≡◌, refl, sym, ap, subst}
use mathlib.Core.Bool.{false}
use Prim.Native.Nat.{ℕ}
use Rattle.std.specs.Prelude.{None, Ok, Err, if◌then◌else◌}
use Rattle.std.specs.Prelude as core
use Rattle.definition.specs.Types as d
use Rattle.definition.specs.Types.{Result, ok, ◌>>=◌}
use Rattle.definition.specs.Store.{spanned}
use Rattle.definition.specs.Subst.{unfold_type, ready_tvars}
use Rattle.theorems.specs.ReadySpelled.{Located, spelled}
use Rattle.table.specs.State.{Any, NodesIn}
use Rattle.table.specs.Did.{Did}
use Rattle.table.specs.declared.Used.{Used}
use Rattle.table.specs.declared.state.State.{State}
use Rattle.table.specs.declared.state.Stop.{Stop}
use Rattle.table.proofs.Did.{stop_in}
use Rattle.subst.specs.Answers.{Unfolds, UnfoldedIn, unfolded as unfolded_as}
use Rattle.subst.specs.declared.Unfolded.{Unfolded}
use Rattle.fields.specs.Noded.{ready, looks}
use Rattle.payload.specs.Payload.{shown}
use Rattle.payload.specs.declared.Show.TheVariants.{Node}
use Rattle.answer.specs.Ran.{ran, Tells}
use Rattle.answer.specs.declared.Ran.{Ran}
use Rattle.run.specs.Runs.{ready_run}
use Rattle.run.specs.Dispatch.{RanAs, run_of, step_of, tail_of}
use Rattle.history.specs.Rows.{Loads}
use Rattle.history.specs.Past.{as_rows}
use Rattle.history.specs.declared.Past.{Past}

-- ---- UF

-- the histories say what the rows of the state's words do
pub unfolds_loaded : {s : State} {p : Past} (t : ℕ) {r : Unfolded} → Loads s.words.now s.used p → Unfolds (as_rows p) r (λ x. spanned x t) → Unfolds s r (λ x. spanned x t)
unfolds_loaded t {r} l a =
    record {
      is = λ ds. subst (λ (x : d.State). unfolded_as r x ≡ unfold_type x (spanned x t)) (l.is ds) (a.is ds);
      inside = subst (λ (u : Used). UnfoldedIn u.nodes r) l.used a.inside;
    }

-- ---- RD

tells_node : (u : Used) (r : core.Result ℕ Stop) → NodesIn u.nodes r → Tells u Node r
tells_node u (Ok t) i = i
tells_node u (Err e) i = stop_in u.nodes e i

pub ran_ready : {s t : State} {a : core.Result ℕ Stop} (ty : ℕ) → Did s t a (λ x. ready_tvars x ty) → {r : Ran} → r ≡ record { result = a; show = Node; tail = None; kept = false } → RanAs Any s t r (looks (ready Located ty))
unfolding run_of step_of tail_of ran ready_run spelled shown
ran_ready {s} {t} {a} ty c e =
    subst (λ (x : Ran). RanAs Any s t x (looks (ready Located ty))) (sym e)
    (record {
      left = c.changed;
      tells = tells_node t.used a c.inside;
      kept_is = refl;
      is = λ ds k before. ap (λ (m : Result (d.State × ℕ)). m >>= (λ (x : d.State × ℕ). ok (before, shown Node x.1 x.0))) (c.changed.step.is ds k);
      tail_is = λ ds. refl;
    })
