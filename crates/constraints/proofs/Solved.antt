-- The steps of SV together are the definition's solve_constraints. Assumes nothing.
use Rattle.std.specs.Prelude.{None}
use Rattle.std.proofs.Common.{◌≡◌, ℕ, List, [], refl, ap, ◌∙◌}
use Rattle.definition.specs.Types.{State, Struct, Result, ok, err, refused, ◌>>=◌}
use Rattle.definition.specs.Constraints.{num_vars, default_num_vars, solve_all, solve_constraints}
use Rattle.table.specs.State.{Any, outcome, done}
use Rattle.table.specs.Did.{held, Became}
use Rattle.table.specs.Out.{Out}
use Rattle.table.specs.declared.state.State as table
use Rattle.table.proofs.Steps.{stop_same}
use Rattle.constraints.specs.Solve.{numbered}

numbered_then : {B : Type 0} (r : Result State) (h : State → Result B) → (numbered r >>= (λ x. h x.0)) ≡ (r >>= h)
unfolding numbered ◌>>=◌
numbered_then (ok s) h = refl
numbered_then (err s e) h = refl
numbered_then (refused x) h = refl

module _ {s t : table.State} (o : Out) (a : Became Any s t (outcome o) (λ x. numbered (default_num_vars x (num_vars 0 x.vars)))) where
  pub goes_on : (ds : List Struct) → (outcome o (held t ds) >>= (λ x. solve_all x.0)) ≡ solve_constraints (held s ds)
  unfolding solve_constraints
  goes_on ds = ap (λ (y : Result (State × ℕ)). y >>= (λ x. solve_all x.0)) (a.step.is ds tt) ∙ numbered_then (default_num_vars (held s ds) (num_vars 0 (held s ds).vars)) solve_all

  pub unsolved : done o ≡ None → (ds : List Struct) → (outcome o (held t ds) >>= (λ x. ok (x.0, []))) ≡ solve_constraints (held s ds)
  unsolved q ds = stop_same o (held t ds) (λ x. ok (x.0, [])) (λ x. solve_all x.0) q ∙ goes_on ds
