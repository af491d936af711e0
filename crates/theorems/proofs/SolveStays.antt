-- Where SV succeeds, no constraint stays on the list. Assumes nothing.
use mathlib.Core.Path.{◌≡◌, refl}
use mathlib.Core.List.{[]}
use Rattle.definition.specs.Types.{State, Result, ok, err, refused, ◌>>=◌}
use Rattle.definition.specs.Store.{with_constraints}
use Rattle.definition.specs.Constraints.{num_vars, default_num_vars, solve_all, solve_constraints}
use Rattle.definition.specs.Write.{Bytes}
use Rattle.theorems.proofs.SolveInTurn.{solve_cases}

unfoldable pub NoneStays : Result (State × Bytes) → Type 0
NoneStays (ok (s, payload)) = s.constraints ≡ []
NoneStays (err s e) = Unit {0}
NoneStays (refused x) = Unit {0}

all_leave : (s : State) → NoneStays (solve_all s)
unfolding NoneStays with_constraints
all_leave s = solve_cases s NoneStays (λ failures. refl) tt tt

pub none_stays : (s : State) → NoneStays (solve_constraints s)
unfolding solve_constraints NoneStays ◌>>=◌
none_stays s = go (default_num_vars s (num_vars 0 s.vars))
  where
    go : (m : Result State) → NoneStays (m >>= λ (s : State). solve_all s)
    go (ok s) = all_leave s
    go (err s e) = tt
    go (refused x) = tt
