-- The steps of solve_constraints. Assumes nothing: these are definitions.
use Rattle.std.specs.Prelude.{ℕ, suc, List, [], ◌∷◌}
use Rattle.std.specs.Prelude.{Option, None, Some}
use Rattle.definition.specs.Types as d
use Rattle.definition.specs.Types.{State, Cell, Result, ok, ◌>>=◌}
use Rattle.definition.specs.Store.{sp}
use Rattle.definition.specs.Join.{join}
use Rattle.definition.specs.Constraints.{default_of, default_num_var}
use Rattle.definition.specs.Record as record_of
use Rattle.constraints.specs.declared.NumericKind.{NumericKind}
use Rattle.constraints.specs.declared.NumericKind.TheVariants.{Numeric, Bits, Ordered}

abbrev pub kind_of : NumericKind → record_of.NumericKind
kind_of Numeric = record_of.Numeric
kind_of Bits = record_of.Bits
kind_of Ordered = record_of.Ordered

-- a step that has no number to answer
unfoldable pub numbered : Result State → Result (State × ℕ)
numbered r = r >>= (λ s. ok (s, 0))

-- the join of a variable that nothing decides
unfoldable pub join_integer : State → ℕ → ℕ → Result (State × ℕ)
join_integer subst num_var loc = do
  (subst, integer) ← sp subst loc (default_of subst num_var)
  (subst, tvar) ← sp subst loc (d.Var num_var)
  join subst integer tvar

unfoldable pub default_marked : State → ℕ → Option ℕ → Result State
default_marked subst num_var None = ok subst
default_marked subst num_var (Some loc) = default_num_var subst num_var loc

-- default_num_vars of the variables from v on, as these cells mark them
unfoldable pub defaults : State → ℕ → List Cell → Result State
defaults subst v [] = ok subst
defaults subst v (cell ∷ cells) = do
  subst ← default_marked subst v cell.numeric
  defaults subst (suc v) cells
