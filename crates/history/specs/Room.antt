-- How many bindings a state leaves room for. Assumes nothing: these are definitions.
use Rattle.std.specs.Prelude.{List, [], ◌∷◌, ℕ, ◌+◌, ◌*◌, ◌-◌}
use Rattle.std.specs.Prelude.{Option, None, Some}
use Rattle.definition.specs.Types.{State, Cell}
use Rattle.definition.specs.Store.{taken}

-- 1 of no binding
abbrev pub one_if_none : Option ℕ → ℕ
one_if_none None = 1
one_if_none (Some t) = 0

-- how many are not bound
unfoldable pub unbound_in : List Cell → ℕ
unbound_in [] = 0
unbound_in (c ∷ l) = one_if_none c.binding + unbound_in l

-- a fresh variable lowers it by 3, binding an unbound one by 1, a bound one by 0: no run binds more often than it falls
unfoldable pub room : State → ℕ
room s = 4 * (1024 - taken s) + unbound_in s.vars
