-- The variable that a shape is, and how many parts it has. Assumes nothing: these are definitions.
use Rattle.std.specs.Prelude.{Option, None, Some}
use Rattle.std.specs.Prelude.{ℕ}
use Rattle.names.specs.declared.TVar.{TVar}
use Rattle.definition.specs.Types as d
use Rattle.definition.specs.Types.{Places}

-- the variable that a type is
abbrev pub next : Option TVar → Option ℕ
next None = None
next (Some v) = Some v.0

-- how many parts a type has
abbrev pub part_count : d.Shape Places → ℕ
part_count d.UnitType = 0
part_count (d.Ref m t) = 1
part_count (d.Param id a) = 0
part_count (d.Apply k n p) = p.many
part_count (d.Var v) = 0
part_count d.Anything = 0
part_count d.UnresolvedError = 0
