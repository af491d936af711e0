-- `constraints::join_integer` meets its contract. Assumes nothing.
use native.Mathlib.Omega.{arith}
use Rattle.std.proofs.Common.{rules}
use Rattle.table.proofs.Did.{nodes_more}
use Rattle.constraints.proofs.Defaults.{integer_full, tvar_full, integer_joined}
use Rattle.constraints.proofs.join_integer.Goals as goal

pub returns-in_err-integer : goal.returns-in_err-integer
returns-in_err-integer c = integer_full _ _ c.default_at-b.ensures c.in_err-integer.ensures (search rules)

pub returns-in_err-tvar : goal.returns-in_err-tvar
returns-in_err-tvar c = tvar_full _ _ c.default_at-b.ensures c.in_ok-integer.ensures c.in_err-tvar.ensures (search rules)

pub join-requires : goal.join-requires
join-requires c = (omega (arith, c.in_ok-integer.ensures.inside, nodes_more c.push_node.ensures.changed), c.in_ok-tvar.ensures.inside)

pub returns : goal.returns
returns c = integer_joined _ _ c.default_at-b.ensures c.in_ok-integer.ensures c.in_ok-tvar.ensures c.join.ensures
