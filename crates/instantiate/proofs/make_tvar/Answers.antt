-- `instantiate::make_tvar` meets its contract. Assumes nothing.
use Rattle.std.proofs.Common.{rules}
use Rattle.instantiate.proofs.TvarLaws.{tvar_err, tvar_node}
use Rattle.instantiate.proofs.make_tvar.Goals as goal

pub returns-in_err-id : goal.returns-in_err-id
returns-in_err-id c = tvar_err _ c.in_err-id.ensures (search rules)

pub returns : goal.returns
returns c = tvar_node _ c.in_ok-id.ensures c.push_node.ensures
