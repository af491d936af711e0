-- `run::take_tvar` meets its contract. Assumes nothing.
use Rattle.std.proofs.Common.{rules}
use Rattle.run.proofs.Laws.{no_tvar, took_tvar}
use Rattle.run.proofs.take_tvar.Goals as goal

pub returns-in_err-v : goal.returns-in_err-v
returns-in_err-v c = no_tvar c.in_err-v.ensures (search rules)

pub returns : goal.returns
returns c = took_tvar c.in_ok-v.ensures c.from.ensures.0
