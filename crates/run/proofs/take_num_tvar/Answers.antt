-- `run::take_num_tvar` meets its contract. Assumes nothing.
use Rattle.std.proofs.Common.{rules}
use Rattle.run.specs.Runs.{numeric}
use Rattle.run.proofs.Laws.{none_marked, took_marked}
use Rattle.run.proofs.take_num_tvar.Goals as goal

pub returns-in_err-v : goal.returns-in_err-v
returns-in_err-v c = none_marked _ c.in_err-v.ensures (search rules)

pub returns : goal.returns
returns c = took_marked (numeric c.args.loc) c.in_ok-v.ensures c.set_num_var.ensures c.from.ensures.0
