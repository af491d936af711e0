-- `run::take_literal` meets its contract. Assumes nothing.
use Rattle.std.proofs.Common.{rules}
use Rattle.run.specs.Runs.{needing}
use Rattle.run.proofs.Laws.{none_marked, took_marked, literal_kept}
use Rattle.run.proofs.take_literal.Goals as goal

pub returns-in_err-v : goal.returns-in_err-v
returns-in_err-v c = none_marked _ c.in_err-v.ensures (search rules)

pub returns : goal.returns
returns c = took_marked (needing c.args.loc c.args.bits) c.in_ok-v.ensures (literal_kept _ _ c.set_num_var.ensures c.set_need.ensures c.from.ensures) c.from-2.ensures.0
