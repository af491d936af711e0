-- `run::run_case` meets its contract. Assumes nothing.
use Rattle.run.proofs.Laws.{ran_join, ran_subtype}
use Rattle.run.proofs.run_case.Goals as goal

pub returns-in-Join : goal.returns-in-Join
returns-in-Join c = ran_join _ _ _ c.in-Join.is c.join.ensures c.shown.ensures

pub returns-in-Subtype : goal.returns-in-Subtype
returns-in-Subtype c = ran_subtype _ _ _ c.in-Subtype.is c.subtype.ensures c.shown-in-Subtype.ensures
