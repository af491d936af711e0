-- `run::run_loc_type` meets its contract. Assumes nothing.
use Rattle.run.proofs.Laws.{ran_constraint}
use Rattle.run.proofs.run_loc_type.Goals as goal

pub returns-in-BC : goal.returns-in-BC
returns-in-BC c = rw c.in-BC.is (ran_constraint _ c.base_type_constraint.ensures c.listed.ensures)

pub returns-in-SC : goal.returns-in-SC
returns-in-SC c = rw c.in-SC.is (ran_constraint _ c.single_type_constraint.ensures c.listed-in-SC.ensures)
