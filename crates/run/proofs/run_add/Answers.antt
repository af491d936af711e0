-- `run::run_add` meets its contract. Assumes nothing.
use Rattle.run.specs.Dispatch.{run_of, step_of, tail_of}
use Rattle.run.proofs.run_add.Goals as goal

pub returns-in-FV : goal.returns-in-FV
unfolding run_of step_of tail_of
returns-in-FV c = rw (c.in-Loc.is, c.in-FV.is) c.run_tvar.ensures

pub returns-in-NV : goal.returns-in-NV
unfolding run_of step_of tail_of
returns-in-NV c = rw (c.in-Loc.is, c.in-NV.is) c.run_num_tvar.ensures

pub returns-in-NL : goal.returns-in-NL
unfolding run_of step_of tail_of
returns-in-NL c = rw c.in-NL.is c.run_literal.ensures

pub returns-in-NC : goal.returns-in-NC
unfolding run_of step_of tail_of
returns-in-NC c = rw c.in-NC.is c.run_numeric.ensures

pub returns-in-LocType : goal.returns-in-LocType
unfolding run_of step_of tail_of
returns-in-LocType c = rw c.in-LocType.is c.run_loc_type.ensures

pub returns-in-RM : goal.returns-in-RM
unfolding run_of step_of tail_of
returns-in-RM c = rw c.in-RM.is (c.run_needs.ensures c.args.st.now)
