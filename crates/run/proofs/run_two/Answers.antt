-- `run::run_two` meets its contract. Assumes nothing.
use Rattle.run.specs.Dispatch.{run_of, step_of, tail_of}
use Rattle.run.proofs.run_two.Goals as goal

pub returns-in-JN : goal.returns-in-JN
unfolding run_of step_of tail_of
returns-in-JN c = rw c.in-JN.is c.run_case.ensures

pub returns-in-SU : goal.returns-in-SU
unfolding run_of step_of tail_of
returns-in-SU c = rw c.in-SU.is c.run_case-in-SU.ensures

pub returns-in-JL : goal.returns-in-JL
returns-in-JL c = rw c.in-JL.is c.run_links.ensures
