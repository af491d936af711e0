-- `run::run_bind` meets its contract. Assumes nothing.
use Rattle.run.specs.Dispatch.{run_of, step_of, tail_of}
use Rattle.run.proofs.Arms.{narrow}
use Rattle.run.proofs.run_bind.Goals as goal

pub run_two-requires : goal.run_two-requires
run_two-requires c = rw c.in-Two.is at c.requires

pub run_instantiate-requires : goal.run_instantiate-requires
run_instantiate-requires c = rw c.in-IN.is at c.requires

pub returns-in-SN : goal.returns-in-SN
unfolding run_of step_of tail_of
returns-in-SN c = rw c.in-SN.is (narrow c.run_set_num.ensures)

pub returns-in-Two : goal.returns-in-Two
unfolding run_of step_of tail_of
returns-in-Two c = rw c.in-Two.is (narrow c.run_two.ensures)

pub returns-in-IN : goal.returns-in-IN
unfolding run_of step_of tail_of
returns-in-IN c = rw c.in-IN.is c.run_instantiate.ensures
