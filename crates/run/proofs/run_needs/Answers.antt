-- `run::run_needs` meets its contract. Assumes nothing.
use Rattle.run.proofs.Laws.{ran_needs, ran_open}
use Rattle.run.proofs.run_needs.Goals as goal

pub returns-in-Some : goal.returns-in-Some
returns-in-Some c = λ s. rw c.in-Some.is (ran_needs c.in-Some.n c.shown.ensures)

pub returns-in-None : goal.returns-in-None
returns-in-None c = λ s. rw c.in-None.is (ran_open c.shown-in-None.ensures)
