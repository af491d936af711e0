-- `recheck::run_two` meets its contract. Assumes nothing.
use mathlib.Core.Path.{refl}
use Rattle.arms.specs.declared.TypingCase.TheVariants.{Join, Subtype}
use Rattle.run.specs.Dispatch.{run_of, step_of, tail_of}
use Rattle.run.proofs.Laws.{ran_join, ran_subtype}
use Rattle.recheck.specs.Stepped.{checked}
use Rattle.recheck.proofs.Marked.{false_never}
use Rattle.recheck.proofs.run_two.Goals as goal

pub returns-in-JN : goal.returns-in-JN
unfolding run_of step_of tail_of
returns-in-JN c = rw c.in-JN.is (ran_join _ _ Join refl c.join.ensures c.shown.ensures)

pub returns-in-SU : goal.returns-in-SU
unfolding run_of step_of tail_of
returns-in-SU c = rw c.in-SU.is (ran_subtype _ _ Subtype refl c.subtype.ensures c.shown-in-SU.ensures)

pub returns-in-JL : goal.returns-in-JL
unfolding checked
returns-in-JL c = false_never (rw c.in-JL.is at c.requires.mark)
