-- `recheck::run_look` meets its contract. Assumes nothing.
use mathlib.Core.Logic.{inl, inr}
use Rattle.recheck.specs.Stepped.{checked}
use Rattle.recheck.proofs.Marked.{false_never}
use Rattle.recheck.proofs.run_look.Goals as goal

pub returns-in-UF : goal.returns-in-UF
returns-in-UF c = rw c.in-UF.is c.run_unfold.ensures

pub returns-in-RD : goal.returns-in-RD
returns-in-RD c = rw c.in-RD.is c.run_ready.ensures

pub returns-in-CN : goal.returns-in-CN
unfolding checked
returns-in-CN c = elim c.in-CN.is [ inl e ↦ false_never (rw e at c.requires.mark) | inr e ↦ false_never (rw e at c.requires.mark) ]
