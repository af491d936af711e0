-- `constraints::first_row` meets its contract. Assumes nothing.
use Rattle.constraints.proofs.Lacks.{row_first, row_after}
use Rattle.constraints.proofs.first_row.Goals as goal

pub returns-then-ability-eq-COPY : goal.returns-then-ability-eq-COPY
returns-then-ability-eq-COPY g c = (c.failing_of.ensures.inside, λ ds. row_first _ _ c.failing_of.result _ (c.failing_of.ensures.is ds) c.if-ability-eq-COPY.true)

pub returns-else-ability-eq-COPY : goal.returns-else-ability-eq-COPY
returns-else-ability-eq-COPY g c = (tt, λ ds. row_after _ _ _ c.if-ability-eq-COPY.false)
