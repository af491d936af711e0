-- `subst::next_of` meets its contract. Assumes nothing.
use mathlib.Core.Path.{ap, ◌∙◌}
use Rattle.shapes.specs.Parts.{next}
use Rattle.definition.specs.Subst.{as_var}
use Rattle.subst.proofs.Laws.{next_none, next_some}
use Rattle.table.proofs.Grown.{value_is}
use Rattle.subst.proofs.next_of.Goals as goal

pub returns-in_err-t : goal.returns-in_err-t
returns-in_err-t g c = λ ds. ap next c.from_residual.ensures ∙ next_none _ _ c.bound_at.result (c.bound_at.ensures ds) c.in_err-t.was

pub returns : goal.returns
returns g c = let bound_at = c.bound_at in
    λ ds. c.as_var.ensures _ ∙ ap as_var (value_is _ _ c.node_at.result (c.node_at.ensures ds))
    ∙ next_some _ _ _ bound_at.result (bound_at.ensures ds) c.in_ok-t.was
