-- `subst::unfold_links` meets its contract. Assumes nothing.
use Rattle.shapes.specs.Parts.{next}
use Rattle.subst.proofs.Laws.{var_of}
use Rattle.subst.proofs.Unfold.{links_plain, links_var}
use mathlib.Core.Path.{ap, ◌∙◌}
use Rattle.subst.proofs.unfold_links.Goals as goal

pub returns-in-None : goal.returns-in-None
returns-in-None g c = λ ds. links_plain _ _ (var_of _ _ c.node_at-n.result c.as_var.result (c.node_at-n.ensures ds) c.as_var.ensures ∙ ap next c.in-None.is)

pub returns-in-Some : goal.returns-in-Some
returns-in-Some g c = λ ds. links_var _ _ _ (var_of _ _ c.node_at-n.result c.as_var.result (c.node_at-n.ensures ds) c.as_var.ensures ∙ ap next c.in-Some.is) _ (c.forward_tvar.ensures.links_is ds)
