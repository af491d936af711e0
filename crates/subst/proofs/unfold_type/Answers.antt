-- `subst::unfold_type` meets its contract. Assumes nothing.
use Rattle.subst.proofs.Unfold.{unfolds_plain, unfolds_var}
use Rattle.subst.proofs.unfold_type.Goals as goal

pub returns-in-None : goal.returns-in-None
returns-in-None g c = unfolds_plain _ _ c.node_at-n.result c.node_at-n.ensures _ c.as_var.ensures c.requires c.in-None.is

pub returns-in-Some : goal.returns-in-Some
returns-in-Some g c = unfolds_var _ _ c.node_at-n.result c.node_at-n.ensures _ c.as_var.ensures _ c.in-Some.is _ c.unfold_tvar.ensures
