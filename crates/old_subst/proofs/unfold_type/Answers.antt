-- `old_subst::unfold_type` meets its contract. Assumes nothing.
use Rattle.history.specs.Past.{as_rows}
use Rattle.subst.proofs.Unfold.{unfolds_plain, unfolds_open, unfolds_bound, unfolds_var}
use Rattle.old_subst.proofs.unfold_type.Goals as goal

pub returns-in_default : goal.returns-in_default
returns-in_default c = unfolds_plain _ _ c.node_at-n.result c.node_at-n.ensures _ c.as_var.ensures c.requires c.in_default.is

pub returns-in-None : goal.returns-in-None
returns-in-None c =
    unfolds_var (as_rows c.args.past.now) _ c.node_at-n.result c.node_at-n.ensures _ c.as_var.ensures _ c.in-Some.is _
    (unfolds_open _ _ _ _ _ c.forward_tvar.ensures c.bound_at.ensures c.in-None.is)

pub returns-in-Some-bound_at : goal.returns-in-Some-bound_at
returns-in-Some-bound_at c =
    unfolds_var (as_rows c.args.past.now) _ c.node_at-n.result c.node_at-n.ensures _ c.as_var.ensures _ c.in-Some.is _
    (unfolds_bound _ _ _ _ _ c.forward_tvar.ensures c.bound_at.ensures _ c.in-Some-bound_at.is)
