-- `subst::unfold_tvar` meets its contract. Assumes nothing.
use Rattle.subst.proofs.unfold_tvar.Goals as goal

pub returns : goal.returns
returns g c = c.unfold_end.ensures _ c.forward_tvar-end.ensures.tvar_is
