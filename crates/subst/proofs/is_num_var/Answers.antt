-- `subst::is_num_var` meets its contract. Assumes nothing.
use Rattle.subst.proofs.Laws.{is_num}
use mathlib.Core.Path.{◌∙◌}
use Rattle.subst.proofs.is_num_var.Goals as goal

pub returns : goal.returns
returns g c = λ ds. c.is_some.ensures ∙ is_num _ _ c.num_loc_at.result (c.num_loc_at.ensures ds)
