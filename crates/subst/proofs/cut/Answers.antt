-- `subst::cut` meets its contract. Assumes nothing.
use mathlib.Core.Path.{◌∙◌}
use Rattle.subst.proofs.Lists.{cut_min}
use Rattle.subst.proofs.cut.Goals as goal

pub returns : goal.returns
returns c = c.min.ensures ∙ cut_min c.args.n
