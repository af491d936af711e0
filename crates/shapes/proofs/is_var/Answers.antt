-- `shapes::is_var` meets its contract. Assumes nothing.
use mathlib.Core.Path.{◌∙◌}
use Rattle.shapes.proofs.Parts.{var_is, same_next}
use Rattle.shapes.proofs.is_var.Goals as goal

pub returns : goal.returns
returns c = λ st. c.eq.ensures ∙ same_next c.as_var.result c.args.v ∙ var_is _ _ _ (c.as_var.ensures st)
