-- `subst::num_node` meets its contract. Assumes nothing.
use mathlib.Core.Path.{ap, ◌∙◌}
use Rattle.definition.specs.Join.{num_shape}
use Rattle.table.proofs.Grown.{value_is}
use Rattle.subst.proofs.num_node.Goals as goal

pub returns : goal.returns
returns g c = λ ds. c.num_shape.ensures _ ∙ ap (num_shape c.args.need) (value_is _ _ c.node_at.result (c.node_at.ensures ds))
