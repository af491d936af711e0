-- `constraints::undecided_var` meets its contract. Assumes nothing.
use Rattle.constraints.proofs.Defaults.{undecided_node, undecided_anything}
use Rattle.constraints.proofs.undecided_var.Goals as goal

pub returns-in-Node : goal.returns-in-Node
returns-in-Node g c = λ ds. undecided_node _ _ _ (c.unfold_tvar.ensures.is ds) _ c.node_at.result _ c.in-Node.is (c.node_at.ensures ds) (c.undecided.ensures _)

pub returns-in-Anything : goal.returns-in-Anything
returns-in-Anything g c = λ ds. undecided_anything _ _ _ (c.unfold_tvar.ensures.is ds) _ c.in-Anything.is
