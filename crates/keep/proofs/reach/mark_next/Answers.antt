-- `keep::reach::mark_next` meets its contract. Assumes nothing.
use Rattle.keep.proofs.Reaching.{node_low, at_binding, binding_low, marks_binding, marks_no_binding}
use Rattle.keep.proofs.reach.mark_next.Goals as goal

pub mark_parts-requires : goal.mark_parts-requires
mark_parts-requires c = (c.requires.0, (c.requires.1.0, node_low c.args.st.now c.requires.1.0 c.in-Node.t c.in-Node.is c.requires.1.1))

pub mark_node-requires : goal.mark_node-requires
mark_node-requires c = (c.requires.0, binding_low c.args.st.now c.requires.1.0 c.in-Var.v.0 _ (at_binding c.args.st.now c.requires.1.0 c.in-Var.v.0 _ c.in-Some.ensures))

pub returns-in-Some : goal.returns-in-Some
returns-in-Some c = rw c.in-Var.is (marks_binding c.args.st.now c.requires.1.0 c.in-Var.v.0 _ (at_binding c.args.st.now c.requires.1.0 c.in-Var.v.0 _ c.in-Some.ensures) c.mark_node.ensures)

pub returns-in_default : goal.returns-in_default
returns-in_default c = rw c.in-Var.is (marks_no_binding c.args.st.now c.requires.1.0 c.in-Var.v.0 c.requires.0 (at_binding c.args.st.now c.requires.1.0 c.in-Var.v.0 _ c.in_default.ensures))
