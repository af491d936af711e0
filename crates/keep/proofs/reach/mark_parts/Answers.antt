-- `keep::reach::mark_parts` meets its contract. Assumes nothing.
use Rattle.keep.proofs.Marking.{grown_none}
use Rattle.keep.proofs.Reaching.{var_low, parts_low, marks_parts, marks_var, its_var}
use Rattle.keep.proofs.reach.mark_parts.Goals.{in-Some, in_default}
use Rattle.keep.proofs.reach.mark_parts.Goals as goal

pub mark_var-requires : goal.mark_var-requires
mark_var-requires c = (c.requires.0, var_low c.args.st.now c.requires.1.0 _ c.requires.1.1 _ c.node_at-n.ensures _ c.in-Some.ensures)

pub mark_nodes-requires : goal.mark_nodes-requires
mark_nodes-requires c = (elim c.match-as_var.branch [ in-Some w ↦ rw w.m-is w.mark_var.ensures.grown.fits | in_default w ↦ rw w.m-is c.requires.0 ], parts_low c.args.st.now c.requires.1.0 _ c.requires.1.1 _ c.node_at-n.ensures _ c.parts_of.ensures)

pub returns : goal.returns
returns c = marks_parts c.args.st.now c.requires.1.0 _ c.requires.1.1 _ c.node_at-n.ensures _ c.parts_of.ensures _ c.as_var.ensures (elim c.match-as_var.branch [
  | in-Some w ↦ rw w.m-is (marks_var c.args.st.now c.requires.1.0 _ c.requires.1.1 _ c.node_at-n.ensures w.in-Some.v w.in-Some.ensures w.mark_var.ensures)
  | in_default w ↦ rw w.m-is (grown_none c.requires.0)
]) (elim c.match-as_var.branch [ in-Some w ↦ (λ v e. its_var w.m-is w.in-Some.is e w.mark_var.ensures) | in_default w ↦ (λ v e. absurd (w.in_default.not-Some v e)) ]) c.mark_nodes.ensures
