-- `keep::places::mark_its` meets its contract. Assumes nothing.
use Rattle.keep.proofs.Placing.{run_fits, marks_its, marks_none}
use Rattle.keep.proofs.places.mark_its.Goals as goal

pub mark_run-requires : goal.mark_run-requires
mark_run-requires c = rw (c.wide.ensures, c.wide-in-Apply.ensures) (run_fits c.args.st.now _ c.requires.1 c.node_at.result c.node_at.ensures c.in-Apply.a c.in-Apply.is _ c.requires.0)

pub returns-in-Apply : goal.returns-in-Apply
returns-in-Apply c = marks_its c.args.st.now _ c.requires.1 c.node_at.result c.node_at.ensures c.in-Apply.a c.in-Apply.is (rw (c.wide.ensures, c.wide-in-Apply.ensures) at c.mark_run.ensures)

pub returns-in_default : goal.returns-in_default
returns-in_default c = marks_none c.args.st.now _ c.requires.1 c.node_at.result c.node_at.ensures c.in_default.not-Apply
