-- `keep::reach::staying` meets its contract. Assumes nothing.
use Rattle.keep.proofs.Reaching.{begun, drained}
use Rattle.keep.proofs.reach.staying.Goals as goal

pub mark_reached-requires : goal.mark_reached-requires
mark_reached-requires g c = (c.requires.1.0, rw c.requires.0 (begun c.args.st.now c.requires.1.0 c.args.vars.now c.args.n c.requires.1.1.0 c.requires.1.1.1 c.new-m.ensures c.mark_vars.ensures c.mark_constraints.ensures))

pub returns : goal.returns
returns g c = drained _ c.requires.1.0 g.listed c.mark_reached.ensures.0 c.mark_reached.ensures.1
