-- `old_ready::part_of` meets its contract. Assumes nothing.
use Rattle.history.specs.Past.{as_rows}
use Rattle.old_ready.proofs.Run.{part_of}
use Rattle.old_ready.proofs.part_of.Goals as goal

pub returns : goal.returns
returns c = part_of (as_rows c.args.past.now) _ c.requires c.node_at-n.result c.node_at-n.ensures _ _ c.part_at.ensures
