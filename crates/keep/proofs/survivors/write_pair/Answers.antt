-- `keep::survivors::write_pair` meets its contract. Assumes nothing.
use Rattle.keep.proofs.Numbering.{pair_next, pair_wrote}
use Rattle.keep.proofs.survivors.write_pair.Goals as goal

pub put_u16-requires : goal.put_u16-requires
put_u16-requires c = pair_next c.args.old c.args.new c.requires c.put_u16-next.ensures

pub returns : goal.returns
returns c = pair_wrote c.args.old c.args.new c.requires c.put_u16-next.ensures (rw c.from.ensures at c.put_u16.ensures)
