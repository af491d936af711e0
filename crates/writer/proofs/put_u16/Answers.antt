-- `writer::put_u16` meets its contract. Assumes nothing.
use Rattle.definition.specs.Write.{u16}
use Rattle.writer.proofs.put_u16.Goals as goal

pub returns : goal.returns
unfolding u16
returns c = rw c.to_le_bytes.ensures at c.put_bytes.ensures
