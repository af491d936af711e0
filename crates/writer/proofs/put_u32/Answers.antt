-- `writer::put_u32` meets its contract. Assumes nothing.
use Rattle.definition.specs.Write.{u32}
use Rattle.writer.proofs.put_u32.Goals as goal

pub returns : goal.returns
unfolding u32
returns c = rw c.to_le_bytes.ensures at c.put_bytes.ensures
