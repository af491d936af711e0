-- `writer::put_bytes` meets its contract. Assumes nothing.
use Rattle.writer.proofs.Put.{wrote_mid}
use Rattle.writer.proofs.put_bytes.Goals as goal

pub returns : goal.returns
returns c = wrote_mid _ _ _ _ c.requires c.copy_from_slice.ensures.after
