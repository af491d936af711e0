-- `many::put_head` meets its contract. Assumes nothing.
use native.Mathlib.Omega.{arith}
use Rattle.writer.proofs.Put.{wrote_wrote}
use Rattle.many.proofs.put_head.Goals as goal

pub returns : goal.returns
returns c = wrote_wrote _ _ _ _ _ _ _ _ (omega (arith, c.requires.1.1)) c.put_bytes-next.ensures c.put_u16.ensures
