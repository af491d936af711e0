-- `payload::write_four` meets its contract. Assumes nothing.
use Rattle.payload.proofs.Payload.{wrote_four}
use Rattle.payload.proofs.write_four.Goals as goal

pub returns : goal.returns
returns c = wrote_four _ c.requires _ _ _ _ _ _ _ _ _ _ _ _ c.put_u32-second.ensures c.put_u32-third.ensures c.put_u32-fourth.ensures c.put_u32.ensures
