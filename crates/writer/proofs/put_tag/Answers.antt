-- `writer::put_tag` meets its contract. Assumes nothing.
use Rattle.definition.specs.Write.{u32}
use Rattle.writer.proofs.Put.{both_wrote}
use Rattle.writer.proofs.Heads.{one_more}
use Rattle.writer.proofs.put_tag.Goals as goal

pub returns : goal.returns
unfolding u32
returns c = both_wrote _ _ _ (one_more c.args.tag (u32 c.args.loc)) _ _ c.requires _ _ c.put_bytes-next.ensures _ _ c.put_u32.ensures
