-- `table::write_words` meets its contract. Assumes nothing.
use native.Mathlib.Omega.{arith}
use Rattle.table.proofs.Rows.{wrote_mid}
use Rattle.table.proofs.write_words.Goals as goal

pub returns : goal.returns
returns c = wrote_mid _ _ _ _ _ c.requires (omega arith) c.copy_from_slice.ensures.after
