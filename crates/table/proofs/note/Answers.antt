-- `table::note` meets its contract. Assumes nothing.
use mathlib.Core.Path.{sym}
use native.Mathlib.Omega.{arith}
use lib.Seq.{set_out}
use Rattle.table.proofs.note.Goals as goal

pub returns-else-at-notes : goal.returns-else-at-notes
returns-else-at-notes c = sym (set_out _ _ _ (omega arith))
