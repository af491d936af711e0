-- `table::noted` meets its contract. Assumes nothing.
use mathlib.Core.Path.{sym}
use native.Mathlib.Omega.{arith}
use lib.ListN.{get_or-eq_default}
use Rattle.table.proofs.noted.Goals as goal

pub returns-else-at-notes : goal.returns-else-at-notes
returns-else-at-notes c = sym (get_or-eq_default c.args.notes.now 0 {n = c.args.v.0} (omega arith))
