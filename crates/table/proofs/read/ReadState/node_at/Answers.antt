-- `table::ReadState::node_at` meets its contract. Assumes nothing.
use mathlib.Core.Path.{sym}
use Rattle.table.proofs.Fields.{node_made, node_beyond}
use Rattle.table.proofs.read.ReadState.node_at.Goals as goal

pub returns-then-t-used : goal.returns-then-t-used
returns-then-t-used g c = λ ds. node_made _ _ ds _ _ _ (rw c.used.ensures at c.if-t-used.true) (rw c.words.ensures at c.node_words_at-r.ensures) c.shape_at-shape.ensures

pub returns-else-t-used : goal.returns-else-t-used
returns-else-t-used g c = λ ds. sym (node_beyond _ _ ds _ (rw c.used.ensures at c.if-t-used.false))
