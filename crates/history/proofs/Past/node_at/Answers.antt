-- `history::Past::node_at` meets its contract. Assumes nothing.
use mathlib.Core.Path.{◌∙◌}
use Rattle.history.proofs.Reading.{node_is}
use Rattle.history.proofs.Past.node_at.Goals as goal

pub returns : goal.returns
returns c = λ ds. c.node_at.ensures ds ∙ node_is _ _ c.args.self.now.st.lay _ _ _ _ c.args.self.now.holds ds _
