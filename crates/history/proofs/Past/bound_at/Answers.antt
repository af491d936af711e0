-- `history::Past::bound_at` meets its contract. Assumes nothing.
use mathlib.Core.Path.{◌∙◌}
use Rattle.history.proofs.Reading.{get_is}
use Rattle.history.proofs.Past.bound_at.Goals as goal

pub returns : goal.returns
returns c = λ ds. rw c.from.ensures.0 at c.find.ensures ∙ get_is _ _ c.args.self.now.st.lay _ _ _ _ c.args.self.now.holds ds _
