-- `history::Past::num_loc_at` meets its contract. Assumes nothing.
use mathlib.Core.Path.{ap, ◌∙◌}
use Rattle.history.proofs.Reading.{numeric_is}
use Rattle.history.specs.declared.Mark.{Mark}
use Rattle.history.proofs.Past.num_loc_at.Goals as goal

pub returns : goal.returns
returns c = λ ds. rw c.from.ensures.0 at (ap (λ (m : Mark). m.numeric) c.find_mark.ensures) ∙ numeric_is _ _ c.args.self.now.st.lay _ _ _ _ c.args.self.now.holds ds _
