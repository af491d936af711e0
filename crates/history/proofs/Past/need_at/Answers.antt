-- `history::Past::need_at` meets its contract. Assumes nothing.
use mathlib.Core.Path.{ap, ◌∙◌}
use Rattle.history.proofs.Reading.{need_is}
use Rattle.history.specs.declared.Mark.{Mark}
use Rattle.history.proofs.Past.need_at.Goals as goal

pub returns : goal.returns
returns c = λ ds. rw c.from.ensures.0 at (ap (λ (m : Mark). m.need) c.find_mark.ensures) ∙ need_is _ _ c.args.self.now.st.lay _ _ _ _ c.args.self.now.holds ds _
