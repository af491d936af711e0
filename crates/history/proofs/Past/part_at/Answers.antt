-- `history::Past::part_at` meets its contract. Assumes nothing.
use mathlib.Core.Path.{ap, ◌∙◌}
use lib.ListN.{get_or}
use Rattle.definition.specs.Subst.{parts}
use Rattle.history.proofs.Reading.{parts_is}
use Rattle.history.proofs.Past.part_at.Goals as goal

pub returns : goal.returns
returns c = λ ds p. c.part_at.ensures ds p ∙ ap (λ x. get_or (parts x) c.args.i 0) (parts_is _ _ c.args.self.now.st.lay _ _ _ _ c.args.self.now.holds ds _)
