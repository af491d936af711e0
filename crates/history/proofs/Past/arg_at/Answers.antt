-- `history::Past::arg_at` meets its contract. Assumes nothing.
use mathlib.Core.Path.{ap, ◌∙◌}
use lib.ListN.{get_or}
use Rattle.history.proofs.Reading.{args_is}
use Rattle.history.proofs.Past.arg_at.Goals as goal

pub returns : goal.returns
returns c = λ ds many p. c.arg_at.ensures ds many p ∙ ap (λ l. get_or l c.args.i 0) (args_is _ _ c.args.self.now.st.lay _ _ _ _ c.args.self.now.holds ds _)
