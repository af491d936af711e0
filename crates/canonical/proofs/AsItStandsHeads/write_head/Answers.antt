-- `canonical::AsItStands::write_head` meets its contract. Assumes nothing.
use Rattle.theorems.specs.ReadySpelled.{head_by}
use Rattle.canonical.proofs.AsItStandsHeads.write_head.Goals as goal

pub returns : goal.returns
unfolding head_by
returns c = λ ms k. (c.write_head.ensures, tt)
