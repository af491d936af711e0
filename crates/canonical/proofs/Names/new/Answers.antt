-- `canonical::Names::new` meets its contract. Assumes nothing.
use Rattle.canonical.proofs.Numbers.{named_none}
use Rattle.canonical.proofs.Names.new.Goals as goal

pub returns : goal.returns
returns c = named_none
