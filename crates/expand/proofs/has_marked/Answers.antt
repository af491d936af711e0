-- `expand::has_marked` meets its contract. Assumes nothing.
use Rattle.expand.proofs.Walks.{clears_none, comes_is}
use Rattle.expand.proofs.has_marked.Goals as goal

pub comes_to_marked-requires : goal.comes_to_marked-requires
comes_to_marked-requires c = (c.requires.0, (c.requires.1, clears_none _))

pub returns : goal.returns
returns c = comes_is c.args.chains.now.st.now _ _ _ c.comes_to_marked.ensures.0
