-- `ends::chains::Chains::goes_on` meets its contract. Assumes nothing.
use mathlib.Core.Path.{ap}
use Rattle.ends.specs.Leads.{unfolds_to}
use Rattle.ends.proofs.Itself.{goes_node, goes_anything, unfolded_node}
use Rattle.ends.proofs.chains.Chains.goes_on.Goals as goal

pub returns-in-Node : goal.returns-in-Node
returns-in-Node g c = let leads = c.lead.ensures in
    let e = ap unfolds_to c.in-Node.is in
    goes_node _ _ _ leads.unfolds _ e (unfolded_node leads.unfolds.inside e) c.node_at.result c.node_at.ensures

pub returns-in-Open : goal.returns-in-Open
returns-in-Open g c = goes_anything _ _ _ c.lead.ensures.unfolds _ (ap unfolds_to c.in-Open.is)
