-- `expand::leads_to` meets its contract. Assumes nothing.
use Rattle.expand.proofs.Walks.{leads_node, leads_open}
use Rattle.expand.proofs.leads_to.Goals as goal

pub returns-in-Node : goal.returns-in-Node
returns-in-Node c = leads_node c.lead.ensures _ c.in-Node.is c.node_at.result c.node_at.ensures

pub returns-in-Open : goal.returns-in-Open
returns-in-Open c = leads_open c.lead.ensures _ _ c.in-Open.is
