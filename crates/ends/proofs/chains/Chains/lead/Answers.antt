-- `ends::chains::Chains::lead` meets its contract. Assumes nothing.
use Rattle.ends.proofs.Leads.{leads_plain, leads_open, leads_bound}
use Rattle.ends.proofs.chains.Chains.lead.Goals as goal

pub returns-in_default : goal.returns-in_default
returns-in_default g c = leads_plain _ _ c.node_at-n.result c.node_at-n.ensures _ c.as_var.ensures c.requires c.in_default.is

pub returns-in-None : goal.returns-in-None
returns-in-None g c = leads_open _ _ c.node_at-n.result c.node_at-n.ensures _ c.as_var.ensures _ c.in-Some.is _ c.end-end.ensures _ c.bound_at.ensures c.in-None.is

pub returns-in-Some-bound_at : goal.returns-in-Some-bound_at
returns-in-Some-bound_at g c = leads_bound _ _ c.node_at-n.result c.node_at-n.ensures _ c.as_var.ensures _ c.in-Some.is _ c.end-end.ensures _ c.bound_at.ensures _ c.in-Some-bound_at.is
