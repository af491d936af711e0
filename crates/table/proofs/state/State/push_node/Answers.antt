-- `table::State::push_node` meets its contract. Assumes nothing.
use mathlib.Core.Path.{refl}
use native.Mathlib.Omega.{arith}
use Rattle.table.proofs.Linked.{linked_same, node_apart}
use Rattle.table.proofs.Primitives.{flat_pushed}
use Rattle.table.proofs.Pushed.{node_full}
use Rattle.table.proofs.Did.{of_when, linked_now}
use Rattle.table.proofs.state.State.push_node.Goals as goal

pub returns-then-n-ge-MAX_NODES : goal.returns-then-n-ge-MAX_NODES
returns-then-n-ge-MAX_NODES c = of_when (linked_now _) (node_full _ _ _ _ c.args.self.now.lay c.if-n-ge-MAX_NODES.true)

pub invariant_of-self : goal.invariant_of-self
invariant_of-self c =
    record { lay = (flat_pushed _ _ _ c.args.shape _ _ _ c.args.self.now.lay c.requires c.if-n-ge-MAX_NODES.false refl c.put_row.ensures c.row_of-row.ensures).changed.lay }

pub returns : goal.returns
returns c = of_when (linked_same refl refl refl (node_apart _ _ _ _ (omega (arith, c.if-n-ge-MAX_NODES.false)) c.put_row.ensures)) (flat_pushed _ _ _ c.args.shape _ _ _ c.args.self.now.lay c.requires c.if-n-ge-MAX_NODES.false refl c.put_row.ensures c.row_of-row.ensures)
