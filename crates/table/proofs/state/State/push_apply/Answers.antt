-- `table::State::push_apply` meets its contract. Assumes nothing.
use native.Mathlib.Omega.{arith}
use mathlib.Core.Path.{refl, ◌∙◌}
use Rattle.table.proofs.Linked.{linked_same, node_apart, args_apart}
use Rattle.table.proofs.Primitives.{apply_full, apply_pushed}
use Rattle.table.proofs.Pushed.{node_full}
use Rattle.table.proofs.Did.{of_when, linked_now}
use borrow.Author.Rules.{rules}
use Rattle.table.proofs.state.State.push_apply.Goals as goal
use Rattle.table.proofs.state.State.push_apply.Goals.{then-t-ge-MAX_NODES-via-then-t-ge-MAX_NODES, then-t-ge-MAX_NODES-via-else-t-ge-MAX_NODES+then-first-n}

pub returns-then-t-ge-MAX_NODES : goal.returns-then-t-ge-MAX_NODES
returns-then-t-ge-MAX_NODES c = elim c.then-t-ge-MAX_NODES.branch [
  | then-t-ge-MAX_NODES-via-then-t-ge-MAX_NODES w ↦ of_when (linked_now _) (node_full _ _ _ _ c.args.self.now.lay w.if-t-ge-MAX_NODES.true)
  | then-t-ge-MAX_NODES-via-else-t-ge-MAX_NODES+then-first-n w ↦
      of_when (linked_now _) (apply_full _ _ _ c.args.k c.args.name _ _ c.args.self.now.lay c.requires (search rules) w.if-t-ge-MAX_NODES.false w.if-first-n.true)
]

pub invariant_of-self : goal.invariant_of-self
invariant_of-self c = let fits = c.if-first-n.false in
    let room = c.if-t-ge-MAX_NODES.false in
    record {
      lay = (apply_pushed _ _ _ c.args.k c.args.name _ _ c.args.self.now.lay c.requires (search rules) room _ _ _ _ _ (λ q. omega (arith, fits)) refl
          c.wide.ensures c.write_parts.ensures c.put_row.ensures c.row_of-row.ensures).changed.lay;
    }

pub returns : goal.returns
returns c = let fits = c.if-first-n.false in
    let room = c.if-t-ge-MAX_NODES.false in
    let few = c.args.self.now.lay.args in
    let places = args_apart _ _ _ _ _ (omega (arith, fits, few, c.wide.ensures)) c.write_parts.ensures in
    let node = node_apart _ _ _ _ (omega (arith, room)) c.put_row.ensures in
    of_when (linked_same refl refl refl (λ i p. node i p ∙ places i p)) (apply_pushed _ _ _ c.args.k c.args.name _ _ c.args.self.now.lay c.requires (search rules) room _ _ _ _ _ (λ q. omega (arith, fits)) refl
    c.wide.ensures c.write_parts.ensures c.put_row.ensures c.row_of-row.ensures)
