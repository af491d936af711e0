-- `constraints::failing_of` meets its contract. Assumes nothing.
use Rattle.constraints.proofs.Laws.{nothing_asked, node_fails, anything_fails}
use Rattle.constraints.proofs.failing_of.Goals as goal
use Rattle.constraints.proofs.failing_of.Goals.{in-Node, in-Anything}

pub returns-in_err-a : goal.returns-in_err-a
returns-in_err-a g c = rw c.from_residual.ensures (nothing_asked _ _ c.in_err-a.ensures)

pub unfold_type-requires : goal.unfold_type-requires
unfold_type-requires g c = rw c.in_ok-a.ensures.ty_is c.requires

pub returns : goal.returns
returns g c =
    let a = c.in_ok-a in
    elim c.match-unfold_type.branch [
      | in-Node w ↦ rw (c.then_some.ensures, w.shape-is) (node_fails _ a.a _ a.ensures _ c.unfold_type.ensures _ w.in-Node.is w.node_at.result w.node_at.ensures _ (rw w.shape-is at c.good-bad.ensures))
      | in-Anything w ↦ rw (c.then_some.ensures, w.shape-is) (anything_fails _ a.a _ a.ensures _ c.unfold_type.ensures _ w.in-Anything.is _ (rw w.shape-is at c.good-bad.ensures))
    ]
