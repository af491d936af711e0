-- `table::State::put_cell` meets its contract. Assumes nothing.
use mathlib.Core.Path.{refl}
use Rattle.table.proofs.Did.{linked_now}
use Rattle.table.proofs.Linked.{linked_cell}
use Rattle.table.proofs.Primitives.{found_in}
use Rattle.table.proofs.Pushed.{cell_put, cell_none}
use Rattle.table.proofs.state.State.put_cell.Goals as goal

pub invariant_of-self : goal.invariant_of-self
invariant_of-self c = record { lay = (rw c.from-i.ensures.0 at (cell_put _ _ _ _ _ _ c.args.self.now.lay (found_in _ c.args.b c.requires) _ _ c.if-i-self.true c.put_row.ensures c.cell_row-row.ensures)).lay }

pub returns-then-i-self : goal.returns-then-i-self
returns-then-i-self c =
    record { changed = record { same = linked_cell refl refl _ _ c.put_row.ensures c.touch-self.ensures; step = rw c.from-i.ensures.0 at (cell_put _ _ _ _ _ _ c.args.self.now.lay (found_in _ c.args.b c.requires) _ _ c.if-i-self.true c.put_row.ensures c.cell_row-row.ensures) }; used = refl }

pub returns-else-i-self : goal.returns-else-i-self
returns-else-i-self c = record { changed = record { same = linked_now _; step = cell_none _ _ _ _ _ _ c.args.self.now.lay (found_in _ c.args.b c.requires) (rw c.from-i.ensures.0 at c.if-i-self.false) }; used = refl }
