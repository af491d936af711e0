-- `table::State::push_constraint` meets its contract. Assumes nothing.
use mathlib.Core.Path.{refl}
use Rattle.table.proofs.Did.{linked_now}
use Rattle.table.proofs.Linked.{linked_same, constraint_apart}
use Rattle.table.proofs.Pushed.{constraints_full, constraint_pushed}
use Rattle.table.proofs.state.State.push_constraint.Goals as goal

pub returns-then-n-ge-MAX_CONSTRAINTS : goal.returns-then-n-ge-MAX_CONSTRAINTS
returns-then-n-ge-MAX_CONSTRAINTS c = record { changed = record { same = linked_now _; step = constraints_full _ _ _ c.args.self.now.lay c.if-n-ge-MAX_CONSTRAINTS.true }; inside = tt }

pub invariant_of-self : goal.invariant_of-self
invariant_of-self c = record { lay = (constraint_pushed _ _ _ c.args.self.now.lay _ _ c.if-n-ge-MAX_CONSTRAINTS.false c.put_row.ensures c.constraint_row-row.ensures).lay }

pub returns : goal.returns
returns c = record { changed = record { same = linked_same refl refl refl (constraint_apart _ _ _ _ c.put_row.ensures); step = constraint_pushed _ _ _ c.args.self.now.lay _ _ c.if-n-ge-MAX_CONSTRAINTS.false c.put_row.ensures c.constraint_row-row.ensures }; inside = tt }
