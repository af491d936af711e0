-- `table::State::push_struct` meets its contract. Assumes nothing.
use mathlib.Core.Path.{refl}
use Rattle.table.proofs.Did.{linked_now}
use Rattle.table.proofs.Linked.{linked_same, struct_apart}
use Rattle.table.proofs.Written.{struct_row}
use Rattle.table.proofs.Pushed.{structs_full, struct_pushed}
use Rattle.table.proofs.state.State.push_struct.Goals as goal

pub returns-then-n-ge-MAX_STRUCTS : goal.returns-then-n-ge-MAX_STRUCTS
returns-then-n-ge-MAX_STRUCTS c = record { same = linked_now _; declared = structs_full _ _ _ _ c.args.self.now.lay c.if-n-ge-MAX_STRUCTS.true }

pub invariant_of-self : goal.invariant_of-self
invariant_of-self c = let bits = c.from.ensures in
    record { lay = (struct_pushed _ _ _ _ c.args.self.now.lay _ _ c.if-n-ge-MAX_STRUCTS.false c.put_row.ensures (struct_row _ _ _ bits.0 bits.1)).lay }

pub returns : goal.returns
returns c = let bits = c.from.ensures in
    record { same = linked_same refl refl refl (struct_apart _ _ _ _ c.put_row.ensures); declared = struct_pushed _ _ _ _ c.args.self.now.lay _ _ c.if-n-ge-MAX_STRUCTS.false c.put_row.ensures (struct_row _ _ _ bits.0 bits.1) }
