-- `table::State::write_used` meets its contract. Assumes nothing.
use mathlib.Core.Path.{refl}
use Rattle.table.proofs.Linked.{linked_same, counts_apart}
use Rattle.table.proofs.Encoded.{used_written, counts_stored}
use Rattle.table.proofs.Did.{of_stored}
use Rattle.table.proofs.state.State.write_used.Goals as goal

pub invariant_of-self : goal.invariant_of-self
invariant_of-self c = record { lay = (counts_stored _ _ _ _ c.args.self.now.lay c.write_words.ensures).lay }

pub returns : goal.returns
returns c = (of_stored (linked_same refl refl refl (counts_apart _ _ _ c.write_words.ensures)) refl (counts_stored _ _ _ _ c.args.self.now.lay c.write_words.ensures), used_written _ _ _ c.args.self.now.lay c.write_words.ensures)
