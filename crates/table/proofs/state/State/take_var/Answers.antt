-- `table::State::take_var` meets its contract. Assumes nothing.
use mathlib.Core.Path.{refl}
use Rattle.table.proofs.Linked.{linked_same}
use Rattle.table.proofs.Did.{var_took}
use Rattle.table.proofs.state.State.take_var.Goals as goal

pub invariant_of-self : goal.invariant_of-self
invariant_of-self c = record { lay = (var_took _ _ _ c.next_tvar.result c.args.self.now.lay c.next_tvar.ensures).0.lay }

pub returns : goal.returns
returns c = let x = var_took _ _ _ c.next_tvar.result c.args.self.now.lay c.next_tvar.ensures in
    record { changed = record { same = linked_same refl refl refl (λ i p. refl); step = x.0 }; inside = x.1 }
