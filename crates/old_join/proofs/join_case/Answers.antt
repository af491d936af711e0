-- `old_join::join_case` meets its contract. Assumes nothing.
use mathlib.Core.Path.{refl}
use Rattle.history.specs.Rows.{entries_of}
use Rattle.history.proofs.Carried.{carried}
use Rattle.old_join.proofs.join_case.Goals as goal

pub returns : goal.returns
returns c =
    let past = c.join_impl-out in
    let stored = c.store.ensures in
    carried past.new.past c.start-past.ensures past.ensures.0 (entries_of past.new.past) refl stored.words stored.used stored.name stored.saved stored.touched
