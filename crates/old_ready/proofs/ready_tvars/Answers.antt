-- `old_ready::ready_tvars` meets its contract. Assumes nothing.
use mathlib.Core.Path.{refl}
use Rattle.history.specs.Rows.{entries_of}
use Rattle.history.proofs.Carried.{carried}
use Rattle.old_ready.proofs.ready_tvars.Goals as goal

pub returns : goal.returns
returns c =
    let x = c.store.ensures in
    let past = c.ready_past-out in
    carried past.new.past c.start-past.ensures past.ensures.0 (entries_of past.new.past) refl x.words x.used x.name x.saved x.touched
