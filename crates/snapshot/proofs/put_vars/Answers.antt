-- `snapshot::put_vars` meets its contract. Assumes nothing.
use Rattle.snapshot.proofs.Back.{putting_back, put_stay}
use Rattle.snapshot.proofs.put_vars.Goals as goal

pub returns : goal.returns
returns c = (putting_back _ _ _ _ _ _ c.requires.0 c.copy_touched.ensures c.zero_rows.ensures, put_stay _ c.args.u c.args.before.used _ _ _ c.copy_touched.ensures c.zero_rows.ensures)
