-- `snapshot::zero_rows` meets its contract. Assumes nothing.
use Rattle.std.proofs.Common.{rules}
use Rattle.snapshot.proofs.Parts.{wrote_part, rows_end}
use Rattle.snapshot.proofs.zero_rows.Goals as goal

pub returns : goal.returns
returns c c' =
    let e = rows_end c'.args.base c'.args.from c'.args.to c.row.N c'.requires.0 in
    rw e (wrote_part _ _ _ _ _ (rw e at c'.requires.1) (search (e, rules)) (search (e, rules)))
