-- `snapshot::copy_words` meets its contract. Assumes nothing.
use Rattle.std.proofs.Common.{arith}
use Rattle.table.proofs.Rows.{wrote_more}
use Rattle.snapshot.proofs.copy_words.Goals as goal

pub loop-k-preserved : goal.loop-k-preserved
loop-k-preserved c = wrote_more _ _ _ _ _ c.loop-k.invariant (omega (arith, c.requires, c.loop-k-test.true))
