-- `compare::same_by_both` meets its contract. Assumes nothing.
use Rattle.checklog.proofs.Same.{same}
use Rattle.checklog.proofs.compare.same_by_both.Goals as goal

pub returns-clause-same : goal.returns-clause-same
returns-clause-same c = same _ _ _ _ _ _ _ _ _ _ _ c.lent_record-a.ensures (rw c.copy_from_slice.ensures.after at c.check_record-b.ensures)
    (rw (c.told.ensures, c.told-2.ensures) at c.same_told-numbers.ensures) c.same_bytes-payloads.ensures c.same_words-all_words.ensures c.same_rows-all_rows.ensures
    _ c.all_four.ensures
