-- `check_log` meets its contract. Assumes nothing.
use Rattle.checklog.proofs.Wrote.{on_ok, told}
use Rattle.checklog.proofs.check_log.Goals as goal

pub returns : goal.returns
returns g c =
    on_ok c.write_verdict.result
    (told _ _ _ _ _ _ (rw c.new-stream.ensures.items at c.in_ok-read_to_end.ensures.bytes) (rw c.deref.ensures.value at c.in_ok-write_log.ensures) (rw c.deref-2.ensures.value at c.check_all-tally.ensures))
    c.write_verdict.ensures
