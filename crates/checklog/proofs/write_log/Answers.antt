-- `write_log` meets its contract: call after call. Assumes nothing.
use Rattle.log_lines.proofs.Text.{bytes_of}
use Rattle.engine.proofs.Fresh.{no_words, no_params}
use Rattle.checklog.proofs.Wrote.{wrote_none, wrote_all, wrote_on}
use Rattle.checklog.proofs.write_log.Goals as goal

pub loop-call-init : goal.loop-call-init
loop-call-init g c = wrote_none _ _ _ _ no_words no_params (bytes_of _ c.type_inv.stream)

pub returns-then-lines : goal.returns-then-lines
returns-then-lines g c = wrote_all c.loop-call.invariant _ _ _ _ _ _ c.next_lines-lines.ensures _ c.in_ok-write_all.ensures.bytes c.if-lines.true (bytes_of _ c.type_inv.stream)

pub loop-call-preserved : goal.loop-call-preserved
loop-call-preserved g c = rw c.behind-rest.ensures (wrote_on c.loop-call.invariant _ _ _ _ _ _ c.next_lines-lines.ensures _ c.in_ok-write_all.ensures.bytes c.if-lines.false)
