-- `log_lines::write_payload` meets its contract. Assumes nothing.
use Rattle.std.proofs.Common.{arith}
use Rattle.log_lines.proofs.Text.{wrote_no_payload, wrote_payload}
use Rattle.log_lines.proofs.write_payload.Goals as goal

pub returns-then-len-eq0 : goal.returns-then-len-eq0
returns-then-len-eq0 c = wrote_no_payload c.args.log.now c.args.at c.args.len c.if-len-eq0.true

pub returns : goal.returns
returns c = wrote_payload c.args.log.now c.args.at c.args.len (omega (arith, c.if-len-eq0.false)) c.requires c.put-next.ensures c.spell.ensures
