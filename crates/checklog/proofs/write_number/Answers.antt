-- `write_number` meets its contract: what the library writes is the definition's. Assumes nothing.
use Rattle.std.proofs.Common.{◌∙◌}
use Rattle.log_lines.proofs.Text.{decimal_is}
use Rattle.checklog.proofs.write_number.Goals as goal

pub returns : goal.returns
returns g c = rw (c.as_bytes.ensures.value ∙ c.format.ensures.text ∙ decimal_is c.args.n c.ranges.n.fits) at c.write_all.ensures.bytes
