-- `log_lines::write_decimal` meets its contract: what the library writes is the definition's. Assumes nothing.
use Rattle.std.proofs.Common.{◌≡◌, length, ap, ◌∙◌, arith}
use Rattle.definition.specs.Job.{decimal}
use Rattle.log_lines.proofs.Text.{decimal_one, decimal_is}
use Rattle.log_lines.proofs.write_decimal.Goals as goal

pub put-requires : goal.put-requires
put-requires c = omega (arith, ap length (decimal_one c.args.x c.if-x-lt10.true), c.requires)

pub returns-then-x-lt10 : goal.returns-then-x-lt10
returns-then-x-lt10 c = rw (decimal_one c.args.x c.if-x-lt10.true) c.put.ensures

pub put-requires-2 : goal.put-requires-2
put-requires-2 c =
    let e : c.as_bytes.result.now ≡ decimal c.args.x = c.as_bytes.ensures.value ∙ c.format.ensures.text ∙ decimal_is c.args.x c.ranges.x.fits in
    omega (arith, ap length e, c.requires)

pub returns : goal.returns
returns c =
    let e : c.as_bytes.result.now ≡ decimal c.args.x = c.as_bytes.ensures.value ∙ c.format.ensures.text ∙ decimal_is c.args.x c.ranges.x.fits in
    rw e at c.put-2.ensures
