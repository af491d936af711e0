-- `sound_fields::bytes_fine` meets its contract. Assumes nothing.
use Rattle.std.proofs.Common.{rules, tests}
use Rattle.sound_fields.specs.Fields.{byte_fine}
use Rattle.sound_fields.proofs.Below.{all_range}
use Rattle.sound_fields.proofs.bytes_fine.Goals as goal

pub returns : goal.returns
returns c = all_range (byte_fine c.args.bytes c.args.n) _ c.all.ensures.ran (λ x b q k. search (rules, tests))
