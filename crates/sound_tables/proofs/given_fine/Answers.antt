-- `sound_tables::given_fine` meets its contract. Assumes nothing.
use Rattle.std.proofs.Common.{rules, tests}
use Rattle.sound_fields.proofs.Below.{all_range}
use Rattle.sound_tables.specs.Tables.{bytes_fine}
use Rattle.sound_tables.proofs.given_fine.Goals as goal

pub returns : goal.returns
unfolding bytes_fine
returns c = all_range (bytes_fine c.args.lent.now.words.now c.args.lent.now.used c.args.params.now) _ c.all.ensures.ran (λ x b q k. search (rules, tests))
