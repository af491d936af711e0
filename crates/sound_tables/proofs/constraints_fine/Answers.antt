-- `sound_tables::constraints_fine` meets its contract. Assumes nothing.
use Rattle.std.proofs.Common.{rules, tests}
use Rattle.sound_fields.proofs.Below.{all_range}
use Rattle.sound_rows.specs.Rows.{constraint_fine}
use Rattle.sound_tables.proofs.constraints_fine.Goals as goal

pub returns : goal.returns
returns c = all_range (constraint_fine c.args.lent.now.words.now c.args.lent.now.used) _ c.all.ensures.ran (λ x b q k. search (rules, tests))
