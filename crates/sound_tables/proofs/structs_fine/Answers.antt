-- `sound_tables::structs_fine` meets its contract. Assumes nothing.
use Rattle.std.proofs.Common.{rules, tests}
use Rattle.sound_fields.proofs.Below.{all_range}
use Rattle.sound_rows.specs.Rows.{struct_fine}
use Rattle.sound_tables.proofs.structs_fine.Goals as goal

pub returns : goal.returns
returns c = all_range (struct_fine c.args.lent.now.words.now) _ c.all.ensures.ran (λ x b q k. search (rules, tests))
