-- Computed: columns that do not fit, and saved words that are no sound state, are 15, and nothing changes. Each line is false under an edit of must-fail/. Assumes nothing.
use mathlib.Core.Path.{◌≡◌, refl}
use mathlib.Core.List.{[]}
use Rattle.table.specs.Encode.{counts, encode}
use Rattle.sound.specs.Lent.{lent_sound, same_words}
use Rattle.columns.specs.Columns.{fits, four_each}
use Rattle.columns.specs.Public.{column_step, convert}
use Rattle.columns.proofs.AnswersColumns.{of_lengths}

pub unfit_15 : column_step (of_lengths 2047 2048 2048 11781) [] [] 4096 ≡ record { number = 15; payload = []; columns = of_lengths 2047 2048 2048 11781; params = [] }
unfolding column_step fits four_each
unfit_15 = refl

pub unsound_15 : convert [] [] (of_lengths 2048 2048 2048 11781) ≡ record { number = 15; columns = of_lengths 2048 2048 2048 11781 }
unfolding convert fits four_each lent_sound same_words encode counts
unsound_15 = refl
