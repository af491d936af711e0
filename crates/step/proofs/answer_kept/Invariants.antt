-- `step::answer_kept` meets its contract. Assumes nothing.
use Rattle.std.specs.Prelude.{take}
use Rattle.step.proofs.answer_kept.Given as goal

abbrev pub ghost-keep_listed : goal.ghost-keep_listed
ghost-keep_listed a = take a.n a.names.now
