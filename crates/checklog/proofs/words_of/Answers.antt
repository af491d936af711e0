-- `words_of` meets its contract. Assumes nothing.
use mathlib.Core.Path.{refl}
use Rattle.checklog.specs.Checked.{words_of}
use Rattle.checklog.proofs.words_of.Goals as goal

pub returns-then-same : goal.returns-then-same
unfolding words_of
returns-then-same c = rw c.if-same.true refl

pub returns-else-same : goal.returns-else-same
unfolding words_of
returns-else-same c = rw c.if-same.false refl
