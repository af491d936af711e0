-- `answer::settle_ready` meets its contract. Assumes nothing.
use Rattle.theorems.specs.ReadySpelled.{spell_ready}
use Rattle.canonical.specs.Named.{spelling_of}
use Rattle.answer.proofs.settle_ready.Goals as goal

pub settle_spelled-requires : goal.settle_spelled-requires
settle_spelled-requires g c = (c.requires.0, c.requires.1.1)

pub returns : goal.returns
returns g c = c.settle_spelled.ensures (λ s. spell_ready (spelling_of c.args.spelling) s c.args.t) c.args.buf.now _ c.spell_type-spelled.ensures
