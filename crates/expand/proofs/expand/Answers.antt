-- `expand::expand` meets its contract. Assumes nothing.
use Rattle.table.specs.Did.{held}
use Rattle.expand.specs.Told.{expanded_bytes}
use Rattle.expand.proofs.expand.Goals as goal

pub returns : goal.returns
returns g c = λ ds k ar h. c.settle_spelled.ensures (λ s. expanded_bytes (held c.args.st.now ds) c.args.t) c.args.buf.now _ (λ _. c.spell_type-spelled.ensures ds k ar h)
