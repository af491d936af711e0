use Rattle.ends.proofs.Itself.{few_all}
use Rattle.ends.proofs.chains.Chains.+soon_over.Goals as goal

pub returns : goal.returns
returns g t c = few_all c.loop-i.invariant c.loop-i-test.false _
