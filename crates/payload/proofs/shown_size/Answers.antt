-- `payload::shown_size` meets its contract. Assumes nothing.
use Rattle.payload.specs.Payload.{shown}
use Rattle.payload.proofs.shown_size.Goals as goal

pub returns-in-Node : goal.returns-in-Node
unfolding shown
returns-in-Node c = rw c.in-Node.is c.size_type.ensures

pub returns-in-Two : goal.returns-in-Two
unfolding shown
returns-in-Two c = rw c.in-Two.is c.two_size.ensures
