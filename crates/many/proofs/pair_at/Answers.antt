-- `many::pair_at` meets its contract. Assumes nothing.
use Rattle.many.proofs.pair_at.Goals as goal

pub returns : goal.returns
returns c = record { case = c.case_of.ensures; lhs = c.from.ensures; rhs = c.from-2.ensures }
