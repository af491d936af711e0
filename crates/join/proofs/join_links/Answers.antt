-- `join::join_links` meets its contract. Assumes nothing.
use native.Mathlib.Omega.{arith}
use Rattle.definition.specs.Types.{max_depth}
use Rattle.definition.specs.Join.{join}
use Rattle.definition.specs.Links.{join_links}
use Rattle.join.proofs.join_links.Goals as goal

pub returns : goal.returns
unfolding join join_links max_depth
returns c = (c.join_impl-out.ensures.0, λ ds. let z = c.join_impl-out.ensures.1.is ds in omega (arith, z))
