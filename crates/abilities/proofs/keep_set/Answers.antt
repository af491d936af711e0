-- `abilities::keep_set` meets its contract. Assumes nothing.
use mathlib.Core.Path.{◌∙◌}
use native.Mathlib.Omega.{arith}
use Rattle.abilities.proofs.Sets.{kept_ready, inferred_here}
use Rattle.abilities.proofs.keep_set.Goals as goal

pub set_of-a-requires : goal.set_of-a-requires
set_of-a-requires g c = let pre = c.requires in
    kept_ready _ _ _ _ _ c.goes_on-s.ensures pre.1.0 pre.1.1.known

pub overflow_add-sets : goal.overflow_add-sets
overflow_add-sets g c = omega (arith, c.from.ensures.1)

pub bounds-sets-at : goal.bounds-sets-at
bounds-sets-at g c = let pre = c.requires in
    omega (arith, c.wide-at.ensures, pre.0, (g.S.ReadState.state c.args.chains.now.st.now).lay.nodes, pre.1.0.size)

pub returns : goal.returns
returns g c = let pre = c.requires in
    let goes = c.goes_on-s.ensures in
    let set = c.set_of-a.ensures in
    rw c.wide-at.ensures (inferred_here pre.0 pre.1.0 pre.1.1 goes _ c.from.ensures.1 (λ ds k. c.from.ensures.0 ∙ set ds k))
