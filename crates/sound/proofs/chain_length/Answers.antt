use Rattle.std.proofs.Common.{◌≡◌, ◌+◌, sym, arith}
use Rattle.sound.proofs.Links.{follows_next, links_end, links_from, chain_past}
use Rattle.sound.proofs.chain_length.Goals as goal

pub returns-then-known-gt0 : goal.returns-then-known-gt0
returns-then-known-gt0 c = links_from _ _ _ _ _ _ c.loop-n.invariant (rw c.noted-known.ensures (c.requires.links _ (rw (← c.noted-known.ensures) c.if-known-gt0.true)))

pub returns-in-None : goal.returns-in-None
returns-in-None c =
    let loop = c.loop-n in
    let z : loop.n + 0 ≡ loop.n = omega arith in
    rw z at (links_from _ _ _ _ _ 0 loop.invariant (links_end _ _ _ (sym c.in-None.ensures)))

pub loop-n-preserved : goal.loop-n-preserved
loop-n-preserved c = follows_next _ _ _ _ _ _ c.loop-n.invariant (sym c.in-Some.ensures)

pub returns : goal.returns
returns c = chain_past _ _ _ _ _ c.loop-n.invariant (omega arith)
