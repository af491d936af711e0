use Rattle.std.proofs.Common.{◌≡◌, ◌+◌, ◌-◌, subst, sym, ℕ, arith}
use Rattle.sound.specs.Chains.{Links}
use Rattle.sound.proofs.Links.{noted_more, links_tail}
use Rattle.sound.proofs.note_chain.Goals as goal

pub returns-in-None : goal.returns-in-None
returns-in-None c = let loop = c.loop-done in rw c.note.ensures (noted_more _ _ _ _ _ loop.invariant.0 (omega arith) loop.invariant.1)

pub loop-done-preserved : goal.loop-done-preserved
loop-done-preserved c =
    let loop = c.loop-done in
    let lent = c.args.lent.now in
    let left = c.args.n - loop.done in
    let e : left - 1 ≡ c.args.n - (loop.done + 1) = omega arith in (
      rw c.note.ensures (noted_more _ _ _ _ _ loop.invariant.0 (omega arith) loop.invariant.1),
      subst (λ (k : ℕ). Links lent.words.now lent.used c.in-Some.x.0 k) e
          (links_tail _ _ _ _ _ loop.invariant.1 (sym c.in-Some.ensures) (omega arith)),
    )
