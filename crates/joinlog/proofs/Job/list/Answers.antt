-- `joinlog::Job::list` meets its contract: words, rows, rest and lines are those of `engine::job`. Assumes nothing.
use Rattle.std.proofs.Common.{◌≡◌, ℕ, ap, arith}
use lib.ListN.{length-take}
use Rattle.turns.specs.declared.Turn.{Turn}
use Rattle.joinlog.proofs.Chain.{listed, gave_text}
use Rattle.joinlog.proofs.Job.list.Goals as goal

pub returns-clause-listed : goal.returns-clause-listed
returns-clause-listed g c =
    let next = c.next_lines-lines in
    let handed = rw next.ensures.same_turn at c.hand_over-self.ensures.handed in
    listed _ c.requires next.ensures.lines next.ensures.same_bytes handed (omega (arith, length-take {A = ℕ}, next.ensures.lines.fits))

pub returns-clause-gave : goal.returns-clause-gave
returns-clause-gave g c =
    let over = c.hand_over-self.ensures in
    let size = ap (λ (t : Turn). t.written) over.handed.is in
    let whole : c.hand_over-self.result.written ≡ c.next_lines-lines.result.written = omega (arith, size, length-take {A = ℕ}, c.next_lines-lines.ensures.lines.fits) in
    gave_text _ _ _ _ _ whole over.gave
