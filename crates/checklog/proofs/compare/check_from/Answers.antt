-- `compare::check_from` meets its contract: record after record. Assumes nothing.
use Rattle.std.proofs.Common.{◌≡◌, ℕ, List, ◌-◌, ◌<◌, length, take, sym, ap, ◌∙◌, arith, rules}
use Rattle.checklog.proofs.Turns.{going_over, going_both, going_one, shorter, none_left}
use Rattle.checklog.proofs.compare.check_from.Goals as goal
use Rattle.checklog.proofs.compare.check_from.Goals.{then-is_checked, else-is_checked}

pub returns-then-is_empty : goal.returns-then-is_empty
returns-then-is_empty c =
    let none : length (take (length c.loop-record.rest.now - length c.split-after.result.now) c.loop-record.rest.now) ≡ 0 = search rules in
    going_over c.loop-record.invariant (rw c.split-after.ensures.rest at none)

pub loop-record-preserved : goal.loop-record-preserved
loop-record-preserved c =
    let is = c.split-after.ensures.rest in
    let at_head = ap (λ (a : List ℕ). take (length c.loop-record.rest.now - length a) c.loop-record.rest.now) is in
    let some : 0 < length (take (length c.loop-record.rest.now - length c.split-after.result.now) c.loop-record.rest.now) = search rules in
    let short = shorter _ c.loop-record.rest.now some in
    elim c.if-is_checked.branch [
      | then-is_checked w ↦
          let b = rw c.split-after.ensures.state_unchanged at w.same_by_both-one.ensures in
          rw (w.words-is, w.rows-is, w.payload-is, w.tally-is, w.with-tally.ensures)
          (going_both c.loop-record.invariant _ _ _ _ is at_head (search rules) short _ (sym c.is_checked.ensures ∙ w.if-is_checked.true) b.same b.goes_on)
      | else-is_checked w ↦
          let b = rw c.split-after.ensures.state_unchanged at w.by_one.ensures in
          rw (w.words-is, w.rows-is, w.payload-is, w.tally-is)
          (going_one c.loop-record.invariant _ _ _ _ is at_head (search rules) short _ b.same_room (sym c.is_checked.ensures ∙ w.if-is_checked.false) b.goes_on)
    ]

pub returns : goal.returns
returns c = going_over c.loop-record.invariant (none_left _ _ c.loop-record.rest.now (omega (arith, c.loop-record.invariant.left, c.loop-record-test.false)))
