-- `step::answer_declared` meets its contract. Assumes nothing.
use mathlib.Core.Path.{refl, ◌∙◌}
use Rattle.answer.proofs.Calls.{kept_never}
use Rattle.answer.proofs.Growing.{noted_since}
use Rattle.step.proofs.Replying.{then_grown, as_other, declared_bytes, ok_done, declared_row, reply_declared}
use Rattle.step.proofs.answer_declared.Goals as goal
use Rattle.table.proofs.Did.{linked}

pub settle-a-requires : goal.settle-a-requires
settle-a-requires g c =
    let b = c.requires.1.from in
    let d = rw c.from.ensures at c.run_declare-ran.ensures in
    (then_grown b c.args.before refl refl c.run_declare-ran.new.st d.same d.grown, ((d.tells, (declared_bytes b d, c.requires.0.1)), λ t o f. kept_never d.kept_is f))

pub padded-requires : goal.padded-requires
padded-requires g c = c.requires.0.0

pub put_row-requires : goal.put_row-requires
put_row-requires g c =
    let d = rw c.from.ensures at c.run_declare-ran.ensures in
    declared_row _ _ c.requires.1.from d c.padded.ensures.1 c.requires.0.0 _ _ _ (c.ok-number.ensures.value ∙ ok_done _) c.row_for-n.ensures

pub returns : goal.returns
returns g c =
    let d = rw c.from.ensures at c.run_declare-ran.ensures in
    record {
      name = c.settle-a.ensures.same.name ∙ d.same.name;
      noted = noted_since c.requires.1.from.saved c.requires.1.from.since (linked c.settle-a.ensures.same d.same);
      is = λ x b. as_other b refl refl (reply_declared _ _ b d c.padded.ensures.1 c.requires.0.0 _ _ _ (c.ok-number.ensures.value ∙ ok_done _) c.row_for-n.ensures
          c.settle-a.ensures refl refl _ c.padded.ensures.0 _ c.put_row.ensures);
    }
