-- `recheck::record_checked` meets its contract. Assumes nothing.
use native.Mathlib.Omega.{arith}
use mathlib.Core.Path.{◌∙◌}
use Rattle.std.proofs.Common.{rules}
use Rattle.log_lines.proofs.Text.{bytes_of}
use Rattle.lent.proofs.Passed.{stands_lent, lent_size, lent_lays}
use Rattle.engine.proofs.Laws.{few_bytes, record_gives}
use Rattle.recheck.proofs.Marked.{least_checked}
use Rattle.recheck.proofs.record_checked.Goals as goal

pub used_of-used-requires : goal.used_of-used-requires
used_of-used-requires c = lent_size _ _ c.requires.sound

pub new-st-requires : goal.new-st-requires
new-st-requires c = lent_lays _ _ c.requires.sound _ c.used_of-used.ensures

pub step_checked-a-requires : goal.step_checked-a-requires
step_checked-a-requires c =
    let n = c.new-st.ensures in
    record {
      stands = (stands_lent _ _ c.requires.sound c.new-st.result n.0 (n.1.0 ∙ c.used_of-used.ensures), (bytes_of c.args.«record».now c.type_inv.record, c.requires.mark.1));
      fresh = (n.1.1.1, (omega arith, omega arith));
      mark = c.requires.mark.0;
    }

pub overflow_cast-result : goal.overflow_cast-result
overflow_cast-result c = record { fits = few_bytes c.args.«record».now _ c.step_checked-a.ensures.steps.few }

pub returns : goal.returns
returns c =
    let n = c.new-st.ensures in
    let step = c.step_checked-a in
    let l = least_checked _ c.requires.mark.0 in
    record_gives _ _ c.requires.sound c.new-st.result n.0 (n.1.0 ∙ c.used_of-used.ensures) _ _ (omega (arith, l, c.requires.mark.1)) step.new.st _ _ _ step.ensures.steps
    c.write_used.new.self.words.now c.write_used.ensures.1 _ (search rules) step.auto.buf
