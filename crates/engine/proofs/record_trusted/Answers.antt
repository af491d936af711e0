-- `engine::record_trusted` meets its contract. Assumes nothing.
use native.Mathlib.Omega.{arith}
use mathlib.Core.Path.{◌∙◌}
use Rattle.std.proofs.Common.{rules}
use Rattle.log_lines.proofs.Text.{bytes_of}
use Rattle.lent.proofs.Passed.{stands_lent, lent_size, lent_lays}
use Rattle.engine.proofs.Laws.{few_bytes, record_gives}
use Rattle.engine.proofs.record_trusted.Goals as goal

pub used_of-used-requires : goal.used_of-used-requires
used_of-used-requires c = lent_size _ _ c.requires.0

pub new-st-requires : goal.new-st-requires
new-st-requires c = lent_lays _ _ c.requires.0 _ c.used_of-used.ensures

pub step_trusted-r-requires : goal.step_trusted-r-requires
step_trusted-r-requires c =
    let n = c.new-st.ensures in
    record {
      stands = (stands_lent _ _ c.requires.0 c.new-st.result n.0 (n.1.0 ∙ c.used_of-used.ensures), (bytes_of c.args.«record».now c.type_inv.record, (omega arith, (omega arith, c.requires.1))));
      noted = λ v p. absurd (omega (arith, p, n.1.1.1));
      list = omega arith;
    }

pub overflow_cast-result : goal.overflow_cast-result
overflow_cast-result c = record { fits = few_bytes c.args.«record».now _ c.step_trusted-r.ensures.steps.few }

pub returns : goal.returns
returns c =
    let n = c.new-st.ensures in
    let step = c.step_trusted-r in
    record_gives _ _ c.requires.0 c.new-st.result n.0 (n.1.0 ∙ c.used_of-used.ensures) _ _ c.requires.1 step.new.st _ _ _ step.ensures.steps
    c.write_used.new.self.words.now c.write_used.ensures.1 _ (search rules) step.auto.buf
