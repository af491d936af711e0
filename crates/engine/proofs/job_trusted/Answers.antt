-- `engine::job_trusted` meets its contract. Assumes nothing.
use mathlib.Core.Path.{◌∙◌}
use Rattle.std.proofs.Common.{rules}
use Rattle.lent.proofs.Passed.{stands_lent, lent_size, lent_lays}
use Rattle.engine.proofs.Laws.{job_gives}
use Rattle.engine.proofs.job_trusted.Goals as goal

pub used_of-used-requires : goal.used_of-used-requires
used_of-used-requires c = lent_size _ _ c.requires

pub new-st-requires : goal.new-st-requires
new-st-requires c = lent_lays _ _ c.requires _ c.used_of-used.ensures

pub lines_trusted-lines-requires : goal.lines_trusted-lines-requires
lines_trusted-lines-requires c =
    let n = c.new-st.ensures in
    (stands_lent _ _ c.requires c.new-st.result n.0 (n.1.0 ∙ c.used_of-used.ensures), n.1.1.1)

pub returns : goal.returns
returns c =
    let n = c.new-st.ensures in
    let lines = c.lines_trusted-lines in
    job_gives _ _ c.requires c.new-st.result n.0 (n.1.0 ∙ c.used_of-used.ensures) _ _ _ _ lines.new.st _ _ _ lines.ensures
    c.write_used.new.self.words.now c.write_used.ensures.1 _ (search rules) lines.auto.log
