-- `merge::type_of` meets its contract. Assumes nothing.
use Rattle.table.proofs.Did.{did_now, did_is}
use mathlib.Core.Path.{sym, ◌∙◌}
use Rattle.merge.proofs.Answers.{bound_in}
use Rattle.merge.proofs.Laws.{end_free, end_bound}
use Rattle.merge.proofs.type_of.Goals as goal

pub returns-in-None : goal.returns-in-None
returns-in-None c = did_is (λ ds k. end_free _ _ _ (sym (c.in-None.is) ∙ c.bound_at.ensures ds)) c.push_node.ensures

pub returns-in-Some : goal.returns-in-Some
returns-in-Some c =
    did_now (bound_in _ _ _ _ _ c.args.st.now.lay c.bound_at.ensures c.in-Some.is)
    (λ ds k. end_bound _ _ _ _ (sym c.in-Some.is ∙ c.bound_at.ensures ds))
