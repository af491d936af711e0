-- `old_merge::type_of` meets its contract. Assumes nothing.
use mathlib.Core.Path.{sym, ◌∙◌}
use Rattle.table.proofs.Did.{did_now, did_is}
use Rattle.merge.proofs.Answers.{bound_in}
use Rattle.merge.proofs.Laws.{end_free, end_bound}
use Rattle.old_merge.proofs.Room.{within_now}
use Rattle.old_merge.proofs.type_of.Goals as goal

pub returns-in-None : goal.returns-in-None
returns-in-None c = (did_is (λ ds k. end_free _ _ _ (sym (c.in-None.is) ∙ c.bound_at.ensures ds)) c.push_node.ensures.0, c.push_node.ensures.1)

pub returns-in-Some : goal.returns-in-Some
returns-in-Some c = (
  did_now (bound_in _ _ _ _ _ c.args.past.now.holds.lay c.bound_at.ensures c.in-Some.is) (λ ds k. end_bound _ _ _ _ (sym c.in-Some.is ∙ c.bound_at.ensures ds)),
  within_now c.args.past.now,
)
