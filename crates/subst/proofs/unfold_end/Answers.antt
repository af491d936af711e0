-- `subst::unfold_end` meets its contract. Assumes nothing.
use Rattle.subst.proofs.Unfold.{unfolds_open, unfolds_bound}
use Rattle.subst.proofs.unfold_end.Goals as goal

pub returns-in-None : goal.returns-in-None
returns-in-None g c = λ v l. unfolds_open _ _ v _ _ l c.bound_at.ensures c.in-None.is

pub returns-in-Some : goal.returns-in-Some
returns-in-Some g c = λ v l. unfolds_bound _ _ v _ _ l c.bound_at.ensures _ c.in-Some.is
