-- `merge::merge_num` meets its contract. Assumes nothing.
use Rattle.merge.proofs.Laws.{marks_some, marks_none}
use Rattle.merge.proofs.merge_num.Goals as goal

pub returns-in-Some : goal.returns-in-Some
returns-in-Some c = marks_some _ _ _ _ c.or.ensures c.in-Some.is c.set_num_var.ensures c.set_need.ensures

pub returns-in_default : goal.returns-in_default
returns-in_default c = marks_none _ _ _ _ c.or.ensures c.in_default.is
