-- `old_merge::merge_num` meets its contract. Assumes nothing.
use native.Mathlib.Omega.{arith}
use Rattle.merge.proofs.Laws.{marks_none}
use Rattle.old_merge.proofs.Fresh.{marks_unbound}
use Rattle.old_merge.proofs.merge_num.Goals as goal

pub returns-in-Some : goal.returns-in-Some
returns-in-Some c = (marks_unbound c.args.num_loc_1 c.args.num_loc_2 _ _ c.or.ensures c.in-Some.is c.requires.0 c.mark_var.ensures.0, c.mark_var.ensures.1)

pub returns-in_default : goal.returns-in_default
returns-in_default c = (marks_none c.args.num_loc_1 c.args.num_loc_2 _ _ c.or.ensures c.in_default.is, (omega arith, omega arith))
