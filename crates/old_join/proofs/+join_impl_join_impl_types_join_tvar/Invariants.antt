-- `old_join::join_impl`, `join_impl_types` and `join_tvar` meet their contracts, as one cycle of calls. Twice the depth left falls, and stands one higher where
-- the argument walk and the merge call the operand walk at the same depth. Assumes nothing.
use Rattle.join.proofs.Args.{Gathering}
use Rattle.arms.specs.Arms.{case_of}
use Rattle.history.specs.Past.{as_rows, Within}
use Prim.Native.Nat.{◌+◌}
use Rattle.old_join.proofs.+join_impl_join_impl_types_join_tvar.Given as goal

abbrev pub decreases-join_impl : goal.decreases-join_impl
decreases-join_impl l = l.left + l.left

abbrev pub decreases-join_impl_types : goal.decreases-join_impl_types
decreases-join_impl_types l = l.left + l.left + 1

abbrev pub decreases-join_tvar : goal.decreases-join_tvar
decreases-join_tvar l = l.left + l.left + 1

abbrev pub invariant-join_impl_types-loop-i : goal.invariant-join_impl_types-loop-i
invariant-join_impl_types-loop-i l = Gathering l.left (case_of l.case) l.t1 l.t2 l.many (as_rows l.initial.past) (as_rows l.past) l.tys l.i × Within l.initial.past l.past
