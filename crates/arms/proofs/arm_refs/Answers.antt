-- `arms::arm_refs` meets its contract. Assumes nothing.
use Rattle.arms.proofs.Guards.{join_left_mut, join_left_imm, subtype_left_mut, subtype_both_imm, subtype_imm_mut}
use Rattle.arms.proofs.arm_refs.Goals as goal

pub returns-in-Join-true-default : goal.returns-in-Join-true-default
returns-in-Join-true-default c = let a = c.in-Join-true-default in rw (a.is-0, a.is-1) (join_left_mut _ _ _)

pub returns-in-Join-false-default : goal.returns-in-Join-false-default
returns-in-Join-false-default c = let a = c.in-Join-false-default in rw (a.is-0, a.is-1) (join_left_imm _ _ _)

pub returns-in-Subtype-true-default : goal.returns-in-Subtype-true-default
returns-in-Subtype-true-default c = let a = c.in-Subtype-true-default in rw (a.is-0, a.is-1) (subtype_left_mut _ _ _)

pub returns-in-Subtype-false-true : goal.returns-in-Subtype-false-true
returns-in-Subtype-false-true c = let a = c.in-Subtype-false-true in rw (a.is-0, a.is-1, a.is-2) (subtype_imm_mut _ _)

pub returns-in-Subtype-false-false : goal.returns-in-Subtype-false-false
returns-in-Subtype-false-false c = let a = c.in-Subtype-false-false in rw (a.is-0, a.is-1, a.is-2) (subtype_both_imm _ _)
