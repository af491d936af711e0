-- `arms::arm_applies` meets its contract. Assumes nothing.
use mathlib.Core.Path.{sym, ◌∙◌}
use Rattle.arms.proofs.Guards.{applies_same, applies_disagree, applies_arity, applies_other_left, applies_other_right}
use Rattle.arms.proofs.arm_applies.Goals as goal

pub returns-then-eq-2 : goal.returns-then-eq-2
returns-then-eq-2 c = λ case. applies_same _ _ case (sym c.eq.ensures ∙ c.if-eq.true) (sym c.eq-then-eq.ensures ∙ c.if-eq-2.true)

pub returns-else-eq-2 : goal.returns-else-eq-2
returns-else-eq-2 c = λ case. applies_disagree _ _ case (sym c.eq.ensures ∙ c.if-eq.true) (sym c.eq-then-eq.ensures ∙ c.if-eq-2.false)

pub returns-in-Multiple-Multiple : goal.returns-in-Multiple-Multiple
returns-in-Multiple-Multiple c = let a = c.in-Multiple-Multiple in λ case. applies_arity _ _ case (sym c.eq.ensures ∙ c.if-eq.false) _ _ a.is-0 a.is-1

pub returns-in_default : goal.returns-in_default
returns-in_default c = let a = c.in_default in λ case. applies_other_right _ _ case (sym c.eq.ensures ∙ c.if-eq.false) _ a.is-0 a.not-Multiple-1

pub returns-in_default-2 : goal.returns-in_default-2
returns-in_default-2 c = λ case. applies_other_left _ _ case (sym c.eq.ensures ∙ c.if-eq.false) c.in_default.not-Multiple-0
